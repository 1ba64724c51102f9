-- The term of what is seen at a cell.
use Rattle.std.proofs.Common.{◌≡◌, ℕ, List, length, All, sym, ap, ◌∙◌, arith, subst}
use Rattle.prolog_terms.specs.Tree.{compound}
use Rattle.term_store.specs.declared.cell.Cell.{Cell}
use Rattle.term_store.specs.declared.cell.View.{View}
use Rattle.term_store.specs.declared.cell.View.TheVariants.{Variable, Integer, Atom, Compound}
use Rattle.term_store.specs.Shape.{Shape}
use Rattle.term_store.specs.Terms.{value, raw_by, trees_of, IsCell, IsShape}
use Rattle.term_store.specs.Views.{Sees, IsFree, Looks, tree_of}
use Rattle.term_store.specs.Work.{IsFreeIfVariable}
use Rattle.term_store.proofs.Rows.{raw-variable, raw-integer, raw-atom, raw-compound, all_within-more}
use Rattle.term_store.proofs.Values.{value-free, value-integer, value-atom, value-compound}

-- as it was built
pub sees-raw : (s : Shape) (c : Cell) (view : View) → IsShape s → Sees s c view → (name : ℕ → List ℕ)
    → raw_by name s.compounds c ≡ tree_of name (raw_by name s.compounds) view
sees-raw s c (Variable v) h e name = ap (raw_by name s.compounds) e ∙ raw-variable name s.compounds v
sees-raw s c (Integer z) h e name = ap (raw_by name s.compounds) e ∙ raw-integer name s.compounds z
sees-raw s c (Atom n) h e name = ap (raw_by name s.compounds) e ∙ raw-atom name s.compounds n
sees-raw s c (Compound f args) h e name =
    ap (raw_by name s.compounds) e.1
    ∙ raw-compound name s.compounds s.variables h.compounds e.0 e.2
    ∙ ap (λ (row : ℕ × List Cell). compound (name row.0) (trees_of (raw_by name s.compounds) row.1)) e.3

-- with what is bound
pub sees-value : (s : Shape) (c : Cell) (view : View) → IsShape s → Sees s c view → IsFree s view → (name : ℕ → List ℕ)
    → value name s c ≡ tree_of name (value name s) view
sees-value s c (Variable v) h e free name = ap (value name s) e ∙ value-free name s v free
sees-value s c (Integer z) h e free name = ap (value name s) e ∙ value-integer name s z
sees-value s c (Atom n) h e free name = ap (value name s) e ∙ value-atom name s n
sees-value s c (Compound f args) h e free name =
    ap (value name s) e.1
    ∙ value-compound name s e.0 h e.2
    ∙ ap (λ (row : ℕ × List Cell). compound (name row.0) (trees_of (value name s) row.1)) e.3

pub sees-free : (s : Shape) (c : Cell) (view : View) → Sees s c view → IsFreeIfVariable s c → IsFree s view
sees-free s c (Variable v) e free = subst (IsFreeIfVariable s) e free
sees-free s c (Integer z) e free = tt
sees-free s c (Atom n) e free = tt
sees-free s c (Compound f args) e free = tt

-- the arguments of a compound are cells of the store
pub sees-args : (s : Shape) (c : Cell) (f : ℕ) (args : _) → IsShape s → Sees s c (Compound f args) → All (IsCell s) args.now
sees-args s c f args h e =
    subst (λ (row : ℕ × List Cell). All (IsCell s) row.1) e.3
    (all_within-more e.0 (length s.compounds) s.variables s.variables _ (let low = e.2 in omega (arith, low)) (omega arith) (h.compounds e.0 e.2).before)

-- after a look
pub looks-value : (s : Shape) (c : Cell) (view : View) → IsShape s → Looks s c view → (name : ℕ → List ℕ) → value name s c ≡ tree_of name (value name s) view
looks-value s c view h l name = sym (l.same name) ∙ sees-value s l.cell view h l.sees l.free name

pub looks-args : (s : Shape) (c : Cell) (f : ℕ) (args : _) → IsShape s → Looks s c (Compound f args) → All (IsCell s) args.now
looks-args s c f args h l = sees-args s l.cell f args h l.sees
