-- What cells that are written down stand for.
use Rattle.std.proofs.Common.{◌≡◌, ℕ, zero, suc, ◌+◌, ◌-◌, ◌<◌, ◌≤◌, ℤ, List, [], ◌∷◌, ◌++◌, length, All, refl, ap, ◌∙◌, arith}
use Rattle.std.proofs.lemmas.List.Elements.{All-cons, All-nil}
use Rattle.prolog_terms.specs.Tree.{Tree, variable, integer, atom, more}
use Rattle.prolog_terms.specs.Substitutions.{substituted}
use Rattle.term_store.specs.declared.cell.Cell.{Cell}
use Rattle.term_store.specs.declared.cell.Cell.TheVariants.{Variable, Integer, Atom}
use Rattle.term_store.specs.Shape.{Shape}
use Rattle.term_store.specs.Terms.{text, term_of, meaning, trees_of}
use Rattle.term_store.proofs.Rows.{raw-variable, raw-integer, raw-atom}
use Rattle.term_builtins.specs.Meanings.{variables_from}

pub integer-term : (texts : List (List ℕ)) (s : Shape) (z : ℤ) → term_of texts s (Integer z) ≡ integer z
integer-term texts s z = ap (substituted (meaning texts s)) (raw-integer (text texts) s.compounds z)

pub atom-term : (texts : List (List ℕ)) (s : Shape) (n : ℕ) → term_of texts s (Atom n) ≡ atom (text texts n)
atom-term texts s n = ap (substituted (meaning texts s)) (raw-atom (text texts) s.compounds n)

pub variable-term : (texts : List (List ℕ)) (s : Shape) (v : ℕ) → term_of texts s (Variable v) ≡ meaning texts s v
variable-term texts s v = ap (substituted (meaning texts s)) (raw-variable (text texts) s.compounds v)

-- ---- new variables

-- so many variables, from a number on
abbrev pub cells_from : ℕ → ℕ → List Cell
cells_from from zero = []
cells_from from (suc k) = Variable from ∷ cells_from (suc from) k

pub cells_from-more : (from k : ℕ) → cells_from from k ++ Variable (from + k) ∷ [] ≡ cells_from from (suc k)
cells_from-more from zero = let e : from + zero ≡ from = omega arith in ap (λ (v : ℕ). Variable v ∷ []) e
cells_from-more from (suc k) =
    let e : from + suc k ≡ suc from + k = omega arith in
    ap (λ (v : ℕ). Variable from ∷ (cells_from (suc from) k ++ Variable v ∷ [])) e
    ∙ ap (λ (cs : List Cell). Variable from ∷ cs) (cells_from-more (suc from) k)

pub cells_from-length : (from k : ℕ) → length (cells_from from k) ≡ k
cells_from-length from zero = refl
cells_from-length from (suc k) = let e = cells_from-length (suc from) k in omega (arith, e)

pub cells_from-all : (P : Cell → Type 0) (from k : ℕ) → ((v : ℕ) → from ≤ v → v < from + k → P (Variable v)) → All P (cells_from from k)
cells_from-all P from zero h = All-nil P
cells_from-all P from (suc k) h =
    All-cons P (Variable from) (cells_from (suc from) k) (h from (omega arith) (omega arith)) (cells_from-all P (suc from) k (λ v low high. h v (omega arith) (omega arith)))

pub cells_from-trees : (tree : Cell → Tree) (from k : ℕ) → ((v : ℕ) → from ≤ v → tree (Variable v) ≡ variable v) → trees_of tree (cells_from from k) ≡ variables_from from k
cells_from-trees tree from zero h = refl
cells_from-trees tree from (suc k) h =
    ap (λ (t : Tree). more t (trees_of tree (cells_from (suc from) k))) (h from (omega arith))
    ∙ ap (more (variable from)) (cells_from-trees tree (suc from) k (λ v low. h v (omega arith)))

-- one more in a loop
pub cells_from-step : (from at : ℕ) (cells after : List Cell) → from ≤ at → cells ≡ cells_from from (at - from) → after ≡ cells ++ Variable at ∷ [] → after ≡ cells_from from (at + 1 - from)
cells_from-step from at cells after low e pushed =
    let here : at ≡ from + (at - from) = omega arith in
    let next : suc (at - from) ≡ at + 1 - from = omega arith in
    pushed ∙ ap (λ (cs : List Cell). cs ++ Variable at ∷ []) e
    ∙ ap (λ (v : ℕ). cells_from from (at - from) ++ Variable v ∷ []) here
    ∙ cells_from-more from (at - from) ∙ ap (cells_from from) next
