-- The parts of the spine of what is seen.
use Rattle.std.proofs.Common.{◌≡◌, ℕ, ℤ, ◌<◌, ◌≤◌, List, [], ◌∷◌, ◌++◌, length, map, refl, sym, ap, ◌∙◌, arith, subst, Bool, true, false, Some, slice_get, get_or}
use Rattle.std.specs.Prelude.{reverse, All}
use Rattle.std.proofs.lemmas.List.{reverse-append}
use Rattle.std.proofs.lemmas.List.Elements.{All-append, All-cons, All-nil}
use Rattle.prolog_terms.specs.Tree.{Tree, Trees, variable, integer, atom, compound}
use Rattle.prolog_terms.specs.Clauses.{is_connective}
use Rattle.prolog_terms.specs.Faults.{two}
use Rattle.term_store.specs.declared.cell.Cell.{Cell}
use Rattle.term_store.specs.Terms.{text, trees_of}
use Rattle.wam_machine.specs.Spine.{Part, Leaf, Joint, spine, spines, is_plain_goal}
use Rattle.wam_machine.proofs.Walked.{walks_joint}
use Rattle.wam_machine.proofs.SeenCells.{text_read}

one-leaf : (g : Tree) (ps : List Part) → spine g ≡ Leaf g ∷ [] → spine g ++ ps ≡ Leaf g ∷ ps
one-leaf g ps e = ap (λ (l : List Part). l ++ ps) e

pub variable-leaf : (g : Tree) (n : ℕ) (ps : List Part) → g ≡ variable n → spine g ++ ps ≡ Leaf g ∷ ps
variable-leaf g n ps e = one-leaf g ps (subst (λ (t : Tree). spine t ≡ Leaf t ∷ []) (sym e) refl)

pub integer-leaf : (g : Tree) (z : ℤ) (ps : List Part) → g ≡ integer z → spine g ++ ps ≡ Leaf g ∷ ps
integer-leaf g z ps e = one-leaf g ps (subst (λ (t : Tree). spine t ≡ Leaf t ∷ []) (sym e) refl)

pub atom-leaf : (g : Tree) (a : List ℕ) (ps : List Part) → g ≡ atom a → spine g ++ ps ≡ Leaf g ∷ ps
atom-leaf g a ps e = one-leaf g ps (subst (λ (t : Tree). spine t ≡ Leaf t ∷ []) (sym e) refl)

pub atom-plain : (g : Tree) (a : List ℕ) → g ≡ atom a → is_plain_goal g ≡ true
atom-plain g a e = ap is_plain_goal e

pub compound-plain : (g : Tree) (f : List ℕ) (ts : Trees) → g ≡ compound f ts → is_plain_goal g ≡ true
compound-plain g f ts e = ap is_plain_goal e

-- no connective of two arguments
row-leaf : (tree : Cell → Tree) (f : List ℕ) (cs : List Cell) → (2 ≤ length cs → length cs < 3 → is_connective f ≡ false)
    → spine (compound f (trees_of tree cs)) ≡ Leaf (compound f (trees_of tree cs)) ∷ []
row-leaf tree f [] h = refl
row-leaf tree f (a ∷ []) h = refl
row-leaf tree f (a ∷ b ∷ []) h = let e = h (omega arith) (omega arith) in rw e refl
row-leaf tree f (a ∷ b ∷ c ∷ cs) h = refl

pub compound-leaf : (tree : Cell → Tree) (g : Tree) (f : List ℕ) (cs : List Cell) (ps : List Part) → g ≡ compound f (trees_of tree cs)
    → (2 ≤ length cs → length cs < 3 → is_connective f ≡ false) → spine g ++ ps ≡ Leaf g ∷ ps
compound-leaf tree g f cs ps e h = one-leaf g ps (subst (λ (t : Tree). spine t ≡ Leaf t ∷ []) (sym e) (row-leaf tree f cs h))

-- whether a name of a store is a connective
pub read-connective : (texts : List (List ℕ)) (n : ℕ) (x : List ℕ) (b c : Bool) → slice_get texts n ≡ Some x → b ≡ is_connective x → b ≡ c → is_connective (text texts n) ≡ c
read-connective texts n x b c s e d = ap is_connective (text_read texts n x s) ∙ sym e ∙ d

-- the two sides come before what is still to be walked over
pub joint-walk : (tree : Cell → Tree) (g : Tree) (f : List ℕ) (a b : Cell) (old mid new : List Cell) → is_connective f ≡ true → g ≡ two f (tree a) (tree b)
    → mid ≡ old ++ b ∷ [] → new ≡ mid ++ a ∷ [] → spine g ++ spines (map tree (reverse old)) ≡ Joint f ∷ spines (map tree (reverse new))
joint-walk tree g f a b old mid new c e first second =
    let m : reverse mid ≡ b ∷ reverse old = ap reverse first ∙ reverse-append old (b ∷ []) in
    let n : reverse new ≡ a ∷ b ∷ reverse old = ap reverse second ∙ reverse-append mid (a ∷ []) ∙ ap (λ (l : List Cell). a ∷ l) m in
    ap (λ (t : Tree). spine t ++ spines (map tree (reverse old))) e
    ∙ walks_joint f (tree a) (tree b) (map tree (reverse old)) c
    ∙ sym (ap (λ (l : List Cell). Joint f ∷ spines (map tree l)) n)

pub all-last : (P : Cell → Type 0) (old new : List Cell) (a : Cell) → new ≡ old ++ a ∷ [] → All P old → P a → All P new
all-last P old new a e h p = subst (All P) (sym e) (All-append P old (a ∷ []) h (All-cons P a [] p (All-nil P)))

-- two arguments
pub two-cells : (cs : List Cell) (d : Cell) → 2 ≤ length cs → length cs < 3 → cs ≡ get_or cs 0 d ∷ get_or cs 1 d ∷ []
two-cells [] d h k = absurd (omega arith)
two-cells (a ∷ []) d h k = absurd (omega arith)
two-cells (a ∷ b ∷ []) d h k = refl
two-cells (a ∷ b ∷ c ∷ cs) d h k = absurd (omega arith)

pub two-trees : (tree : Cell → Tree) (g : Tree) (f : List ℕ) (cs : List Cell) (d : Cell) → 2 ≤ length cs → length cs < 3 → g ≡ compound f (trees_of tree cs)
    → g ≡ two f (tree (get_or cs 0 d)) (tree (get_or cs 1 d))
two-trees tree g f cs d h k e = e ∙ ap (λ (l : List Cell). compound f (trees_of tree l)) (two-cells cs d h k)
