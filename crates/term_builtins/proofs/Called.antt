-- What a call means that has not so many arguments as its builtin.
use Rattle.std.proofs.Common.{◌≡◌, ℕ, ◌<◌, ◌≤◌, List, [], ◌∷◌, length, get_or, false, refl, arith}
use Rattle.prolog_terms.specs.Tree.{Tree, Trees, none, more}
use Rattle.term_store.specs.declared.cell.Cell.{Cell}
use Rattle.term_store.specs.Terms.{trees_of}
use Rattle.term_builtins.specs.declared.table.Relation.{Relation}
use Rattle.term_builtins.specs.declared.table.Kind.{Kind}
use Rattle.term_builtins.specs.declared.table.What.{What}
use Rattle.term_builtins.specs.declared.table.What.TheVariants.{Unify, Differ, Order, Compare, Test, Functor, Argument, Univ, Copy, AtomLength, AtomCodes, AtomChars, CharCode, Evaluate, Numbers, Write, NewLine, PutChar}
use Rattle.prolog_writer.specs.declared.style.Style.{Style}
use Rattle.term_builtins.specs.Meanings.{Meaning, Holds, with_none, with_one, with_two, with_three, meaning}

-- ---- as many as the slice has

-- more than three
abbrev pub AreOthers : Trees → Type 0
AreOthers none = ⊥
AreOthers (more t none) = ⊥
AreOthers (more t (more u none)) = ⊥
AreOthers (more t (more u (more v none))) = ⊥
AreOthers (more t (more u (more v (more w ts)))) = Unit {0}

pub no_cells : (cs : List Cell) → length cs < 1 → cs ≡ []
no_cells [] h = refl
no_cells (a ∷ cs) h = absurd (omega arith)

pub many-others : (tree : Cell → Tree) (cs : List Cell) → 4 ≤ length cs → AreOthers (trees_of tree cs)
many-others tree [] h = omega arith
many-others tree (a ∷ []) h = omega arith
many-others tree (a ∷ b ∷ []) h = omega arith
many-others tree (a ∷ b ∷ c ∷ []) h = omega arith
many-others tree (a ∷ b ∷ c ∷ d ∷ cs) h = tt

pub one-cell : (cs : List Cell) (d : Cell) → 1 ≤ length cs → length cs < 2 → cs ≡ get_or cs 0 d ∷ []
one-cell [] d h k = absurd (omega arith)
one-cell (a ∷ []) d h k = refl
one-cell (a ∷ b ∷ cs) d h k = absurd (omega arith)

pub three-cells : (cs : List Cell) (d : Cell) → 3 ≤ length cs → length cs < 4 → cs ≡ get_or cs 0 d ∷ get_or cs 1 d ∷ get_or cs 2 d ∷ []
three-cells [] d h k = absurd (omega arith)
three-cells (a ∷ []) d h k = absurd (omega arith)
three-cells (a ∷ b ∷ []) d h k = absurd (omega arith)
three-cells (a ∷ b ∷ c ∷ []) d h k = refl
three-cells (a ∷ b ∷ c ∷ e ∷ cs) d h k = absurd (omega arith)

not-none : (m : Meaning) (ts : Trees) → AreOthers ts → with_none m ts ≡ Holds false
not-none m none h = absurd h
not-none m (more t ts) h = refl

not-one : (f : Tree → Meaning) (ts : Trees) → AreOthers ts → with_one f ts ≡ Holds false
not-one f none h = absurd h
not-one f (more t none) h = absurd h
not-one f (more t (more u ts)) h = refl

not-two : (f : Tree → Tree → Meaning) (ts : Trees) → AreOthers ts → with_two f ts ≡ Holds false
not-two f none h = absurd h
not-two f (more t none) h = refl
not-two f (more t (more u none)) h = absurd h
not-two f (more t (more u (more v ts))) h = refl

not-three : (f : Tree → Tree → Tree → Meaning) (ts : Trees) → AreOthers ts → with_three f ts ≡ Holds false
not-three f none h = absurd h
not-three f (more t none) h = refl
not-three f (more t (more u none)) h = refl
not-three f (more t (more u (more v none))) h = absurd h
not-three f (more t (more u (more v (more w ts)))) h = refl

pub other-count : (what : What) (fresh : ℕ) (ts : Trees) → AreOthers ts → meaning what fresh ts ≡ Holds false
other-count Unify fresh ts h = not-two _ ts h
other-count Differ fresh ts h = not-two _ ts h
other-count (Order r) fresh ts h = not-two _ ts h
other-count Compare fresh ts h = not-three _ ts h
other-count (Test k) fresh ts h = not-one _ ts h
other-count Functor fresh ts h = not-three _ ts h
other-count Argument fresh ts h = not-three _ ts h
other-count Univ fresh ts h = not-two _ ts h
other-count Copy fresh ts h = not-two _ ts h
other-count AtomLength fresh ts h = not-two _ ts h
other-count AtomCodes fresh ts h = not-two _ ts h
other-count AtomChars fresh ts h = not-two _ ts h
other-count CharCode fresh ts h = not-two _ ts h
other-count (Write style) fresh ts h = not-one _ ts h
other-count NewLine fresh ts h = not-none _ ts h
other-count PutChar fresh ts h = not-one _ ts h
other-count Evaluate fresh ts h = not-two _ ts h
other-count (Numbers r) fresh ts h = not-two _ ts h

-- ---- none, one, two or three, and another builtin

pub none-other : (what : What) (fresh : ℕ) → (what ≡ NewLine → ⊥) → meaning what fresh none ≡ Holds false
none-other Unify fresh h = refl
none-other Differ fresh h = refl
none-other (Order r) fresh h = refl
none-other Compare fresh h = refl
none-other (Test k) fresh h = refl
none-other Functor fresh h = refl
none-other Argument fresh h = refl
none-other Univ fresh h = refl
none-other Copy fresh h = refl
none-other AtomLength fresh h = refl
none-other AtomCodes fresh h = refl
none-other AtomChars fresh h = refl
none-other CharCode fresh h = refl
none-other (Write style) fresh h = refl
none-other NewLine fresh h = absurd (h refl)
none-other PutChar fresh h = refl
none-other Evaluate fresh h = refl
none-other (Numbers r) fresh h = refl

pub one-other : (what : What) (fresh : ℕ) (t : Tree) → ((k : Kind) → what ≡ Test k → ⊥) → ((style : Style) → what ≡ Write style → ⊥) → (what ≡ PutChar → ⊥) → meaning what fresh (more t none) ≡ Holds false
one-other Unify fresh t h w p = refl
one-other Differ fresh t h w p = refl
one-other (Order r) fresh t h w p = refl
one-other Compare fresh t h w p = refl
one-other (Test k) fresh t h w p = absurd (h k refl)
one-other Functor fresh t h w p = refl
one-other Argument fresh t h w p = refl
one-other Univ fresh t h w p = refl
one-other Copy fresh t h w p = refl
one-other AtomLength fresh t h w p = refl
one-other AtomCodes fresh t h w p = refl
one-other AtomChars fresh t h w p = refl
one-other CharCode fresh t h w p = refl
one-other (Write style) fresh t h w p = absurd (w style refl)
one-other NewLine fresh t h w p = refl
one-other PutChar fresh t h w p = absurd (p refl)
one-other Evaluate fresh t h w p = refl
one-other (Numbers r) fresh t h w p = refl

-- none of those that have two arguments
pub record HasNotTwo (what : What) : Type 0 where
  pub unify : what ≡ Unify → ⊥
  pub differ : what ≡ Differ → ⊥
  pub order : (r : Relation) → what ≡ Order r → ⊥
  pub univ : what ≡ Univ → ⊥
  pub copy : what ≡ Copy → ⊥
  pub atom_length : what ≡ AtomLength → ⊥
  pub atom_codes : what ≡ AtomCodes → ⊥
  pub atom_chars : what ≡ AtomChars → ⊥
  pub char_code : what ≡ CharCode → ⊥
  pub evaluate : what ≡ Evaluate → ⊥
  pub numbers : (r : Relation) → what ≡ Numbers r → ⊥

pub two-other : (what : What) (fresh : ℕ) (t u : Tree) → HasNotTwo what → meaning what fresh (more t (more u none)) ≡ Holds false
two-other Unify fresh t u h = absurd (h.unify refl)
two-other Differ fresh t u h = absurd (h.differ refl)
two-other (Order r) fresh t u h = absurd (h.order r refl)
two-other Compare fresh t u h = refl
two-other (Test k) fresh t u h = refl
two-other Functor fresh t u h = refl
two-other Argument fresh t u h = refl
two-other Univ fresh t u h = absurd (h.univ refl)
two-other Copy fresh t u h = absurd (h.copy refl)
two-other AtomLength fresh t u h = absurd (h.atom_length refl)
two-other AtomCodes fresh t u h = absurd (h.atom_codes refl)
two-other AtomChars fresh t u h = absurd (h.atom_chars refl)
two-other CharCode fresh t u h = absurd (h.char_code refl)
two-other (Write style) fresh t u h = refl
two-other NewLine fresh t u h = refl
two-other PutChar fresh t u h = refl
two-other Evaluate fresh t u h = absurd (h.evaluate refl)
two-other (Numbers r) fresh t u h = absurd (h.numbers r refl)

pub three-other : (what : What) (fresh : ℕ) (t u v : Tree) → (what ≡ Compare → ⊥) → (what ≡ Functor → ⊥) → (what ≡ Argument → ⊥)
    → meaning what fresh (more t (more u (more v none))) ≡ Holds false
three-other Unify fresh t u v c f a = refl
three-other Differ fresh t u v c f a = refl
three-other (Order r) fresh t u v c f a = refl
three-other Compare fresh t u v c f a = absurd (c refl)
three-other (Test k) fresh t u v c f a = refl
three-other Functor fresh t u v c f a = absurd (f refl)
three-other Argument fresh t u v c f a = absurd (a refl)
three-other Univ fresh t u v c f a = refl
three-other Copy fresh t u v c f a = refl
three-other AtomLength fresh t u v c f a = refl
three-other AtomCodes fresh t u v c f a = refl
three-other AtomChars fresh t u v c f a = refl
three-other CharCode fresh t u v c f a = refl
three-other (Write style) fresh t u v c f a = refl
three-other NewLine fresh t u v c f a = refl
three-other PutChar fresh t u v c f a = refl
three-other Evaluate fresh t u v c f a = refl
three-other (Numbers r) fresh t u v c f a = refl
