-- A term of new variables that is made one with a cell, node by node from the first to the last.
use Rattle.std.specs.Prelude.{◌≡◌, ℕ, ◌<◌, ◌≤◌, List, [], ◌∷◌, ◌++◌, length, reverse, drop, All, Bool, true, false, slice_range}
use Rattle.prolog_terms.specs.Tree.{Tree, Trees, none, more, count}
use Rattle.prolog_terms.specs.Substitutions.{substituted, all_substituted}
use Rattle.prolog_terms.specs.Flat.{forest, nodes}
use Rattle.prolog_terms.specs.declared.node.Node.{Node}
use Rattle.term_unifier.specs.Unifier.{IsMostGeneral, Unifies}
use Rattle.term_store.specs.declared.cell.Cell.{Cell}
use Rattle.term_store.specs.declared.heads.Matching.{Matching}
use Rattle.term_store.specs.Shape.{Shape}
use Rattle.term_store.specs.Terms.{raw, term_of, meaning, bindings_of, HasTerm, AreNamed}
use Rattle.term_store.specs.Later.{IsLater, AreLonger, AreDistinct}
use Rattle.term_store.specs.Puts.{shifted}
use Rattle.term_store.specs.Work.{Solves}

-- ---- the whole

-- `new` is `old` and the most general unifier of the term and what the cell stands for
abbrev pub IsMadeOne : List (List ℕ) → Shape → Shape → Tree → Cell → Type 0
IsMadeOne texts old new t c =
    (s : ℕ → Tree) × IsMostGeneral s t (term_of texts old c)
    × ((v : ℕ) → meaning texts new v ≡ substituted s (meaning texts old v))

-- no substitution makes the term and what the cell stands for equal
abbrev pub CannotBeOne : List (List ℕ) → Shape → Tree → Cell → Type 0
CannotBeOne texts s t c = (r : ℕ → Tree) → ¬ Unifies r t (term_of texts s c)

-- ---- on the way

-- compounds, bindings, variables and names were added, and all is named
pub record IsFurther (old : Shape) (texts : List (List ℕ)) (new : Shape) (after : List (List ℕ)) : Type 0 where
  pub later : IsLater old new
  pub longer : AreLonger texts after
  pub distinct : AreDistinct texts → AreDistinct after
  pub named : AreNamed (length after) new

-- where it stands: the terms that are still to be made one with the cells, place by place
pub record Stage : Type 0 where
  pub store : Shape
  pub texts : List (List ℕ)
  pub terms : Trees
  pub cells : List Cell

-- the substitution makes the terms and the cells equal
abbrev pub AllMatch : (ℕ → Tree) → (Cell → Tree) → Trees → List Cell → Type 0
AllMatch r tree none [] = Unit {0}
AllMatch r tree none (c ∷ cs) = ⊥
AllMatch r tree (more t ts) [] = ⊥
AllMatch r tree (more t ts) (c ∷ cs) = (substituted r t ≡ substituted r (tree c)) × AllMatch r tree ts cs

-- the substitution makes equal all that is bound, and all that is still to be made one
abbrev pub Fits : List (List ℕ) → (ℕ → Tree) → Stage → Type 0
Fits texts r s = Solves r (bindings_of texts s.store) × AllMatch r (raw texts s.store) s.terms s.cells

-- the same substitutions fit, whatever names are added later
pub record Goes (old new : Stage) : Type 0 where
  pub valid : All (HasTerm (length new.texts) new.store) new.cells
  pub counted : count old.terms ≡ length old.cells → count new.terms ≡ length new.cells
  pub forth : (names : List (List ℕ)) (r : ℕ → Tree) → Fits (new.texts ++ names) r old → Fits (new.texts ++ names) r new
  pub back : (names : List (List ℕ)) (r : ℕ → Tree) → Fits (new.texts ++ names) r new → Fits (new.texts ++ names) r old

-- it goes on, or nothing fits
abbrev pub Comes : Stage → Stage → Bool → Type 0
Comes old new true = Goes old new
Comes old new false = (r : ℕ → Tree) → Fits new.texts r old → ⊥

-- a term is made one with a cell, and what comes after them is left
abbrev pub Matches : Shape → List (List ℕ) → Shape → List (List ℕ) → Tree → Cell → Bool → Type 0
Matches old texts new after t c found =
    (ts : Trees) (cs : List Cell) → All (HasTerm (length texts) old) cs
    → Comes (record { store = old; texts = texts; terms = more t ts; cells = c ∷ cs }) (record { store = new; texts = after; terms = ts; cells = cs }) found

-- the terms from a node on, their variables from a number on
abbrev pub left_at : ℕ → List Node → ℕ → Trees
left_at from ns at = all_substituted (shifted from) (forest (drop at ns))

-- what is left to do
abbrev pub stage : Shape → List (List ℕ) → List Node → Matching → Stage
stage s texts ns m = record { store = s; texts = texts; terms = left_at m.from ns m.at; cells = reverse m.todo.items }

-- with a cell before the others
abbrev pub stage_with : Shape → List (List ℕ) → List Node → Matching → Cell → Stage
stage_with s texts ns m c = record { store = s; texts = texts; terms = left_at m.from ns m.at; cells = c ∷ reverse m.todo.items }

-- the nodes from one place to another are those of one term
pub record IsFront (ns : List Node) (at end : ℕ) : Type 0 where
  pub tree : Tree
  pub lower : at < end
  pub upper : end ≤ length ns
  pub spelled : slice_range ns at end ≡ nodes tree
