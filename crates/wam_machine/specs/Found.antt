-- Findalls have their marks, where an answer of their goal is found.
use Rattle.std.specs.Prelude.{◌≡◌, ℕ, suc, Bool, true, false, List, ◌∷◌, length}
use Rattle.prolog_terms.specs.Tree.{Tree}
use Rattle.wam_machine.specs.States.{Next, FindallEnd, Alternative, Clauses, Right, Again, NotMark, CatchMark, FindallMark, Choice, State, Setting, Going, cut_to}
use Rattle.wam_machine.specs.Machine.{beginning}
use Rattle.wam_machine.specs.Laws.{Reaches}

abbrev pub is_findall : Alternative → Bool
is_findall (FindallMark list found) = true
is_findall (Clauses used goal rest) = false
is_findall (Right goal cut) = false
is_findall Again = false
is_findall NotMark = false
is_findall (CatchMark catcher recovery) = false

-- the mark of a `findall` stands there, and the stack has this height with the mark on it
abbrev pub HasFindall : ℕ → List Choice → Type 0
HasFindall h stack = (c : Choice) × ((below : List Choice) × ((cut_to h stack ≡ c ∷ below) × (suc (length below) ≡ h) × (is_findall c.what ≡ true)))

-- In each state that a run comes to where the end of the goal of a `findall` is to be done next, its mark stands where that says: no copy is lost.
abbrev pub FindallsHaveMarks : Type 0
FindallsHaveMarks = (x : Setting) (goal : Tree) (fronts : List ℕ) (s : State) (t : Tree) (h : ℕ) (rest : List Next) → Reaches x (beginning x goal fronts) s → s.mode ≡ Going
    → s.goals ≡ FindallEnd t h ∷ rest → HasFindall h s.stack
