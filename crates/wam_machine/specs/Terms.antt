-- What the engine's terms say: what is still to be done, what the variables stand for, and what may be gone back to. A goal is said
-- as what it stands for.
use Rattle.std.specs.Prelude.{◌≡◌, ℕ, zero, suc, ◌+◌, ◌<◌, ◌≤◌, List, [], ◌∷◌, ◌++◌, length, map, reverse, Bool, true, false, ◌||◌, IsTrue, Option, Some, None, slice_index_or, filter_map, is_some, vec_len, vec_capacity}
use Rattle.prolog_terms.specs.Tree.{Tree}
use Rattle.prolog_terms.specs.Substitutions.{substituted, renamed}
use Rattle.prolog_terms.specs.Clauses.{is_body}
use Rattle.prolog_terms.specs.declared.entry.Clause.{Clause}
use Rattle.term_store.specs.Shape.{Shape}
use Rattle.term_store.specs.Terms.{raw, meaning, term_of, HasTerm, AreNamed}
use Rattle.term_store.specs.Later.{back, CanGoBack, AreDistinct, AreLonger}
use Rattle.term_store.specs.declared.cell.Cell.{Cell}
use Rattle.term_unifier.specs.Unifier.{unifier}
use Rattle.wam_machine.specs.States as spec
use Rattle.wam_machine.specs.States.{Next, Do, ConditionEnd, NotEnd, CatchEnd, FindallEnd, next_under}
use Rattle.wam_machine.specs.Procedures.{side_of_clause, side_of_call, first_goals}
use Rattle.wam_machine.specs.declared.terms.Alternative.{Alternative}
use Rattle.wam_machine.specs.declared.terms.Alternative.TheVariants as is
use Rattle.wam_machine.specs.declared.terms.Call.{Call}
use Rattle.wam_machine.specs.declared.terms.Choice.{Choice}
use Rattle.wam_machine.specs.declared.terms.Frame.{Frame}
use Rattle.wam_machine.specs.declared.terms.Next.{Next as Waiting}
use Rattle.wam_machine.specs.declared.terms.Next.TheVariants as waits
use Rattle.wam_machine.specs.declared.terms.Purpose.{Purpose}
use Rattle.wam_machine.specs.declared.terms.Purpose.TheVariants as purpose
use Rattle.wam_machine.specs.declared.terms.Terms.{Terms}
use Rattle.wam_machine.specs.declared.terms.Use.{Use}
use Rattle.wam_machine.specs.declared.terms.Use.TheVariants as use_is

-- ---- what is said

-- a call whose clauses are tried: what it does with them, its goal, its procedure, and the cursor over the clauses that are left
pub record Left (C : Type 0) : Type 0 where
  pub used : spec.Use
  pub goal : Tree
  pub procedure : ℕ
  pub cursor : C

-- how the machine goes on where it goes back
pub data Turn (C : Type 0) : Type 0 where
  -- with the clauses that are left of a call
  OfCall : (call : Left C) → Turn C
  -- with the right side of a `;`, or an else
  OfRight : (goal : Tree) (cut : ℕ) → Turn C
  -- with a further turn of `repeat`
  OfRepeat : Turn C
  -- behind a `\+`
  OfNot : Turn C
  -- with a ball that the catcher takes; a failure goes further
  OfCatch : (catcher recovery : Tree) → Turn C
  -- behind a `findall`, whose list is made one with that of the copies that were found, each with variables numbered from 0
  OfFindall : (list : Tree) (found : List Tree) → Turn C

-- a moment that may be gone back to: how, the goals that come after that, and what each variable stood for
pub record Saved (C : Type 0) : Type 0 where
  pub turn : Turn C
  pub goals : List Next
  pub bindings : ℕ → Tree

pub record Said (C : Type 0) : Type 0 where
  -- what is still to be done, first things first
  pub goals : List Next
  -- what each variable stands for
  pub bindings : ℕ → Tree
  -- the number of the next variable
  pub fresh : ℕ
  -- the term of which an answer gives the value
  pub shown : Tree
  -- the moments that may be gone back to, the newest last
  pub stack : List (Saved C)

-- ---- how the engine keeps it

-- what is still to be done, where cells have these terms
abbrev pub next_of : (Cell → Tree) → Waiting → Next
next_of tree (waits.Do c h) = Do (tree c) h
next_of tree (waits.ConditionEnd h) = ConditionEnd h
next_of tree (waits.NotEnd h) = NotEnd h
next_of tree (waits.CatchEnd h) = CatchEnd h
next_of tree (waits.FindallEnd c h) = FindallEnd (tree c) h

abbrev pub frame_at : List Frame → ℕ → Frame
frame_at frames i = slice_index_or frames i (record { what = waits.NotEnd 0; next = 0 })

-- the goals from a frame on, by its number from 1; 0 is none. Each frame leads on to one below it, so the number bounds the way.
abbrev pub goals_from : ℕ → (Cell → Tree) → List Frame → ℕ → List Next
goals_from zero tree frames n = []
goals_from (suc k) tree frames zero = []
goals_from (suc k) tree frames (suc i) = next_of tree (frame_at frames i).what ∷ goals_from k tree frames (frame_at frames i).next

unfoldable pub goals_at : (Cell → Tree) → List Frame → ℕ → List Next
goals_at tree frames n = goals_from n tree frames n

abbrev pub purpose_of : Purpose → spec.Purpose
purpose_of purpose.Show = spec.ToShow
purpose_of purpose.Erase = spec.ToErase

abbrev pub use_of : (Cell → Tree) → Use → spec.Use
use_of tree use_is.Enter = spec.Enter
use_of tree (use_is.Match p body) = spec.Match (purpose_of p) (tree body)

-- so it is of its cell
abbrev pub IsOfUse : (Cell → Type 0) → Use → Type 0
IsOfUse P use_is.Enter = Unit {0}
IsOfUse P (use_is.Match p body) = P body

abbrev pub left_of : {C : Type 0} → (Cell → Tree) → Call C → Left C
left_of tree c = record { used = use_of tree c.used; goal = tree c.goal; procedure = c.procedure; cursor = c.cursor }

-- so it is of the cells of a call
abbrev pub IsOfCall : {C : Type 0} → (Cell → Type 0) → Call C → Type 0
IsOfCall P c = P c.goal × IsOfUse P c.used

abbrev pub turn_of : {C : Type 0} → (Cell → Tree) → Alternative C → Turn C
turn_of tree (is.Clauses c) = OfCall (left_of tree c)
turn_of tree (is.Right c h) = OfRight (tree c) h
turn_of tree is.Again = OfRepeat
turn_of tree is.NotMark = OfNot
turn_of tree (is.CatchMark c r) = OfCatch (tree c) (tree r)
turn_of tree (is.FindallMark c found) = OfFindall (tree c) found.items

-- what may be gone back to, as it was at its moment
abbrev pub saved_of : {C : Type 0} → List (List ℕ) → Shape → List Frame → Choice C → Saved C
saved_of texts shape frames c = record {
  turn = turn_of (term_of texts (back c.mark shape)) c.what;
  goals = goals_at (term_of texts (back c.mark shape)) frames c.next;
  bindings = meaning texts (back c.mark shape);
}

unfoldable pub said : {C : Type 0} → Terms C → Said C
said t = record {
  goals = goals_at (term_of t.names t.store) t.frames.items t.next;
  bindings = meaning t.names t.store;
  fresh = t.store.variables;
  shown = raw t.names t.store t.shown;
  stack = map (saved_of t.names t.store t.frames.items) t.choices.items;
}

-- what a cell stands for
unfoldable pub built : {C : Type 0} → Terms C → Cell → Tree
built t c = term_of t.names t.store c

-- the cell has a term
unfoldable pub IsBuilt : {C : Type 0} → Terms C → Cell → Type 0
IsBuilt t c = HasTerm (length t.names) t.store c

-- the cell's term can be done as a goal
pub record IsGoal {C : Type 0} (t : Terms C) (c : Cell) : Type 0 where
  pub built_is : IsBuilt t c
  pub body : IsTrue (is_body (built t c))

-- ---- now

abbrev pub next_now : {C : Type 0} → Terms C → Waiting → Next
next_now t n = next_of (built t) n

-- its goal can be done, or its template has a term
abbrev pub IsNext : {C : Type 0} → Terms C → Waiting → Type 0
IsNext t (waits.Do c h) = IsGoal t c
IsNext t (waits.ConditionEnd h) = Unit {0}
IsNext t (waits.NotEnd h) = Unit {0}
IsNext t (waits.CatchEnd h) = Unit {0}
IsNext t (waits.FindallEnd c h) = IsBuilt t c

-- a call that was just looked up, or taken up again: its moment is now
abbrev pub call_now : {C : Type 0} → Terms C → Call C → Left C
call_now t c = left_of (built t) c

abbrev pub turn_now : {C : Type 0} → Terms C → Alternative C → Turn C
turn_now t a = turn_of (built t) a

-- this moment, where it goes on so
abbrev pub saved_now : {C : Type 0} → Terms C → Alternative C → Saved C
saved_now t a = record { turn = turn_now t a; goals = (said t).goals; bindings = (said t).bindings }

-- its goal has a term, or can be done
abbrev pub IsTurn : {C : Type 0} → Terms C → Alternative C → Type 0
IsTurn t (is.Clauses c) = IsOfCall (IsBuilt t) c
IsTurn t (is.Right c h) = IsGoal t c
IsTurn t is.Again = Unit {0}
IsTurn t is.NotMark = Unit {0}
IsTurn t (is.CatchMark c r) = IsBuilt t c × IsBuilt t r
IsTurn t (is.FindallMark c found) = IsBuilt t c

-- one more moment may be saved without taking memory
unfoldable pub HasPlace : {C : Type 0} → Terms C → Type 0
HasPlace t = vec_len t.choices < vec_capacity t.choices

-- ---- the stack

-- an alternative, and no mark
abbrev pub is_open : {C : Type 0} → Turn C → Bool
is_open (OfCall c) = true
is_open (OfRight g h) = true
is_open OfRepeat = true
is_open OfNot = false
is_open (OfCatch c r) = false
is_open (OfFindall l f) = false

-- an alternative is left
abbrev pub is_any_open : {C : Type 0} → List (Saved C) → Bool
is_any_open [] = false
is_any_open (s ∷ ss) = is_open s.turn || is_any_open ss

abbrev pub call_in : {C : Type 0} → Turn C → Option (Left C)
call_in (OfCall c) = Some c
call_in (OfRight g h) = None
call_in OfRepeat = None
call_in OfNot = None
call_in (OfCatch c r) = None
call_in (OfFindall l f) = None

-- the calls with clauses left
abbrev pub calls_in : {C : Type 0} → List (Saved C) → List (Left C)
calls_in ss = filter_map (λ s. call_in s.turn) ss

-- ---- that it is well kept

-- what a cell stands for can be done
abbrev pub CanBeGoal : List (List ℕ) → Shape → Cell → Type 0
CanBeGoal texts shape c = HasTerm (length texts) shape c × IsTrue (is_body (term_of texts shape c))

abbrev pub IsWaiting : List (List ℕ) → Shape → Waiting → Type 0
IsWaiting texts shape (waits.Do c h) = CanBeGoal texts shape c
IsWaiting texts shape (waits.ConditionEnd h) = Unit {0}
IsWaiting texts shape (waits.NotEnd h) = Unit {0}
IsWaiting texts shape (waits.CatchEnd h) = Unit {0}
IsWaiting texts shape (waits.FindallEnd c h) = HasTerm (length texts) shape c

pub record IsFrame (texts : List (List ℕ)) (shape : Shape) (i : ℕ) (f : Frame) : Type 0 where
  pub lower : f.next ≤ i
  pub what : IsWaiting texts shape f.what

-- so many frames, each leading on to one below it
abbrev pub AreFrames : List (List ℕ) → Shape → List Frame → ℕ → Type 0
AreFrames texts shape frames n = (i : ℕ) → i < n → IsFrame texts shape i (frame_at frames i)

abbrev pub IsKeptTurn : {C : Type 0} → List (List ℕ) → Shape → Alternative C → Type 0
IsKeptTurn texts shape (is.Clauses c) = IsOfCall (HasTerm (length texts) shape) c
IsKeptTurn texts shape (is.Right c h) = CanBeGoal texts shape c
IsKeptTurn texts shape is.Again = Unit {0}
IsKeptTurn texts shape is.NotMark = Unit {0}
IsKeptTurn texts shape (is.CatchMark c r) = HasTerm (length texts) shape c × HasTerm (length texts) shape r
IsKeptTurn texts shape (is.FindallMark c found) = HasTerm (length texts) shape c

-- it can be gone back to, with its goal and the goals after it
pub record IsChoice {C : Type 0} (texts : List (List ℕ)) (shape : Shape) (frames : List Frame) (c : Choice C) : Type 0 where
  pub mark : CanGoBack c.mark shape
  pub next : c.next ≤ c.frames
  pub frames_are : AreFrames texts (back c.mark shape) frames c.frames
  pub what : IsKeptTurn texts (back c.mark shape) c.what

-- the newest first: each keeps no more frames than the next one, and can be gone back to from there
abbrev pub AreChoices : {C : Type 0} → List (List ℕ) → Shape → List Frame → ℕ → Cell → List (Choice C) → Type 0
AreChoices texts shape frames n shown [] = Unit {0}
AreChoices texts shape frames n shown (c ∷ cs) =
    IsChoice texts shape frames c × (c.frames ≤ n) × HasTerm (length texts) (back c.mark shape) shown × AreChoices texts (back c.mark shape) frames c.frames shown cs

-- how many frames the newest moment may need; the newest stands first
abbrev pub frames_kept : {C : Type 0} → List (Choice C) → ℕ
frames_kept [] = 0
frames_kept (c ∷ cs) = c.frames

-- The store, the frames and the moments that may be gone back to are as they are kept.
pub record AreTerms {C : Type 0} (t : Terms C) : Type 0 where
  pub distinct : AreDistinct t.names
  pub named : AreNamed (length t.names) t.store
  pub frames_are : AreFrames t.names t.store t.frames.items (length t.frames.items)
  pub next_is : t.next ≤ length t.frames.items
  pub shown_is : HasTerm (length t.names) t.store t.shown
  pub choices_are : AreChoices t.names t.store t.frames.items (length t.frames.items) t.shown (reverse t.choices.items)

-- ---- what a step of the terms does

-- cells stand for what they stood for
abbrev pub KeepsCells : {C : Type 0} → Terms C → Terms C → Type 0
KeepsCells {C} old new = (c : Cell) → IsBuilt old c → IsBuilt new c × (built new c ≡ built old c)

-- cells stand for what they stood for, as far as it was bound since
abbrev pub KeepsUnder : {C : Type 0} → (ℕ → Tree) → Terms C → Terms C → Type 0
KeepsUnder {C} m old new = (c : Cell) → IsBuilt old c → IsBuilt new c × (built new c ≡ substituted m (built old c))

-- the same by the unifier of two terms, if there is one
abbrev pub KeepsBound : {C : Type 0} → Option (ℕ → Tree) → Terms C → Terms C → Type 0
KeepsBound None old new = KeepsCells old new
KeepsBound (Some m) old new = KeepsUnder m old new

-- terms and names were added, and nothing else was done
pub record IsGrown {C : Type 0} (old new : Terms C) : Type 0 where
  pub terms : AreTerms new
  pub said_is : said new ≡ said old
  pub names : AreLonger old.names new.names
  pub cells : KeepsCells old new

-- on with these goals where there is a unifier, and else nothing is bound
abbrev pub IsSolved : {C : Type 0} → List Next → Said C → Said C → Bool → Option (ℕ → Tree) → Type 0
IsSolved goals old new done None = (done ≡ false) × (new ≡ old)
IsSolved goals old new done (Some m) =
    (done ≡ true) × (new ≡ record old { goals = map (next_under m) (goals ++ old.goals); bindings = λ v. substituted m (old.bindings v) })

-- two terms are made one
abbrev pub AreEquated : {C : Type 0} → Tree → Tree → List Next → Said C → Said C → Bool → Type 0
AreEquated a b goals old new done = IsSolved goals old new done (unifier a b)

-- a clause is tried by a call: its variables are new ones, the two sides are made one, and what comes first then comes first, a cut
-- going back to a height
abbrev pub IsEntered : {C : Type 0} → spec.Use → Tree → Clause → ℕ → Said C → Said C → Bool → Type 0
IsEntered used goal c cut old new done =
    AreEquated (renamed old.fresh (side_of_clause used c)) (side_of_call used goal) (first_goals used old.fresh cut c) (record old { fresh = old.fresh + c.vars }) new done

-- the same without a trace: nothing is bound, and this tells whether there is a unifier
abbrev pub IsCompared : {C : Type 0} → Tree → Clause → Said C → Said C → Bool → Type 0
IsCompared goal c old new done = (new ≡ record old { fresh = old.fresh + c.vars }) × (done ≡ is_some (unifier (renamed old.fresh c.head) goal))

-- it is the mark of a `catch`
abbrev pub is_catch : {C : Type 0} → Turn C → Bool
is_catch (OfCall c) = false
is_catch (OfRight g h) = false
is_catch OfRepeat = false
is_catch OfNot = false
is_catch (OfCatch c r) = true
is_catch (OfFindall l f) = false

-- whether the newest moment is the mark of a `catch`
abbrev pub HasCatch : {C : Type 0} → List (Saved C) → Bool → Type 0
HasCatch {C} stack b = (below : List (Saved C)) × ((s : Saved C) × ((stack ≡ below ++ s ∷ []) × (is_catch s.turn ≡ b)))

-- how the newest moment would be gone back to
abbrev pub HasNewest : {C : Type 0} → List (Saved C) → Bool → Type 0
HasNewest {C} stack b = (below : List (Saved C)) × ((s : Saved C) × ((stack ≡ below ++ s ∷ []) × (is_open s.turn ≡ b)))

-- ---- copies that are found

-- one more copy is found
abbrev pub turn_with : {C : Type 0} → Tree → Turn C → Turn C
turn_with copy (OfFindall list found) = OfFindall list (found ++ copy ∷ [])
turn_with copy (OfCall c) = OfCall c
turn_with copy (OfRight g h) = OfRight g h
turn_with copy OfRepeat = OfRepeat
turn_with copy OfNot = OfNot
turn_with copy (OfCatch c r) = OfCatch c r

-- the same at one place of the stack
abbrev pub found_from : {C : Type 0} → ℕ → Tree → List (Saved C) → List (Saved C)
found_from k copy [] = []
found_from zero copy (s ∷ ss) = record s { turn = turn_with copy s.turn } ∷ ss
found_from (suc k) copy (s ∷ ss) = s ∷ found_from k copy ss

-- the same at the mark with which the stack has this height
abbrev pub found_in : {C : Type 0} → ℕ → Tree → List (Saved C) → List (Saved C)
found_in zero copy ss = ss
found_in (suc k) copy ss = found_from k copy ss
