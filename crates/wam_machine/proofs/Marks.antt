-- Each `catch` whose end is still to come has its mark on the stack, and so has each `findall` whose goal has an answer.
use Rattle.std.proofs.Common.{◌≡◌, ℕ, zero, suc, ◌+◌, ◌-◌, ◌<◌, ◌≤◌, List, [], ◌∷◌, ◌++◌, Bool, true, false, length, drop, take, map, refl, sym, ap, ◌∙◌, subst, arith, length-drop, drop-drop}
use Rattle.std.specs.Prelude.{pos, Option, Some, None, ◌==◌, if◌then◌else◌, nat_lt, codes}
use Rattle.std.proofs.lemmas.Bool.Decides.{nat_tests}
use Rattle.prolog_terms.specs.Operators.{Table}
use Rattle.prolog_terms.specs.Tree.{Tree, Trees, variable, integer, atom, compound, count}
use Rattle.prolog_terms.specs.Clauses.{body_of, call_term}
use Rattle.prolog_terms.specs.Substitutions.{renamed, numbered, beyond}
use Rattle.prolog_terms.specs.declared.entry.Clause.{Clause}
use Rattle.prolog_terms.specs.declared.entry.Indicator.{Indicator}
use Rattle.prolog_terms.specs.declared.fault.Fault.TheVariants.{Representation}
use Rattle.call_patterns.specs.Keys.{keys}
use Rattle.term_unifier.specs.Unifier.{unifier}
use Rattle.term_builtins.specs.Meanings.{Meaning, Holds as Held, Equates, Writes, Puts, Raises, list_tree}
use Rattle.wam_machine.specs.Control.{Access, Control, True, Fail, Cut, Repeat, Both, Either, IfElse, If, Not, Call, Once, Catch, Findall, Throw, Halt, HaltWith, Database, Builtin, User, control_of, with_added, is_true_atom}
use Rattle.wam_machine.specs.Found.{is_findall, FindallsHaveMarks}
use Rattle.wam_machine.proofs.FoundAt.{found-mark, found-length, found-cut}
use Rattle.wam_machine.specs.declared.run.RunEnd.{RunEnd}
use Rattle.wam_machine.specs.declared.run.RunEnd.TheVariants.{Exhausted, Ball, Spent, Halted}
use Rattle.wam_machine.specs.States.{Use, Enter, Match, Candidate, Next, Do, ConditionEnd, NotEnd, CatchEnd, FindallEnd, Alternative, Clauses, Right, Again, NotMark, CatchMark, FindallMark, Choice, Mode, Going, Failing, Raising, State, Setting, Outcome, Goes, Ends, Unfit, no_more, over, stepping, onwards, pushed, height, cut_to, cut_back, next_under, solving, raises}
use Rattle.wam_machine.specs.Procedures.{numbering, body_from, side_of_clause, side_of_call, first_goals, entering, leaving, trying, candidate_clauses, calling, accessing}
use Rattle.wam_machine.specs.Machine.{call_with, running, calling_added, denying, catching, gathering, gathered, new_copies, behind_copies, with_found, found_at, throwing, halting, repeating, performing, doing, goal_move, going, back_to, taken, failing, active_catch, catching_ball, recovering, reaching, reached, caught, raising, move, beginning, coming_to, calling_builtin}
use Rattle.wam_machine.specs.Laws.{Reaches, here, further, is_mark, CatchesHaveMarks}
use Rattle.wam_machine.proofs.Lasting.{IsNear, meeting-lasts, calling-lasts, accessing-lasts}

-- ---- what holds of a state

-- a choice of a kind stands there
abbrev HasAt : (Alternative → Bool) → ℕ → List Choice → Type 0
HasAt is h stack = (c : Choice) × ((below : List Choice) × ((cut_to h stack ≡ c ∷ below) × (suc (length below) ≡ h) × (is c.what ≡ true)))

-- the height of the innermost mark, of a `catch` or of a `findall`, or 0
abbrev low : List Next → ℕ
low [] = 0
low (Do g cut ∷ rest) = low rest
low (ConditionEnd h ∷ rest) = low rest
low (NotEnd h ∷ rest) = low rest
low (CatchEnd h ∷ rest) = h
low (FindallEnd t h ∷ rest) = h

-- before the end of a `catch` or of a `findall` nothing is cut to below its mark
abbrev Nested : List Choice → List Next → Type 0
Nested st [] = Unit {0}
Nested st (Do g cut ∷ rest) = (low rest ≤ cut) × Nested st rest
Nested st (ConditionEnd h ∷ rest) = (low rest ≤ h) × Nested st rest
Nested st (NotEnd h ∷ rest) = (low rest ≤ h) × Nested st rest
Nested st (CatchEnd h ∷ rest) = (low rest < h) × (HasAt is_mark h st × Nested st rest)
Nested st (FindallEnd t h ∷ rest) = (low rest < h) × (HasAt is_findall h st × Nested st rest)

abbrev Fits : Alternative → List Next → Type 0
Fits (Clauses used goal rest) gs = Unit {0}
Fits (Right goal cut) gs = low gs ≤ cut
Fits Again gs = Unit {0}
Fits NotMark gs = Unit {0}
Fits (CatchMark c r) gs = Unit {0}
Fits (FindallMark l f) gs = Unit {0}

abbrev Stacked : List Choice → Type 0
Stacked [] = Unit {0}
Stacked (c ∷ below) = Nested below c.goals × (Fits c.what c.goals × Stacked below)

record Holds (s : State) : Type 0 where
  nested : Nested s.stack s.goals
  stacked : Stacked s.stack

abbrev Kept : Outcome → Type 0
Kept (Goes t) = Holds t
Kept (Ends r) = Unit {0}
Kept Unfit = Unit {0}

-- ---- marks

drop-none : {A : Type 0} (xs : List A) (n : ℕ) → n ≡ 0 → drop n xs ≡ xs
drop-none xs n e = ap (λ k. drop k xs) e

length-cut : (h : ℕ) (st : List Choice) → length (cut_to h st) ≡ length st - (length st - h)
length-cut h st = length-drop (length st - h) st

mark-high : (is : Alternative → Bool) (h : ℕ) (st : List Choice) → HasAt is h st → h ≤ length st
mark-high is h st (c, (below, (e, n, m))) = go (sym (ap length e) ∙ length-cut h st)
  where
    go : suc (length below) ≡ length st - (length st - h) → h ≤ length st
    go f = omega (arith, n)

mark-push : (is : Alternative → Bool) (c : Choice) (h : ℕ) (st : List Choice) → HasAt is h st → HasAt is h (c ∷ st)
mark-push is c h st (d, (below, (e, n, m))) = (d, (below, (ap (λ k. drop k (c ∷ st)) next ∙ e, n, m)))
  where
    high : h ≤ length st
    high = mark-high is h st (d, (below, (e, n, m)))

    next : suc (length st) - h ≡ suc (length st - h)
    next = omega (arith, high)

cut-twice : (h k : ℕ) (st : List Choice) → h ≤ k → cut_to h (cut_to k st) ≡ cut_to h st
cut-twice h k st l =
    drop-drop (length (cut_to k st) - h) (length st - k) st ∙ ap (λ n. drop n st) same
  where
    same : (length st - k) + (length (cut_to k st) - h) ≡ length st - h
    same = let e = length-cut k st in omega (arith, l)

mark-cut : (is : Alternative → Bool) (h k : ℕ) (st : List Choice) → h ≤ k → HasAt is h st → HasAt is h (cut_to k st)
mark-cut is h k st l (c, (below, (e, n, m))) = (c, (below, (cut-twice h k st l ∙ e, n, m)))

-- a mark that is put on the stack
mark-new : (is : Alternative → Bool) (c : Choice) (st : List Choice) → is c.what ≡ true → HasAt is (suc (length st)) (c ∷ st)
mark-new is c st m = (c, (st, (drop-none (c ∷ st) (suc (length st) - suc (length st)) none, refl, m)))
  where
    none : suc (length st) - suc (length st) ≡ 0
    none = omega arith

nested-push : (c : Choice) (st : List Choice) (gs : List Next) → Nested st gs → Nested (c ∷ st) gs
nested-push c st [] h = tt
nested-push c st (Do g cut ∷ rest) h = (h.0, nested-push c st rest h.1)
nested-push c st (ConditionEnd k ∷ rest) h = (h.0, nested-push c st rest h.1)
nested-push c st (NotEnd k ∷ rest) h = (h.0, nested-push c st rest h.1)
nested-push c st (CatchEnd k ∷ rest) h = (h.0, (mark-push is_mark c k st h.1.0, nested-push c st rest h.1.1))
nested-push c st (FindallEnd t k ∷ rest) h = (h.0, (mark-push is_findall c k st h.1.0, nested-push c st rest h.1.1))

nested-cut : (k : ℕ) (st : List Choice) (gs : List Next) → low gs ≤ k → Nested st gs → Nested (cut_to k st) gs
nested-cut k st [] l h = tt
nested-cut k st (Do g cut ∷ rest) l h = (h.0, nested-cut k st rest l h.1)
nested-cut k st (ConditionEnd n ∷ rest) l h = (h.0, nested-cut k st rest l h.1)
nested-cut k st (NotEnd n ∷ rest) l h = (h.0, nested-cut k st rest l h.1)
nested-cut k st (CatchEnd n ∷ rest) l h = let b = h.0 in (h.0, (mark-cut is_mark n k st l h.1.0, nested-cut k st rest (omega (arith, l)) h.1.1))
nested-cut k st (FindallEnd t n ∷ rest) l h = let b = h.0 in (h.0, (mark-cut is_findall n k st l h.1.0, nested-cut k st rest (omega (arith, l)) h.1.1))

low_height : (st : List Choice) (gs : List Next) → Nested st gs → low gs ≤ length st
low_height st [] h = omega arith
low_height st (Do g cut ∷ rest) h = low_height st rest h.1
low_height st (ConditionEnd n ∷ rest) h = low_height st rest h.1
low_height st (NotEnd n ∷ rest) h = low_height st rest h.1
low_height st (CatchEnd n ∷ rest) h = mark-high is_mark n st h.1.0
low_height st (FindallEnd t n ∷ rest) h = mark-high is_findall n st h.1.0

low_under : (m : ℕ → Tree) (gs : List Next) → low (map (next_under m) gs) ≡ low gs
low_under m [] = refl
low_under m (Do g cut ∷ rest) = low_under m rest
low_under m (ConditionEnd n ∷ rest) = low_under m rest
low_under m (NotEnd n ∷ rest) = low_under m rest
low_under m (CatchEnd n ∷ rest) = refl
low_under m (FindallEnd t n ∷ rest) = refl

nested_under : (m : ℕ → Tree) (st : List Choice) (gs : List Next) → Nested st gs → Nested st (map (next_under m) gs)
nested_under m st [] h = tt
nested_under m st (Do g cut ∷ rest) h = (subst (λ n. n ≤ cut) (sym (low_under m rest)) h.0, nested_under m st rest h.1)
nested_under m st (ConditionEnd k ∷ rest) h = (subst (λ n. n ≤ k) (sym (low_under m rest)) h.0, nested_under m st rest h.1)
nested_under m st (NotEnd k ∷ rest) h = (subst (λ n. n ≤ k) (sym (low_under m rest)) h.0, nested_under m st rest h.1)
nested_under m st (CatchEnd k ∷ rest) h = (subst (λ n. n < k) (sym (low_under m rest)) h.0, (h.1.0, nested_under m st rest h.1.1))
nested_under m st (FindallEnd t k ∷ rest) h = (subst (λ n. n < k) (sym (low_under m rest)) h.0, (h.1.0, nested_under m st rest h.1.1))

stacked-drop : (n : ℕ) (st : List Choice) → Stacked st → Stacked (drop n st)
stacked-drop zero st h = h
stacked-drop (suc n) [] h = tt
stacked-drop (suc n) (c ∷ st) h = stacked-drop n st h.1.1

-- ---- one more copy that is found

found-findall : (copy : Tree) (a : Alternative) → is_findall (with_found copy a) ≡ is_findall a
found-findall copy (Clauses used goal rest) = refl
found-findall copy (Right goal cut) = refl
found-findall copy Again = refl
found-findall copy NotMark = refl
found-findall copy (CatchMark c r) = refl
found-findall copy (FindallMark l f) = refl

mark-found : (is : Alternative → Bool) (h : ℕ) (copy : Tree) (k : ℕ) (st : List Choice) → ((a : Alternative) → is (with_found copy a) ≡ is a) → HasAt is k st → HasAt is k (found_at h copy st)
mark-found is h copy k st same (c, (below, (e, n, m))) = go (suc (length below) == h) (found-cut k h copy st ∙ ap (found_at h copy) e)
  where
    go : (b : Bool) → cut_to k (found_at h copy st) ≡ (if b then record c { what = with_found copy c.what } ∷ below else c ∷ found_at h copy below) → HasAt is k (found_at h copy st)
    go true f = (record c { what = with_found copy c.what }, (below, (f, n, same c.what ∙ m)))
    go false f = (c, (found_at h copy below, (f, ap suc (found-length h copy below) ∙ n, m)))

nested-found : (h : ℕ) (copy : Tree) (st : List Choice) (gs : List Next) → Nested st gs → Nested (found_at h copy st) gs
nested-found h copy st [] n = tt
nested-found h copy st (Do g cut ∷ rest) n = (n.0, nested-found h copy st rest n.1)
nested-found h copy st (ConditionEnd k ∷ rest) n = (n.0, nested-found h copy st rest n.1)
nested-found h copy st (NotEnd k ∷ rest) n = (n.0, nested-found h copy st rest n.1)
nested-found h copy st (CatchEnd k ∷ rest) n = (n.0, (mark-found is_mark h copy k st (found-mark copy) n.1.0, nested-found h copy st rest n.1.1))
nested-found h copy st (FindallEnd t k ∷ rest) n = (n.0, (mark-found is_findall h copy k st (found-findall copy) n.1.0, nested-found h copy st rest n.1.1))

fits-found : (copy : Tree) (a : Alternative) (gs : List Next) → Fits a gs → Fits (with_found copy a) gs
fits-found copy (Clauses used goal rest) gs f = f
fits-found copy (Right goal cut) gs f = f
fits-found copy Again gs f = f
fits-found copy NotMark gs f = f
fits-found copy (CatchMark c r) gs f = f
fits-found copy (FindallMark l fs) gs f = f

stacked-found : (h : ℕ) (copy : Tree) (st : List Choice) → Stacked st → Stacked (found_at h copy st)
stacked-found h copy [] s = tt
stacked-found h copy (c ∷ below) s = go (suc (length below) == h) (stacked-found h copy below s.1.1)
  where
    go : (b : Bool) → Stacked (found_at h copy below) → Stacked (if b then record c { what = with_found copy c.what } ∷ below else c ∷ found_at h copy below)
    go true more = (s.0, (fits-found copy c.what c.goals s.1.0, s.1.1))
    go false more = (nested-found h copy below c.goals s.0, (s.1.0, more))

-- ---- what a move keeps

over-kept : (x : Setting) (s : State) (e : RunEnd) → Kept (over x s e)
over-kept x s e = go (no_more s.fronts)
  where
    go : (b : Bool) → Kept (if b then Ends (record { events = s.events; deeds = s.deeds; tried = s.tried; steps = s.steps; end = e }) else Unfit)
    go true = tt
    go false = tt

pushed-holds : (a : Alternative) (s : State) → Fits a s.goals → Holds s → Holds (pushed a s)
pushed-holds a s f h = record {
  nested = nested-push (record { what = a; goals = s.goals; bindings = s.bindings }) s.stack s.goals h.nested;
  stacked = (h.nested, (f, h.stacked));
}

cut-holds : (k : ℕ) (s : State) → low s.goals ≤ k → Holds s → Holds (cut_back k s)
cut-holds k s l h = record { nested = nested-cut k s.stack s.goals l h.nested; stacked = stacked-drop (length s.stack - k) s.stack h.stacked }

-- one more first
do_first : (g : Tree) (cut : ℕ) (st : List Choice) (gs : List Next) → low gs ≤ cut → Nested st gs → Nested st (Do g cut ∷ gs)
do_first g cut st gs l h = (l, h)

solving-kept : (new : List Next) (s : State) (o : Option (ℕ → Tree)) → Nested s.stack (new ++ s.goals) → Holds s → Kept (solving new s o)
solving-kept new s None n h = record { nested = h.nested; stacked = h.stacked }
solving-kept new s (Some m) n h = record { nested = nested_under m s.stack (new ++ s.goals) n; stacked = h.stacked }

coming_to-kept : (ops : Table) (at : Indicator) (s : State) (m : Meaning) → Holds s → Kept (coming_to ops at s m)
coming_to-kept ops at s (Held true) h = h
coming_to-kept ops at s (Writes style t) h = record { nested = h.nested; stacked = h.stacked }
coming_to-kept ops at s (Puts bytes) h = record { nested = h.nested; stacked = h.stacked }
coming_to-kept ops at s (Held false) h = record { nested = h.nested; stacked = h.stacked }
coming_to-kept ops at s (Equates added a b) h = solving-kept [] (record s { fresh = s.fresh + added }) (unifier a b) h.nested (record { nested = h.nested; stacked = h.stacked })
coming_to-kept ops at s (Raises fault) h = record { nested = h.nested; stacked = h.stacked }

builtin-kept : (ops : Table) (row : ℕ) (args : Trees) (s : State) → Holds s → Kept (calling_builtin ops row args s)
unfolding calling_builtin
builtin-kept ops row args s h = coming_to-kept ops _ s _ h

body-nested : (from cut : ℕ) (c : Clause) (st : List Choice) (gs : List Next) → low gs ≤ cut → Nested st gs → Nested st (body_from from cut c ++ gs)
body-nested from cut c st gs l h = go (is_true_atom c.body)
  where
    go : (b : Bool) → Nested st (map (λ goal. Do (renamed from goal) cut) (if b then [] else c.body ∷ []) ++ gs)
    go true = h
    go false = (l, h)

first-nested : (used : Use) (from cut : ℕ) (c : Clause) (st : List Choice) (gs : List Next) → low gs ≤ cut → Nested st gs → Nested st (first_goals used from cut c ++ gs)
first-nested Enter from cut c st gs l h = body-nested from cut c st gs l h
first-nested (Match purpose body) from cut c st gs l h = h

near-holds : (s t : State) → IsNear s t → Holds s → Holds t
near-holds s t n h = record { nested = rw (n.stack, n.goals) h.nested; stacked = rw n.stack h.stacked }

entering-kept : (x : Setting) (used : Use) (goal : Tree) (c : Candidate) (from cut : ℕ) (s : State) → low s.goals ≤ cut → Holds s → Kept (entering x used goal c from cut s)
entering-kept x used goal c from cut s l h =
    meeting-lasts x Holds Kept (λ t k. k) tt near-holds used c.name (first_goals used from cut c.clause) s (unifier (renamed from (side_of_clause used c.clause)) (side_of_call used goal)) h
    (λ m. record { nested = nested_under m s.stack (first_goals used from cut c.clause ++ s.goals) (first-nested used from cut c.clause s.stack s.goals l h.nested); stacked = h.stacked })

trying-kept : (x : Setting) (used : Use) (goal : Tree) (cs : List Candidate) (s : State) → Holds s → Kept (trying x used goal cs s)
trying-kept x used goal [] s h = record { nested = h.nested; stacked = h.stacked }
trying-kept x used goal (c ∷ []) s h =
    entering-kept x used goal c s.fresh (height s) (numbering c.clause (record s { tried = s.tried + 1 })) (low_height s.stack s.goals h.nested) (record { nested = h.nested; stacked = h.stacked })
trying-kept x used goal (c ∷ d ∷ ds) s h =
    entering-kept x used goal c s.fresh (height s) (numbering c.clause (leaving used goal (d ∷ ds) (record s { tried = s.tried + 1 }))) (low_height s.stack s.goals h.nested)
    (let k : Holds (pushed (Clauses used goal (d ∷ ds)) s) = pushed-holds (Clauses used goal (d ∷ ds)) s tt h in record { nested = k.nested; stacked = k.stacked })

tries-kept : (x : Setting) (used : Use) (goal : Tree) (f p : ℕ) (t : State) → Holds t → Kept (trying x used goal (candidate_clauses (take f x.journal) p (keys goal)) t)
tries-kept x used goal f p t h = trying-kept x used goal (candidate_clauses (take f x.journal) p (keys goal)) t h

calling-kept : (x : Setting) (s : State) (goal : Tree) (i : Indicator) → Holds s → Kept (calling x s goal i)
calling-kept x s goal i h = calling-lasts x Holds Kept (λ t k. k) tt near-holds (tries-kept x) s goal i h

accessing-kept : (x : Setting) (a : Access) (s : State) → Holds s → Kept (accessing x a s)
accessing-kept x a s h = accessing-lasts x Holds Kept (λ t k. k) tt near-holds (tries-kept x) a s h

running-kept : (goal : Tree) (at : Indicator) (s : State) (o : Option Tree) → Holds s → Kept (running goal at s o)
running-kept goal at s None h = record { nested = h.nested; stacked = h.stacked }
running-kept goal at s (Some body) h = record { nested = (low_height s.stack s.goals h.nested, h.nested); stacked = h.stacked }

calling_added-kept : (goal : Tree) (added : Trees) (s : State) → Holds s → Kept (calling_added goal added s)
calling_added-kept (variable n) added s h = record { nested = h.nested; stacked = h.stacked }
calling_added-kept (integer z) added s h = record { nested = h.nested; stacked = h.stacked }
calling_added-kept (atom a) added s h = running-kept (with_added (atom a) added) (call_with added) s (body_of (with_added (atom a) added)) h
calling_added-kept (compound f ts) added s h = go (nat_lt 255 (count ts + count added))
  where
    go : (b : Bool) → Kept (if b then raises (Representation (codes "max_arity")) (call_with added) s else running (with_added (compound f ts) added) (call_with added) s (body_of (with_added (compound f ts) added)))
    go true = record { nested = h.nested; stacked = h.stacked }
    go false = running-kept (with_added (compound f ts) added) (call_with added) s (body_of (with_added (compound f ts) added)) h

higher : (n k : ℕ) → n ≤ k → n ≤ suc k
higher n k l = omega arith

same-height : (n : ℕ) → n ≤ n
same-height n = omega arith

denying-kept : (goal : Tree) (s : State) (o : Option Tree) → Holds s → Kept (denying goal s o)
denying-kept goal s None h = record { nested = h.nested; stacked = h.stacked }
denying-kept goal s (Some body) h =
    let l : low s.goals ≤ length s.stack = low_height s.stack s.goals h.nested in
    let k : Holds (pushed NotMark s) = pushed-holds NotMark s tt h in
    record { nested = (higher (low s.goals) (length s.stack) l, (l, k.nested)); stacked = k.stacked }

lower-height : (n k : ℕ) → n ≤ k → n < suc k
lower-height n k l = omega arith

catching-kept : (goal catcher recovery : Tree) (s : State) (o : Option Tree) → Holds s → Kept (catching goal catcher recovery s o)
catching-kept goal catcher recovery s None h = record { nested = h.nested; stacked = h.stacked }
catching-kept goal catcher recovery s (Some body) h =
    let l : low s.goals ≤ length s.stack = low_height s.stack s.goals h.nested in
    let k : Holds (pushed (CatchMark catcher recovery) s) = pushed-holds (CatchMark catcher recovery) s tt h in
    record { nested = (same-height (suc (length s.stack)), (lower-height (low s.goals) (length s.stack) l, (mark-new is_mark first s.stack refl, k.nested))); stacked = k.stacked }
  where
    first : Choice
    first = record { what = CatchMark catcher recovery; goals = s.goals; bindings = s.bindings }

gathering-kept : (template goal list : Tree) (s : State) (o : Option Tree) → Holds s → Kept (gathering template goal list s o)
gathering-kept template goal list s None h = record { nested = h.nested; stacked = h.stacked }
gathering-kept template goal list s (Some body) h =
    let l : low s.goals ≤ length s.stack = low_height s.stack s.goals h.nested in
    let k : Holds (pushed (FindallMark list []) s) = pushed-holds (FindallMark list []) s tt h in
    record { nested = (same-height (suc (length s.stack)), (lower-height (low s.goals) (length s.stack) l, (mark-new is_findall first s.stack refl, k.nested))); stacked = k.stacked }
  where
    first : Choice
    first = record { what = FindallMark list []; goals = s.goals; bindings = s.bindings }

gathered-kept : (list : Tree) (found : List Tree) (s : State) → Holds s → Kept (gathered list found s)
gathered-kept list found s h =
    solving-kept [] (record s { fresh = behind_copies s.fresh found }) (unifier list (list_tree (new_copies s.fresh found))) h.nested (record { nested = h.nested; stacked = h.stacked })

throwing-kept : (ball : Tree) (s : State) → Holds s → Kept (throwing ball s)
throwing-kept (variable n) s h = record { nested = h.nested; stacked = h.stacked }
throwing-kept (integer z) s h = record { nested = h.nested; stacked = h.stacked }
throwing-kept (atom a) s h = record { nested = h.nested; stacked = h.stacked }
throwing-kept (compound f ts) s h = record { nested = h.nested; stacked = h.stacked }

halting-kept : (x : Setting) (code : Tree) (s : State) → Holds s → Kept (halting x code s)
halting-kept x (variable n) s h = record { nested = h.nested; stacked = h.stacked }
halting-kept x (integer z) s h = over-kept x s (Halted z)
halting-kept x (atom a) s h = record { nested = h.nested; stacked = h.stacked }
halting-kept x (compound f ts) s h = record { nested = h.nested; stacked = h.stacked }

performing-kept : (x : Setting) (goal : Tree) (cut : ℕ) (c : Control) (s : State) → low s.goals ≤ cut → Holds s → Kept (performing x goal cut c s)
performing-kept x goal cut True s l h = h
performing-kept x goal cut Fail s l h = record { nested = h.nested; stacked = h.stacked }
performing-kept x goal cut Cut s l h = cut-holds cut s l h
performing-kept x goal cut Repeat s l h = pushed-holds Again s tt h
performing-kept x goal cut (Both a b) s l h = record { nested = (l, (l, h.nested)); stacked = h.stacked }
performing-kept x goal cut (Either a b) s l h = let k : Holds (pushed (Right b cut) s) = pushed-holds (Right b cut) s l h in record { nested = (l, k.nested); stacked = k.stacked }
performing-kept x goal cut (IfElse c t e) s l h =
    let n : low s.goals ≤ length s.stack = low_height s.stack s.goals h.nested in
    let k : Holds (pushed (Right e cut) s) = pushed-holds (Right e cut) s l h in
    record { nested = (higher (low s.goals) (length s.stack) n, (n, (l, k.nested))); stacked = k.stacked }
performing-kept x goal cut (If c t) s l h =
    let n : low s.goals ≤ length s.stack = low_height s.stack s.goals h.nested in
    record { nested = (n, (n, (l, h.nested))); stacked = h.stacked }
performing-kept x goal cut (Not g) s l h = denying-kept g s (body_of g) h
performing-kept x goal cut (Call g added) s l h = calling_added-kept g added s h
performing-kept x goal cut (Once g) s l h = record { nested = (l, h.nested); stacked = h.stacked }
performing-kept x goal cut (Catch g c r) s l h = catching-kept g c r s (body_of g) h
performing-kept x goal cut (Findall t g r) s l h = gathering-kept t g r s (body_of g) h
performing-kept x goal cut (Throw b) s l h = throwing-kept b s h
performing-kept x goal cut Halt s l h = over-kept x s (Halted (pos 0))
performing-kept x goal cut (HaltWith n) s l h = halting-kept x n s h
performing-kept x goal cut (Database a) s l h = accessing-kept x a s h
performing-kept x goal cut (Builtin row args) s l h = builtin-kept x.ops row args s h
performing-kept x goal cut (User i) s l h = calling-kept x s goal i h

stepping-kept : (x : Setting) (s : State) (then_ : State → Outcome) → Kept (then_ (record s { steps = suc s.steps })) → Kept (stepping x s then_)
stepping-kept x s then_ h = go (s.steps == x.budget)
  where
    go : (b : Bool) → Kept (if b then over x s (Spent s.steps) else then_ (record s { steps = suc s.steps }))
    go true = over-kept x s (Spent s.steps)
    go false = h

performed-kept : (x : Setting) (goal : Tree) (cut : ℕ) (s : State) (c : Control) → low s.goals ≤ cut → Holds s → Kept (stepping x s (performing x goal cut c))
performed-kept x goal cut s c l h = stepping-kept x s (performing x goal cut c) (performing-kept x goal cut c (record s { steps = suc s.steps }) l (record { nested = h.nested; stacked = h.stacked }))

doing-kept : (x : Setting) (goal : Tree) (cut : ℕ) (s : State) (c : Control) → low s.goals ≤ cut → Holds s → Kept (doing x goal cut s c)
doing-kept x goal cut s True l h = performed-kept x goal cut s True l h
doing-kept x goal cut s Fail l h = performed-kept x goal cut s Fail l h
doing-kept x goal cut s Cut l h = performed-kept x goal cut s Cut l h
doing-kept x goal cut s Repeat l h = performed-kept x goal cut s Repeat l h
doing-kept x goal cut s (Both a b) l h = performing-kept x goal cut (Both a b) s l h
doing-kept x goal cut s (Either a b) l h = performed-kept x goal cut s (Either a b) l h
doing-kept x goal cut s (IfElse c t e) l h = performed-kept x goal cut s (IfElse c t e) l h
doing-kept x goal cut s (If c t) l h = performed-kept x goal cut s (If c t) l h
doing-kept x goal cut s (Not g) l h = performed-kept x goal cut s (Not g) l h
doing-kept x goal cut s (Call g added) l h = performed-kept x goal cut s (Call g added) l h
doing-kept x goal cut s (Once g) l h = performed-kept x goal cut s (Once g) l h
doing-kept x goal cut s (Catch g c r) l h = performed-kept x goal cut s (Catch g c r) l h
doing-kept x goal cut s (Findall t g r) l h = performed-kept x goal cut s (Findall t g r) l h
doing-kept x goal cut s (Throw b) l h = performed-kept x goal cut s (Throw b) l h
doing-kept x goal cut s Halt l h = performed-kept x goal cut s Halt l h
doing-kept x goal cut s (HaltWith n) l h = performed-kept x goal cut s (HaltWith n) l h
doing-kept x goal cut s (Database a) l h = performed-kept x goal cut s (Database a) l h
doing-kept x goal cut s (Builtin row args) l h = performed-kept x goal cut s (Builtin row args) l h
doing-kept x goal cut s (User i) l h = performed-kept x goal cut s (User i) l h

goal_move-kept : (x : Setting) (goal : Tree) (cut : ℕ) (s : State) (o : Option Control) → low s.goals ≤ cut → Holds s → Kept (goal_move x goal cut s o)
goal_move-kept x goal cut s None l h = tt
goal_move-kept x goal cut s (Some c) l h = doing-kept x goal cut s c l h

going-kept : (x : Setting) (s : State) (gs : List Next) → Nested s.stack gs → Holds s → Kept (going x s gs)
going-kept x s [] n h = record { nested = h.nested; stacked = h.stacked }
going-kept x s (Do g cut ∷ rest) n h = goal_move-kept x g cut (record s { goals = rest }) (control_of g) n.0 (record { nested = n.1; stacked = h.stacked })
going-kept x s (ConditionEnd k ∷ rest) n h = cut-holds k (record s { goals = rest }) n.0 (record { nested = n.1; stacked = h.stacked })
going-kept x s (NotEnd k ∷ rest) n h =
    let c : Holds (cut_back k (record s { goals = rest })) = cut-holds k (record s { goals = rest }) n.0 (record { nested = n.1; stacked = h.stacked }) in record { nested = c.nested; stacked = c.stacked }
going-kept x s (FindallEnd t k ∷ rest) n h = record { nested = nested-found k (numbered t) s.stack rest n.1.1; stacked = stacked-found k (numbered t) s.stack h.stacked }
going-kept x s (CatchEnd k ∷ rest) n h = go (height s == k)
  where
    t : State
    t = record s { goals = rest }

    left : Holds t
    left = record { nested = n.1.1; stacked = h.stacked }

    lower : low rest < k → low rest ≤ k - 1
    lower l = omega arith

    go : (b : Bool) → Holds (if b then cut_back (k - 1) t else t)
    go true = cut-holds (k - 1) t (lower n.0) left
    go false = left

taken-kept : (x : Setting) (s : State) (a : Alternative) → Fits a s.goals → Holds s → Kept (taken x s a)
taken-kept x s (Clauses used goal rest) f h = stepping-kept x s (trying x used goal rest) (trying-kept x used goal rest (record s { steps = suc s.steps }) (record { nested = h.nested; stacked = h.stacked }))
taken-kept x s (Right goal cut) f h = stepping-kept x s (onwards (Do goal cut ∷ [])) (record { nested = (f, h.nested); stacked = h.stacked })
taken-kept x s Again f h = stepping-kept x s repeating (let k : Holds (pushed Again s) = pushed-holds Again s tt h in record { nested = k.nested; stacked = k.stacked })
taken-kept x s NotMark f h = h
taken-kept x s (CatchMark c r) f h = record { nested = h.nested; stacked = h.stacked }
taken-kept x s (FindallMark l fs) f h = gathered-kept l fs s h

failing-kept : (x : Setting) (s : State) (st : List Choice) → Stacked st → Kept (failing x s st)
failing-kept x s [] h = over-kept x s Exhausted
failing-kept x s (c ∷ below) h = taken-kept x (back_to s c below) c.what h.1.0 (record { nested = h.0; stacked = h.1.1 })

-- ---- balls

recovering-kept : (ball recovery : Tree) (s : State) (o : Option (ℕ → Tree)) → Holds s → Kept (recovering ball recovery s o)
recovering-kept ball recovery s None h = record { nested = h.nested; stacked = h.stacked }
recovering-kept ball recovery s (Some m) h =
    record { nested = nested_under m s.stack (Do (call_term recovery) (height s) ∷ s.goals) (low_height s.stack s.goals h.nested, h.nested); stacked = h.stacked }

-- where a ball is raised, no end of a `findall` finds its mark any more, and each of a `catch` still does: the height of the
-- active `catch`, or 0
abbrev catch_low : List Next → ℕ
catch_low [] = 0
catch_low (Do g cut ∷ rest) = catch_low rest
catch_low (ConditionEnd h ∷ rest) = catch_low rest
catch_low (NotEnd h ∷ rest) = catch_low rest
catch_low (CatchEnd h ∷ rest) = h
catch_low (FindallEnd t h ∷ rest) = catch_low rest

abbrev CatchesNested : List Choice → List Next → Type 0
CatchesNested st [] = Unit {0}
CatchesNested st (Do g cut ∷ rest) = CatchesNested st rest
CatchesNested st (ConditionEnd h ∷ rest) = CatchesNested st rest
CatchesNested st (NotEnd h ∷ rest) = CatchesNested st rest
CatchesNested st (CatchEnd h ∷ rest) = (catch_low rest < h) × (HasAt is_mark h st × CatchesNested st rest)
CatchesNested st (FindallEnd t h ∷ rest) = CatchesNested st rest

catch-lower : (st : List Choice) (gs : List Next) → Nested st gs → catch_low gs ≤ low gs
catch-lower st [] h = omega arith
catch-lower st (Do g cut ∷ rest) h = catch-lower st rest h.1
catch-lower st (ConditionEnd k ∷ rest) h = catch-lower st rest h.1
catch-lower st (NotEnd k ∷ rest) h = catch-lower st rest h.1
catch-lower st (CatchEnd k ∷ rest) h = same-height k
catch-lower st (FindallEnd t k ∷ rest) h = let b = catch-lower st rest h.1.1 in let l = h.0 in omega (arith, b, l)

catches-nested : (st : List Choice) (gs : List Next) → Nested st gs → CatchesNested st gs
catches-nested st [] h = tt
catches-nested st (Do g cut ∷ rest) h = catches-nested st rest h.1
catches-nested st (ConditionEnd k ∷ rest) h = catches-nested st rest h.1
catches-nested st (NotEnd k ∷ rest) h = catches-nested st rest h.1
catches-nested st (CatchEnd k ∷ rest) h =
    let b = catch-lower st rest h.1.1 in let l = h.0 in (omega (arith, b, l), (h.1.0, catches-nested st rest h.1.1))
catches-nested st (FindallEnd t k ∷ rest) h = catches-nested st rest h.1.1

catches-cut : (k : ℕ) (st : List Choice) (gs : List Next) → catch_low gs ≤ k → CatchesNested st gs → CatchesNested (cut_to k st) gs
catches-cut k st [] l h = tt
catches-cut k st (Do g cut ∷ rest) l h = catches-cut k st rest l h
catches-cut k st (ConditionEnd n ∷ rest) l h = catches-cut k st rest l h
catches-cut k st (NotEnd n ∷ rest) l h = catches-cut k st rest l h
catches-cut k st (CatchEnd n ∷ rest) l h = let b = h.0 in (h.0, (mark-cut is_mark n k st l h.1.0, catches-cut k st rest (omega (arith, l)) h.1.1))
catches-cut k st (FindallEnd t n ∷ rest) l h = catches-cut k st rest l h

active-mark : (st : List Choice) (gs : List Next) (h : ℕ) → CatchesNested st gs → active_catch gs ≡ Some h → HasAt is_mark h st
active-mark st [] h n e = absurd (cc e)
active-mark st (Do g cut ∷ rest) h n e = active-mark st rest h n e
active-mark st (ConditionEnd k ∷ rest) h n e = active-mark st rest h n e
active-mark st (NotEnd k ∷ rest) h n e = active-mark st rest h n e
active-mark st (FindallEnd t k ∷ rest) h n e = active-mark st rest h n e
active-mark st (CatchEnd k ∷ rest) h n e = subst (λ i. HasAt is_mark i st) (same k h e) n.1.0
  where
    same : (i j : ℕ) → Some i ≡ Some j → i ≡ j
    same i j f = cc f

active-low : (gs : List Next) (h : ℕ) → active_catch gs ≡ Some h → catch_low gs ≡ h
active-low [] h e = absurd (cc e)
active-low (Do g cut ∷ rest) h e = active-low rest h e
active-low (ConditionEnd k ∷ rest) h e = active-low rest h e
active-low (NotEnd k ∷ rest) h e = active-low rest h e
active-low (FindallEnd t k ∷ rest) h e = active-low rest h e
active-low (CatchEnd k ∷ rest) h e = same k h e
  where
    same : (i j : ℕ) → Some i ≡ Some j → i ≡ j
    same i j f = cc f

record HoldsAtLeast (s : State) : Type 0 where
  nested : s.mode ≡ Going → Nested s.stack s.goals
  catches : CatchesNested s.stack s.goals
  stacked : Stacked s.stack

abbrev KeptAtLeast : Outcome → Type 0
KeptAtLeast (Goes t) = HoldsAtLeast t
KeptAtLeast (Ends r) = Unit {0}
KeptAtLeast Unfit = Unit {0}

at-least : (o : Outcome) → Kept o → KeptAtLeast o
at-least (Goes t) h = record { nested = λ _. h.nested; catches = catches-nested t.stack t.goals h.nested; stacked = h.stacked }
at-least (Ends r) h = tt
at-least Unfit h = tt

not-going : (ball : Tree) → Raising ball ≡ Going → ⊥
not-going ball e = cc e

on-raised : (ball : Tree) (s : State) (st : List Choice) → s.mode ≡ Raising ball → CatchesNested st s.goals → Stacked st → HoldsAtLeast (record s { stack = st })
on-raised ball s st e c h = record { nested = λ f. absurd (not-going ball (sym e ∙ f)); catches = c; stacked = h }

reaching-kept : (ball : Tree) (s : State) (below : List Choice) (c : Choice) (a : Alternative) → is_mark a ≡ true → Nested below c.goals → Stacked below → KeptAtLeast (reaching ball s below c a)
reaching-kept ball s below c (CatchMark catcher recovery) m n h =
    at-least (catching_ball ball catcher recovery (back_to s c below))
    (recovering-kept ball recovery (record (back_to s c below) { fresh = s.fresh + beyond ball }) (unifier (renamed s.fresh ball) catcher) (record { nested = n; stacked = h }))
reaching-kept ball s below c (Clauses used goal rest) m n h = absurd cc
reaching-kept ball s below c (Right goal cut) m n h = absurd cc
reaching-kept ball s below c Again m n h = absurd cc
reaching-kept ball s below c NotMark m n h = absurd cc
reaching-kept ball s below c (FindallMark l f) m n h = absurd cc

reached-kept : (x : Setting) (ball : Tree) (s : State) (st : List Choice) → ((c : Choice) (below : List Choice) → st ≡ c ∷ below → is_mark c.what ≡ true) → Stacked st → KeptAtLeast (reached x ball s st)
reached-kept x ball s [] m h = at-least (over x s (Ball ball)) (over-kept x s (Ball ball))
reached-kept x ball s (c ∷ below) m h = reaching-kept ball s below c c.what (m c below refl) h.0 h.1.1

-- where nothing is above the mark, it is the newest
newest-mark : (h : ℕ) (st : List Choice) → length st ≤ h → HasAt is_mark h st → (c : Choice) (below : List Choice) → st ≡ c ∷ below → is_mark c.what ≡ true
newest-mark h st l (d, (under, (e, n, m))) c below f = subst (λ (b : Choice). is_mark b.what ≡ true) (same (sym (sym (drop-none st (length st - h) none) ∙ e) ∙ f)) m
  where
    none : length st - h ≡ 0
    none = omega (arith, l)

    same : d ∷ under ≡ c ∷ below → d ≡ c
    same g = cc g

caught-kept : (x : Setting) (ball : Tree) (s : State) (o : Option ℕ) → active_catch s.goals ≡ o → s.mode ≡ Raising ball → HoldsAtLeast s → KeptAtLeast (caught x ball s o)
caught-kept x ball s None a e h = at-least (over x s (Ball ball)) (over-kept x s (Ball ball))
caught-kept x ball s (Some k) a e h = go (nat_lt k (height s)) refl
  where
    at_most : catch_low s.goals ≡ k → catch_low s.goals ≤ k
    at_most l = omega arith

    not_above : nat_lt k (length s.stack) ≡ false → length s.stack ≤ k
    not_above f = grind (arith, nat_tests)

    go : (b : Bool) → nat_lt k (height s) ≡ b → KeptAtLeast (if b then Goes (cut_back k s) else reached x ball s s.stack)
    go true f = on-raised ball s (cut_to k s.stack) e (catches-cut k s.stack s.goals (at_most (active-low s.goals k a)) h.catches) (stacked-drop (length s.stack - k) s.stack h.stacked)
    go false f = reached-kept x ball s s.stack (newest-mark k s.stack (not_above f) (active-mark s.stack s.goals k h.catches a)) h.stacked

move-kept : (x : Setting) (s : State) → HoldsAtLeast s → KeptAtLeast (move x s)
move-kept x s h = go s.mode refl
  where
    go : (m : Mode) → s.mode ≡ m → KeptAtLeast (elim m [ Going ↦ going x s s.goals | Failing ↦ failing x s s.stack | Raising ball ↦ raising x s ball ])
    go Going e = at-least (going x s s.goals) (going-kept x s s.goals (h.nested e) (record { nested = h.nested e; stacked = h.stacked }))
    go Failing e = at-least (failing x s s.stack) (failing-kept x s s.stack h.stacked)
    go (Raising ball) e = caught-kept x ball s (active_catch s.goals) refl e h

-- ---- whole runs

first-holds : (x : Setting) (goal : Tree) (fronts : List ℕ) → HoldsAtLeast (beginning x goal fronts)
first-holds x goal fronts = record { nested = λ _. (same-height 0, tt); catches = tt; stacked = tt }

reaches-holds : (x : Setting) {s t : State} → HoldsAtLeast s → Reaches x s t → HoldsAtLeast t
reaches-holds x h here = h
reaches-holds x h (further {t = t} r e) = let P : Outcome → Type 0 = λ o. KeptAtLeast o in subst P e (move-kept x t (reaches-holds x h r))

pub catches_have_marks : CatchesHaveMarks
catches_have_marks x goal fronts s h r e = active-mark s.stack s.goals h (reaches-holds x (first-holds x goal fronts) r).catches e

pub findalls_have_marks : FindallsHaveMarks
findalls_have_marks x goal fronts s t h rest r going e =
    let n : Nested s.stack s.goals = (reaches-holds x (first-holds x goal fronts) r).nested going in
    let k : Nested s.stack (FindallEnd t h ∷ rest) = subst (Nested s.stack) e n in k.1.0
