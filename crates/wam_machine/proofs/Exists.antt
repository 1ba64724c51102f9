-- Each goal has a run.
use Rattle.std.proofs.Common.{◌≡◌, ℕ, zero, suc, ◌+◌, ◌-◌, ◌<◌, ◌≤◌, List, [], ◌∷◌, ◌++◌, Bool, true, false, drop, map, refl, sym, ap, ap₂, ◌∙◌, subst, arith}
use Rattle.std.specs.Prelude.{pos, All, IfSome, Option, Some, None, ◌==◌, if◌then◌else◌, nat_lt, codes}
use Rattle.std.proofs.lemmas.List.{append-nil, append_assoc, drop-append-le}
use Rattle.std.proofs.lemmas.List.Elements.{All-head, All-append, filter-append}
use Rattle.prolog_terms.specs.Operators.{Table}
use Rattle.prolog_writer.specs.Pieces.{written}
use Rattle.wam_machine.specs.declared.run.Event.TheVariants.{Wrote}
use Rattle.prolog_terms.specs.Tree.{Tree, Trees, variable, integer, atom, compound, count}
use Rattle.prolog_terms.specs.Substitutions.{renamed, substituted, numbered, beyond}
use Rattle.prolog_terms.specs.Faults.{two, fault_tree}
use Rattle.prolog_terms.specs.declared.entry.Entry.{Entry}
use Rattle.prolog_terms.specs.declared.entry.Indicator.{Indicator}
use Rattle.prolog_terms.specs.declared.fault.Fault.TheVariants.{Representation, Instantiation}
use Rattle.journals.specs.Journal.{Journal, added}
use Rattle.journal_base.specs.View.{entries_by}
use Rattle.term_unifier.specs.Unifier.{unifier}
use Rattle.wam_machine.specs.declared.run.RunEnd.{RunEnd}
use Rattle.wam_machine.specs.declared.run.RunEnd.TheVariants.{Exhausted, Ball, Spent, Halted}
use Rattle.prolog_terms.specs.Clauses.{body_of, call_term}
use Rattle.term_builtins.specs.Meanings.{Meaning, Holds, Equates, Writes, Puts, Raises, list_tree}
use Rattle.wam_machine.specs.Control.{Control, True, Fail, Cut, Repeat, Both, Either, IfElse, If, Not, Call, Once, Catch, Findall, Throw, Halt, HaltWith, Database, Builtin, User, control_of, with_added}
use Rattle.wam_machine.specs.States.{Next, Do, ConditionEnd, NotEnd, CatchEnd, FindallEnd, Alternative, Clauses, Right, Again, NotMark, CatchMark, FindallMark, Choice, Mode, Going, Failing, Raising, made_in, State, Setting, Report, Outcome, Goes, Ends, over, stepping, onwards, pushed, height, cut_to, not_callable, next_under, solving, raises, cut_back}
use Rattle.wam_machine.specs.Procedures.{trying}
use Rattle.wam_machine.specs.Machine.{answer, call_with, running, calling_added, denying, catching, gathering, new_copies, behind_copies, found_at, throwing, halting, halt_with, not_integer, active_catch, recovering, reaching, reached, caught, repeating, performing, doing, goal_move, going, back_to, taken, failing, raising, move, beginning, Runs, ends, goes, coming_to, calling_builtin}
use Rattle.wam_machine.specs.Laws.{EachGoalRuns, CanBeDone, HasBody, IsWellMade, HasBodies}
use Rattle.wam_machine.proofs.WellMade.{HasParts, parts, goes-makes, begins-well}
use Rattle.wam_machine.proofs.Laws.{Within, move-within}
use Rattle.wam_machine.proofs.Settles.{Stops, Settles, stops, moves, settles}
use Rattle.wam_machine.proofs.Growing.{at, on, IsQuiet, Continues, calling-continues, trying-continues, accessing-continues}

-- whichever journal it is and whichever fronts are to come, it goes on to one state, takes none of them and makes no entry
record On (s : State) (o : Journal → List ℕ → Outcome) : Type 0 where
  pub next : State
  pub goes_on : (K : Journal) (fs : List ℕ) → o K fs ≡ Goes (at next fs)
  pub front_is : next.front ≡ s.front
  pub steps_is : next.steps ≡ s.steps
  pub made_is : made_in next.deeds ≡ made_in s.deeds

-- What a move does over a journal: it goes on and takes no front, whatever the journal is; it makes entries, takes fronts and goes on, by a
-- step; or the run is over where no front is left.
data Kind (x : Setting) (J : Journal) (s : State) (o : Journal → List ℕ → Outcome) : Type 0 where
  stays : (t : State) → ((K : Journal) (fs : List ℕ) → o K fs ≡ Goes (at t fs)) → IsQuiet x J t.front → s.steps ≤ t.steps → made_in t.deeds ≡ made_in s.deeds → Kind x J s o
  takes : Continues x J (record s { steps = suc s.steps }) o → Kind x J s o
  closes : (r : Report) → ((K : Journal) → o K [] ≡ Ends r) → made_in r.deeds ≡ made_in s.deeds → Kind x J s o

solving-on : (new : List Next) (s : State) (o : Option (ℕ → Tree)) → On s (λ K fs. solving new (at s fs) o)
unfolding at
solving-on new s None = record { next = record s { mode = Failing }; goes_on = λ K fs. refl; front_is = refl; steps_is = refl; made_is = refl }
solving-on new s (Some m) = record { next = record s { goals = map (next_under m) (new ++ s.goals); bindings = λ v. substituted m (s.bindings v) }; goes_on = λ K fs. refl; front_is = refl; steps_is = refl; made_is = refl }

-- what a builtin comes to, by what it looked at before
coming_to-on : (ops : Table) (i : Indicator) (s : State) (m : Meaning) → On s (λ K fs. coming_to ops i (at s fs) m)
unfolding at
coming_to-on ops i s (Writes style t) = record { next = record s { events = s.events ++ Wrote (written ops style 1200 t) ∷ [] }; goes_on = λ K fs. refl; front_is = refl; steps_is = refl; made_is = refl }
coming_to-on ops i s (Puts bytes) = record { next = record s { events = s.events ++ Wrote bytes ∷ [] }; goes_on = λ K fs. refl; front_is = refl; steps_is = refl; made_is = refl }
coming_to-on ops i s (Holds true) = record { next = s; goes_on = λ K fs. refl; front_is = refl; steps_is = refl; made_is = refl }
coming_to-on ops i s (Holds false) = record { next = record s { mode = Failing }; goes_on = λ K fs. refl; front_is = refl; steps_is = refl; made_is = refl }
coming_to-on ops i s (Equates added a b) =
    let k : On (record s { fresh = s.fresh + added }) _ = solving-on [] (record s { fresh = s.fresh + added }) (unifier a b) in
    record { next = k.next; goes_on = k.goes_on; front_is = k.front_is; steps_is = k.steps_is; made_is = k.made_is }
coming_to-on ops i s (Raises fault) = record { next = record s { mode = Raising (fault_tree fault i) }; goes_on = λ K fs. refl; front_is = refl; steps_is = refl; made_is = refl }

builtin-on : (ops : Table) (row : ℕ) (args : Trees) (s : State) → On s (λ K fs. calling_builtin ops row args (at s fs))
unfolding at calling_builtin
builtin-on ops row args s = coming_to-on ops _ s _

running-on : (goal : Tree) (i : Indicator) (s : State) (o : Option Tree) → On s (λ K fs. running goal i (at s fs) o)
unfolding at
running-on goal i s None = record { next = record s { mode = Raising (fault_tree (not_callable goal) i) }; goes_on = λ K fs. refl; front_is = refl; steps_is = refl; made_is = refl }
running-on goal i s (Some b) = record { next = record s { goals = Do b (height s) ∷ s.goals }; goes_on = λ K fs. refl; front_is = refl; steps_is = refl; made_is = refl }

denying-on : (goal : Tree) (s : State) (o : Option Tree) → On s (λ K fs. denying goal (at s fs) o)
unfolding at
denying-on goal s None = record { next = record s { mode = Raising (fault_tree (not_callable goal) (record { name = codes "\\+"; arity = 1 })) }; goes_on = λ K fs. refl; front_is = refl; steps_is = refl; made_is = refl }
denying-on goal s (Some b) = record { next = record (pushed NotMark s) { goals = Do b (suc (height s)) ∷ NotEnd (height s) ∷ s.goals }; goes_on = λ K fs. refl; front_is = refl; steps_is = refl; made_is = refl }

catching-on : (goal catcher recovery : Tree) (s : State) (o : Option Tree) → On s (λ K fs. catching goal catcher recovery (at s fs) o)
unfolding at
catching-on goal catcher recovery s None = record { next = record s { mode = Raising (fault_tree (not_callable goal) (record { name = codes "catch"; arity = 3 })) }; goes_on = λ K fs. refl; front_is = refl; steps_is = refl; made_is = refl }
catching-on goal catcher recovery s (Some b) = record { next = record (pushed (CatchMark catcher recovery) s) { goals = Do b (suc (height s)) ∷ CatchEnd (suc (height s)) ∷ s.goals }; goes_on = λ K fs. refl; front_is = refl; steps_is = refl; made_is = refl }

gathering-on : (template goal list : Tree) (s : State) (o : Option Tree) → On s (λ K fs. gathering template goal list (at s fs) o)
unfolding at
gathering-on template goal list s None = record { next = record s { mode = Raising (fault_tree (not_callable goal) (record { name = codes "findall"; arity = 3 })) }; goes_on = λ K fs. refl; front_is = refl; steps_is = refl; made_is = refl }
gathering-on template goal list s (Some b) = record { next = record (pushed (FindallMark list []) s) { goals = Do b (suc (height s)) ∷ FindallEnd template (suc (height s)) ∷ s.goals }; goes_on = λ K fs. refl; front_is = refl; steps_is = refl; made_is = refl }

throwing-on : (ball : Tree) (s : State) → On s (λ K fs. throwing ball (at s fs))
unfolding at
throwing-on (variable n) s = record { next = record s { mode = Raising (fault_tree Instantiation (record { name = codes "throw"; arity = 1 })) }; goes_on = λ K fs. refl; front_is = refl; steps_is = refl; made_is = refl }
throwing-on (integer z) s = record { next = record s { mode = Raising (numbered (integer z)) }; goes_on = λ K fs. refl; front_is = refl; steps_is = refl; made_is = refl }
throwing-on (atom a) s = record { next = record s { mode = Raising (numbered (atom a)) }; goes_on = λ K fs. refl; front_is = refl; steps_is = refl; made_is = refl }
throwing-on (compound f ts) s = record { next = record s { mode = Raising (numbered (compound f ts)) }; goes_on = λ K fs. refl; front_is = refl; steps_is = refl; made_is = refl }

calling_added-on : (goal : Tree) (added : Trees) (s : State) → On s (λ K fs. calling_added goal added (at s fs))
unfolding at
calling_added-on (variable n) added s = record { next = record s { mode = Raising (fault_tree Instantiation (call_with added)) }; goes_on = λ K fs. refl; front_is = refl; steps_is = refl; made_is = refl }
calling_added-on (integer z) added s = record { next = record s { mode = Raising (fault_tree (not_callable (integer z)) (call_with added)) }; goes_on = λ K fs. refl; front_is = refl; steps_is = refl; made_is = refl }
calling_added-on (atom a) added s = running-on (with_added (atom a) added) (call_with added) s (body_of (with_added (atom a) added))
calling_added-on (compound f ts) added s = go (nat_lt 255 (count ts + count added))
  where
    go : (b : Bool) → On s (λ K fs. if b then raises (Representation (codes "max_arity")) (call_with added) (at s fs) else running (with_added (compound f ts) added) (call_with added) (at s fs) (body_of (with_added (compound f ts) added)))
    go true = record { next = record s { mode = Raising (fault_tree (Representation (codes "max_arity")) (call_with added)) }; goes_on = λ K fs. refl; front_is = refl; steps_is = refl; made_is = refl }
    go false = running-on (with_added (compound f ts) added) (call_with added) s (body_of (with_added (compound f ts) added))

module _ (x : Setting) (J : Journal) where
  -- the run is over, where no front is left
  over-closes : (s : State) (e : RunEnd) → (r : Report) × ((K : Journal) → over (on x K) (at s []) e ≡ Ends r) × (made_in r.deeds ≡ made_in s.deeds)
  unfolding at
  over-closes s e = (record { events = s.events; deeds = s.deeds; tried = s.tried; steps = s.steps; end = e }, λ K. refl, refl)

  over-kind : (s t : State) (e : RunEnd) → made_in s.deeds ≡ made_in t.deeds → Kind x J t (λ K fs. over (on x K) (at s fs) e)
  over-kind s t e m = let k = over-closes s e in closes k.0 k.1 (k.2 ∙ m)

  -- a step, and then what takes no front
  stepped-on : (s : State) (then_ : Journal → State → Outcome) → IsQuiet x J s.front → ((t : State) → On t (λ K fs. then_ K (at t fs))) → Kind x J s (λ K fs. stepping (on x K) (at s fs) (then_ K))
  unfolding at
  stepped-on s then_ quiet k = go (s.steps == x.budget)
    where
      go : (b : Bool) → Kind x J s (λ K fs. if b then over (on x K) (at s fs) (Spent s.steps) else then_ K (record s { steps = suc s.steps; fronts = fs }))
      go true = over-kind s s (Spent s.steps) refl
      go false =
          let h : On (record s { steps = suc s.steps }) (λ K fs. then_ K (record s { steps = suc s.steps; fronts = fs })) = k (record s { steps = suc s.steps }) in
          stays h.next h.goes_on (subst (IsQuiet x J) (sym h.front_is) quiet) (subst (λ n. s.steps ≤ n) (sym h.steps_is) (omega arith)) h.made_is

  -- a step, and then what may take fronts
  stepped-takes : (s : State) (then_ : Journal → State → Outcome) → IsQuiet x J s.front → ((t : State) → IsQuiet x J t.front → Continues x J t (λ K fs. then_ K (at t fs)))
      → Kind x J s (λ K fs. stepping (on x K) (at s fs) (then_ K))
  unfolding at
  stepped-takes s then_ quiet k = go (s.steps == x.budget)
    where
      go : (b : Bool) → Kind x J s (λ K fs. if b then over (on x K) (at s fs) (Spent s.steps) else then_ K (record s { steps = suc s.steps; fronts = fs }))
      go true = over-kind s s (Spent s.steps) refl
      go false = takes (k (record s { steps = suc s.steps }) quiet)

  -- a step, and then the run's end
  stepped-over : (s : State) (e : RunEnd) (then_ : Journal → State → Outcome) → ((K : Journal) (t : State) → then_ K t ≡ over (on x K) t e) → Kind x J s (λ K fs. stepping (on x K) (at s fs) (then_ K))
  unfolding at
  stepped-over s e then_ k = go (s.steps == x.budget)
    where
      go : (b : Bool) → Kind x J s (λ K fs. if b then over (on x K) (at s fs) (Spent s.steps) else then_ K (record s { steps = suc s.steps; fronts = fs }))
      go true = over-kind s s (Spent s.steps) refl
      go false = let h = over-closes (record s { steps = suc s.steps }) e in closes h.0 (λ K. k K (record s { steps = suc s.steps; fronts = [] }) ∙ h.1 K) h.2

  halting-kind : (code : Tree) (s : State) → IsQuiet x J s.front → Kind x J s (λ K fs. stepping (on x K) (at s fs) (λ t. halting (on x K) code t))
  unfolding at
  halting-kind (variable n) s quiet = stepped-on s (λ K t. halting (on x K) (variable n) t) quiet (λ t. record { next = record t { mode = Raising (fault_tree Instantiation halt_with) }; goes_on = λ K fs. refl; front_is = refl; steps_is = refl; made_is = refl })
  halting-kind (integer z) s quiet = stepped-over s (Halted z) (λ K t. halting (on x K) (integer z) t) (λ K t. refl)
  halting-kind (atom a) s quiet = stepped-on s (λ K t. halting (on x K) (atom a) t) quiet (λ t. record { next = record t { mode = Raising (fault_tree (not_integer (atom a)) halt_with) }; goes_on = λ K fs. refl; front_is = refl; steps_is = refl; made_is = refl })
  halting-kind (compound g ts) s quiet = stepped-on s (λ K t. halting (on x K) (compound g ts) t) quiet (λ t. record { next = record t { mode = Raising (fault_tree (not_integer (compound g ts)) halt_with) }; goes_on = λ K fs. refl; front_is = refl; steps_is = refl; made_is = refl })

  moved : {o : Journal → List ℕ → Outcome} (s t : State) → t.steps ≡ s.steps → made_in t.deeds ≡ made_in s.deeds → Kind x J t o → Kind x J s o
  moved s t e d (stays u h l n m) = stays u h l (subst (λ k. k ≤ u.steps) e n) (m ∙ d)
  moved s t e d (takes c) = takes (record {
    next = c.next;
    made = c.made;
    fronts = c.fronts;
    goes_on = c.goes_on;
    front_is = c.front_is;
    steps_is = c.steps_is ∙ ap suc e;
    made_is = c.made_is ∙ ap (λ (l : List Entry). l ++ c.made) d;
    own = c.own;
    bodies = c.bodies;
  })
  moved s t e d (closes r h m) = closes r h (m ∙ d)

  doing-kind : (goal : Tree) (cut : ℕ) (s : State) (c : Control) → IsQuiet x J s.front → Kind x J s (λ K fs. doing (on x K) goal cut (at s fs) c)
  unfolding at
  doing-kind goal cut s True quiet = stepped-on s (λ K. performing (on x K) goal cut True) quiet (λ t. record { next = t; goes_on = λ K fs. refl; front_is = refl; steps_is = refl; made_is = refl })
  doing-kind goal cut s Fail quiet = stepped-on s (λ K. performing (on x K) goal cut Fail) quiet (λ t. record { next = record t { mode = Failing }; goes_on = λ K fs. refl; front_is = refl; steps_is = refl; made_is = refl })
  doing-kind goal cut s Cut quiet = stepped-on s (λ K. performing (on x K) goal cut Cut) quiet (λ t. record { next = record t { stack = cut_to cut t.stack }; goes_on = λ K fs. refl; front_is = refl; steps_is = refl; made_is = refl })
  doing-kind goal cut s Repeat quiet = stepped-on s (λ K. performing (on x K) goal cut Repeat) quiet (λ t. record { next = pushed Again t; goes_on = λ K fs. refl; front_is = refl; steps_is = refl; made_is = refl })
  doing-kind goal cut s (Either l r) quiet = stepped-on s (λ K. performing (on x K) goal cut (Either l r)) quiet (λ t. record { next = record (pushed (Right r cut) t) { goals = Do l cut ∷ t.goals }; goes_on = λ K fs. refl; front_is = refl; steps_is = refl; made_is = refl })
  doing-kind goal cut s (IfElse c d e) quiet = stepped-on s (λ K. performing (on x K) goal cut (IfElse c d e)) quiet (λ t. record { next = record (pushed (Right e cut) t) { goals = Do c (suc (height t)) ∷ ConditionEnd (height t) ∷ Do d cut ∷ t.goals }; goes_on = λ K fs. refl; front_is = refl; steps_is = refl; made_is = refl })
  doing-kind goal cut s (If c d) quiet = stepped-on s (λ K. performing (on x K) goal cut (If c d)) quiet (λ t. record { next = record t { goals = Do c (height t) ∷ ConditionEnd (height t) ∷ Do d cut ∷ t.goals }; goes_on = λ K fs. refl; front_is = refl; steps_is = refl; made_is = refl })
  doing-kind goal cut s (Once g) quiet = stepped-on s (λ K. performing (on x K) goal cut (Once g)) quiet (λ t. record { next = record t { goals = Do (two (codes "->") (call_term g) (atom (codes "true"))) cut ∷ t.goals }; goes_on = λ K fs. refl; front_is = refl; steps_is = refl; made_is = refl })
  doing-kind goal cut s (Both l r) quiet = stays (record s { goals = Do l cut ∷ Do r cut ∷ s.goals }) (λ K fs. refl) quiet (omega arith) refl
  doing-kind goal cut s (Not g) quiet = stepped-on s (λ K. performing (on x K) goal cut (Not g)) quiet (λ t. denying-on g t (body_of g))
  doing-kind goal cut s (Call g added) quiet = stepped-on s (λ K. performing (on x K) goal cut (Call g added)) quiet (λ t. calling_added-on g added t)
  doing-kind goal cut s (Catch g c r) quiet = stepped-on s (λ K. performing (on x K) goal cut (Catch g c r)) quiet (λ t. catching-on g c r t (body_of g))
  doing-kind goal cut s (Findall t g l) quiet = stepped-on s (λ K. performing (on x K) goal cut (Findall t g l)) quiet (λ u. gathering-on t g l u (body_of g))
  doing-kind goal cut s (Throw b) quiet = stepped-on s (λ K. performing (on x K) goal cut (Throw b)) quiet (λ t. throwing-on b t)
  doing-kind goal cut s Halt quiet = stepped-over s (Halted (pos 0)) (λ K. performing (on x K) goal cut Halt) (λ K t. refl)
  doing-kind goal cut s (HaltWith n) quiet = halting-kind n s quiet
  doing-kind goal cut s (Builtin row args) quiet = stepped-on s (λ K. performing (on x K) goal cut (Builtin row args)) quiet (λ t. builtin-on x.ops row args t)
  doing-kind goal cut s (Database a) quiet = stepped-takes s (λ K. performing (on x K) goal cut (Database a)) quiet (λ t l. accessing-continues x J a t l)
  doing-kind goal cut s (User i) quiet = stepped-takes s (λ K. performing (on x K) goal cut (User i)) quiet (λ t l. calling-continues x J goal i t l)

  going-kind : (s : State) (gs : List Next) → All CanBeDone gs → IsQuiet x J s.front → Kind x J s (λ K fs. going (on x K) (at s fs) gs)
  unfolding at
  going-kind s [] d quiet = stays (record s { mode = Failing; events = s.events ++ answer x s ∷ [] }) (λ K fs. refl) quiet (omega arith) refl
  going-kind s (Do g cut ∷ rest) d quiet =
      let k : (c : Control) × (control_of g ≡ Some c) × HasParts c = parts g (All-head CanBeDone (Do g cut) rest d) in
      subst (λ (o : Option Control). Kind x J s (λ K fs. goal_move (on x K) g cut (record s { goals = rest; fronts = fs }) o)) (sym k.1)
      (moved s (record s { goals = rest }) refl refl (doing-kind g cut (record s { goals = rest }) k.0 quiet))
  going-kind s (ConditionEnd h ∷ rest) d quiet = stays (record s { goals = rest; stack = cut_to h s.stack }) (λ K fs. refl) quiet (omega arith) refl
  going-kind s (NotEnd h ∷ rest) d quiet = stays (record s { mode = Failing; goals = rest; stack = cut_to h s.stack }) (λ K fs. refl) quiet (omega arith) refl
  going-kind s (FindallEnd t h ∷ rest) d quiet = stays (record s { mode = Failing; goals = rest; stack = found_at h (numbered t) s.stack }) (λ K fs. refl) quiet (omega arith) refl
  going-kind s (CatchEnd h ∷ rest) d quiet = go (height s == h)
    where
      go : (b : Bool) → Kind x J s (λ K fs. Goes (if b then cut_back (h - 1) (record s { goals = rest; fronts = fs }) else record s { goals = rest; fronts = fs }))
      go true = stays (record s { goals = rest; stack = cut_to (h - 1) s.stack }) (λ K fs. refl) quiet (omega arith) refl
      go false = stays (record s { goals = rest }) (λ K fs. refl) quiet (omega arith) refl

  solving-kind : (s t : State) (o : Option (ℕ → Tree)) → IsQuiet x J t.front → t.steps ≡ s.steps → made_in t.deeds ≡ made_in s.deeds → Kind x J s (λ K fs. solving [] (at t fs) o)
  unfolding at
  solving-kind s t None quiet e d = stays (record t { mode = Failing }) (λ K fs. refl) quiet (omega arith) d
  solving-kind s t (Some m) quiet e d = stays (record t { goals = map (next_under m) t.goals; bindings = λ v. substituted m (t.bindings v) }) (λ K fs. refl) quiet (omega arith) d

  taken-kind : (s : State) (a : Alternative) → IsQuiet x J s.front → Kind x J s (λ K fs. taken (on x K) (at s fs) a)
  unfolding at
  taken-kind s (Clauses used goal rest) quiet = stepped-takes s (λ K. trying (on x K) used goal rest) quiet (λ t l. trying-continues x J t used goal rest l)
  taken-kind s (Right goal cut) quiet = stepped-on s (λ K. onwards (Do goal cut ∷ [])) quiet (λ t. record { next = record t { goals = Do goal cut ∷ t.goals }; goes_on = λ K fs. refl; front_is = refl; steps_is = refl; made_is = refl })
  taken-kind s Again quiet = stepped-on s (λ K. repeating) quiet (λ t. record { next = pushed Again t; goes_on = λ K fs. refl; front_is = refl; steps_is = refl; made_is = refl })
  taken-kind s NotMark quiet = stays s (λ K fs. refl) quiet (omega arith) refl
  taken-kind s (CatchMark c r) quiet = stays (record s { mode = Failing }) (λ K fs. refl) quiet (omega arith) refl
  taken-kind s (FindallMark l f) quiet = solving-kind s (record s { fresh = behind_copies s.fresh f }) (unifier l (list_tree (new_copies s.fresh f))) quiet refl refl

  failing-kind : (s : State) (st : List Choice) → IsQuiet x J s.front → Kind x J s (λ K fs. failing (on x K) (at s fs) st)
  unfolding at
  failing-kind s [] quiet = over-kind s s Exhausted refl
  failing-kind s (c ∷ below) quiet = moved s (back_to s c below) refl refl (taken-kind (back_to s c below) c.what quiet)

  recovering-kind : (s t : State) (ball recovery : Tree) (o : Option (ℕ → Tree)) → IsQuiet x J t.front → t.steps ≡ s.steps → made_in t.deeds ≡ made_in s.deeds → Kind x J s (λ K fs. recovering ball recovery (at t fs) o)
  unfolding at
  recovering-kind s t ball recovery None quiet e d = stays (record t { mode = Raising ball }) (λ K fs. refl) quiet (omega arith) d
  recovering-kind s t ball recovery (Some m) quiet e d =
      stays (record t { goals = map (next_under m) (Do (call_term recovery) (height t) ∷ t.goals); bindings = λ v. substituted m (t.bindings v) }) (λ K fs. refl) quiet (omega arith) d

  reaching-kind : (s : State) (ball : Tree) (below : List Choice) (c : Choice) (a : Alternative) → IsQuiet x J s.front → Kind x J s (λ K fs. reaching ball (at s fs) below c a)
  unfolding at
  reaching-kind s ball below c (CatchMark catcher recovery) quiet =
      recovering-kind s (record (back_to s c below) { fresh = s.fresh + beyond ball }) ball recovery (unifier (renamed s.fresh ball) catcher) quiet refl refl
  reaching-kind s ball below c (Clauses used goal rest) quiet = stays (record s { stack = below }) (λ K fs. refl) quiet (omega arith) refl
  reaching-kind s ball below c (Right goal cut) quiet = stays (record s { stack = below }) (λ K fs. refl) quiet (omega arith) refl
  reaching-kind s ball below c Again quiet = stays (record s { stack = below }) (λ K fs. refl) quiet (omega arith) refl
  reaching-kind s ball below c NotMark quiet = stays (record s { stack = below }) (λ K fs. refl) quiet (omega arith) refl
  reaching-kind s ball below c (FindallMark l f) quiet = stays (record s { stack = below }) (λ K fs. refl) quiet (omega arith) refl

  reached-kind : (s : State) (ball : Tree) (st : List Choice) → IsQuiet x J s.front → Kind x J s (λ K fs. reached (on x K) ball (at s fs) st)
  unfolding at
  reached-kind s ball [] quiet = over-kind s s (Ball ball) refl
  reached-kind s ball (c ∷ below) quiet = reaching-kind s ball below c c.what quiet

  caught-kind : (s : State) (ball : Tree) (o : Option ℕ) → IsQuiet x J s.front → Kind x J s (λ K fs. caught (on x K) ball (at s fs) o)
  unfolding at
  caught-kind s ball None quiet = over-kind s s (Ball ball) refl
  caught-kind s ball (Some h) quiet = go (nat_lt h (height s))
    where
      go : (b : Bool) → Kind x J s (λ K fs. if b then Goes (cut_back h (record s { fronts = fs })) else reached (on x K) ball (record s { fronts = fs }) s.stack)
      go true = stays (record s { stack = cut_to h s.stack }) (λ K fs. refl) quiet (omega arith) refl
      go false = reached-kind s ball s.stack quiet

  move-kind : (s : State) → IsWellMade s → IsQuiet x J s.front → Kind x J s (λ K fs. move (on x K) (at s fs))
  unfolding at
  move-kind s w quiet = go s.mode
    where
      go : (m : Mode) → Kind x J s (λ K fs. elim m [ Going ↦ going (on x K) (at s fs) s.goals | Failing ↦ failing (on x K) (at s fs) s.stack | Raising ball ↦ raising (on x K) (at s fs) ball ])
      go Going = going-kind s s.goals w.goals quiet
      go Failing = failing-kind s s.stack quiet
      go (Raising ball) = caught-kind s ball (active_catch s.goals) quiet

-- ---- whole runs

-- what has to hold of a state over a journal
record IsFit (x : Setting) (J : Journal) (s : State) : Type 0 where
  bodies : HasBodies J
  made_well : IsWellMade s
  front : IsQuiet x J s.front
  within : s.steps ≤ x.budget

-- a run from the state, over the journal with the run's updates behind it
record Found (x : Setting) (J : Journal) (s : State) : Type 0 where
  made : List Entry
  fronts : List ℕ
  report : Report
  runs : Runs (on x (J ++ made)) (at s fronts) report
  made_is : made_in report.deeds ≡ made_in s.deeds ++ made
  own : entries_by x.engine made ≡ made

module _ (x : Setting) where
  same_next : {s t : State} → Goes s ≡ Goes t → s ≡ t
  same_next e = cc

  next-within : (K : Journal) (s t : State) (fs gs : List ℕ) → s.steps ≤ x.budget → move (on x K) (at s fs) ≡ Goes (at t gs) → t.steps ≤ x.budget
  unfolding at
  next-within K s t fs gs quiet e = let P : Outcome → Type 0 = λ o. Within x.budget o in subst P e (move-within (on x K) (at s fs) quiet)

  next-well : (K : Journal) (s t : State) (fs gs : List ℕ) → HasBodies K → IsWellMade s → move (on x K) (at s fs) ≡ Goes (at t gs) → IsWellMade t
  unfolding at
  next-well K s t fs gs b w e =
      let h : IsWellMade (at t gs) = goes-makes (on x K) (at s fs) (at t gs) b (record { goals = w.goals; stack = w.stack }) e in
      record { goals = h.goals; stack = h.stack }

  stays-fit : (J : Journal) (s t : State) → IsFit x J s → move (on x J) (at s []) ≡ Goes (at t []) → IsQuiet x J t.front → IsFit x J t
  stays-fit J s t i e l = record { bodies = i.bodies; made_well = next-well J s t [] [] i.bodies i.made_well e; front = l; within = next-within J s t [] [] i.within e }

  stays-found : (J : Journal) (s t : State) → ((K : Journal) (fs : List ℕ) → move (on x K) (at s fs) ≡ Goes (at t fs)) → made_in t.deeds ≡ made_in s.deeds → Found x J t → Found x J s
  stays-found J s t h m f = record {
    made = f.made;
    fronts = f.fronts;
    report = f.report;
    runs = goes (h (J ++ f.made) f.fronts) f.runs;
    made_is = f.made_is ∙ ap (λ (l : List Entry). l ++ f.made) m;
    own = f.own;
  }

  closes-found : (J : Journal) (s : State) (r : Report) → ((K : Journal) → move (on x K) (at s []) ≡ Ends r) → made_in r.deeds ≡ made_in s.deeds → Found x J s
  closes-found J s r h m = record { made = []; fronts = []; report = r; runs = ends (h (J ++ [])); made_is = m ∙ sym (append-nil (made_in s.deeds)); own = refl }

  module _ (J : Journal) (s : State) (i : IsFit x J s) (c : Continues x J (record s { steps = suc s.steps }) (λ K fs. move (on x K) (at s fs))) where
    -- the move over a journal that begins so
    taken-move : (more : List Entry) (fs : List ℕ) → move (on x ((J ++ c.made) ++ more)) (at s (c.fronts ++ fs)) ≡ Goes (at c.next fs)
    taken-move more fs = c.goes_on ((J ++ c.made) ++ more) fs (more, refl)

    longer-bodies : HasBodies (J ++ c.made)
    longer-bodies = All-append (λ e. IfSome (added e.what) HasBody) J c.made i.bodies c.bodies

    first-move : move (on x (J ++ c.made)) (at s (c.fronts ++ [])) ≡ Goes (at c.next [])
    first-move = c.goes_on (J ++ c.made) [] ([], sym (append-nil (J ++ c.made)))

    takes-fit : IsFit x (J ++ c.made) c.next
    takes-fit = record {
      bodies = longer-bodies;
      made_well = next-well (J ++ c.made) s c.next (c.fronts ++ []) [] longer-bodies i.made_well first-move;
      front = c.front_is;
      within = next-within (J ++ c.made) s c.next (c.fronts ++ []) [] i.within first-move;
    }

    takes-found : Found x (J ++ c.made) c.next → Found x J s
    takes-found f = record {
      made = c.made ++ f.made;
      fronts = c.fronts ++ f.fronts;
      report = f.report;
      runs = subst (λ (L : Journal). Runs (on x L) (at s (c.fronts ++ f.fronts)) f.report) (append_assoc J c.made f.made) (goes (taken-move f.made f.fronts) f.runs);
      made_is = f.made_is ∙ ap (λ (l : List Entry). l ++ f.made) c.made_is ∙ append_assoc (made_in s.deeds) c.made f.made;
      own = filter-append (λ e. e.by == x.engine) c.made f.made ∙ ap₂ (λ (l m : List Entry). l ++ m) c.own f.own;
    }

  -- every state with fewer steps left has a run
  Later : ℕ → Type 0
  Later d = (J : Journal) (t : State) → IsFit x J t → x.budget - t.steps < d → Found x J t

  takes-later : (d : ℕ) (J : Journal) (s : State) → IsFit x J s → x.budget - s.steps < suc d → Later d → Continues x J (record s { steps = suc s.steps }) (λ K fs. move (on x K) (at s fs)) → Found x J s
  unfolding Later
  takes-later d J s i m next c = let f = takes-fit J s i c in takes-found J s i c (next (J ++ c.made) c.next f (fewer f.within c.steps_is))
    where
      fewer : c.next.steps ≤ x.budget → c.next.steps ≡ suc s.steps → x.budget - c.next.steps < d
      fewer a b = omega (arith, m)

  stops-found : (d : ℕ) (J : Journal) (s : State) → IsFit x J s → x.budget - s.steps < suc d → Later d → Stops s.steps (move (on x J) (at s [])) → Kind x J s (λ K fs. move (on x K) (at s fs)) → Found x J s
  unfolding Later at
  stops-found d J s i m next st (stays t h l n k) =
      let f = stays-fit J s t i (h J []) l in
      stays-found J s t h k (next J t f (fewer f.within (let P : Outcome → Type 0 = λ o. Stops s.steps o in subst P (h J []) st)))
    where
      fewer : t.steps ≤ x.budget → t.steps ≡ suc s.steps → x.budget - t.steps < d
      fewer a b = omega (arith, m)
  stops-found d J s i m next st (takes c) = takes-later d J s i m next c
  stops-found d J s i m next st (closes r h k) = closes-found J s r h k

  moves-found : (d : ℕ) (J : Journal) (s v : State) → IsFit x J s → x.budget - s.steps < suc d → Later d → move (on x J) (at s []) ≡ Goes v
      → ((t : State) → IsFit x J t → x.budget - t.steps < suc d → v ≡ at t [] → Found x J t)
      → Kind x J s (λ K fs. move (on x K) (at s fs)) → Found x J s
  moves-found d J s v i m next e again (stays t h l n k) =
      stays-found J s t h k (again t (stays-fit J s t i (h J []) l) fewer (same_next (sym e ∙ h J [])))
    where
      fewer : x.budget - t.steps < suc d
      fewer = omega (arith, m, n)
  moves-found d J s v i m next e again (takes c) = takes-later d J s i m next c
  moves-found d J s v i m next e again (closes r h k) = closes-found J s r h k

  settled-found : (d : ℕ) (J : Journal) (s : State) {u : State} → IsFit x J s → x.budget - s.steps < suc d → Later d → u ≡ at s [] → Settles (on x J) u → Found x J s
  unfolding at
  settled-found d J s i m next q (stops {s = u} h) =
      stops-found d J s i m next (let P : State → Type 0 = λ w. Stops w.steps (move (on x J) w) in subst P q h) (move-kind x J s i.made_well i.front)
  settled-found d J s i m next q (moves {s = u} {t = v} e f rest) =
      moves-found d J s v i m next (let P : State → Type 0 = λ w. move (on x J) w ≡ Goes v in subst P q e) (λ t j n p. settled-found d J t j n next p rest) (move-kind x J s i.made_well i.front)

  found : (d : ℕ) → Later d
  unfolding Later
  found zero J s i m = absurd (nothing m)
    where
      nothing : {n : ℕ} → n < 0 → ⊥
      nothing h = omega arith
  found (suc d) J s i m = settled-found d J s i m (found d) refl (settles (on x J) (at s []))

pub each_runs : EachGoalRuns
unfolding at Later
each_runs x goal bodies none le = (f.made, (f.fronts, (f.report, record { runs = f.runs; own = own })))
  where
    first : State
    first = beginning x goal []

    fits : IsFit x x.journal first
    fits = record { bodies = bodies; made_well = begins-well x goal []; front = record { below = le; others = none }; within = omega arith }

    f : Found x x.journal first
    f = found x (suc x.budget) x.journal first fits (omega arith)

    own : entries_by x.engine (drop x.start (x.journal ++ f.made)) ≡ made_in f.report.deeds
    own =
        ap (entries_by x.engine) (drop-append-le x.start x.journal f.made le)
        ∙ filter-append (λ e. e.by == x.engine) (drop x.start x.journal) f.made
        ∙ ap₂ (λ (l m : List Entry). l ++ m) none f.own
        ∙ sym f.made_is
