-- The rows, computed.
use Rattle.std.proofs.Common.{◌≡◌, ℕ, Bool, true, false, List, ◌∷◌, zero, suc, refl, [], subst, drop, Option, Some, None, sym, ◌∙◌, ap}
use Rattle.prolog_terms.specs.Faults.{error_tree, fault_tree}
use Rattle.prolog_terms.specs.Tree.{Tree, variable, atom, compound}
use Rattle.prolog_terms.specs.declared.entry.Entry.{Entry}
use Rattle.prolog_terms.specs.declared.entry.End.TheVariants.{Front, Back}
use Rattle.journals.specs.Journal.{Journal}
use Rattle.journal_base.specs.Space.{clause_words, need, used}
use Rattle.journal_base.specs.View.{entries_by}
use Rattle.wam_machine.specs.Reserved.{is_reserved, control, of_terms, of_texts, of_numbers, of_clauses}
use Rattle.wam_machine.specs.declared.run.Event.{Event}
use Rattle.wam_machine.specs.declared.run.RunEnd.{RunEnd}
use Rattle.wam_machine.specs.declared.run.RunEnd.TheVariants.{Exhausted, Ball, Spent, Halted}
use Rattle.prolog_terms.specs.declared.fault.Fault.TheVariants.{Existence, Instantiation, OfType, Representation, Resource}
use Rattle.std.specs.Prelude.{codes, pos}
use Rattle.term_unifier.specs.Unifier.{unifier}
use Rattle.call_patterns.specs.Keys.{keys, could_match}
use Rattle.wam_machine.specs.Control.{plain}
use Rattle.wam_machine.specs.States.{made_in, Setting, State, Report, Outcome, Goes, Ends, Unfit}
use Rattle.wam_machine.specs.Procedures.{accessing}
use Rattle.wam_machine.specs.Machine.{calling_builtin, Runs, ends, goes, move, beginning, Transcript, Misfits, unfit, later}
use Rattle.wam_machine.specs.Rows.{IsUnfit, declared, two_dynamic, dynamic_rule, dynamic_pair, any_k, erases, inspects, retracts, retracts_all, abolishes, named, clause_two, retract_one, retract_all_one, abolish_one, private, GivesIn, Gives, Refuses, Alone, changed, declares, adds, k, a_dynamic, a_static, asserta, assertz, asserta_one, assertz_one, static, HasRows, catches, finds, findall_three, either_y, y, nil, two, throws, halts, halts_with, catch_three, throw_one, halt_one, a, a_cut, a_loop, a_rule, any_between, b, both, c, call, called, closed, copied_number, copies, cut, denied, equal, failure, is_free, is_one, is_two, list_of, mem, members, number, on, once, one, one_and_more, one_or_two, one_pair, opened, or, p, repeats, then, three_facts, trees, truth, uncallable, x}

-- what a run gives within so many moves
abbrev run_within : ℕ → Setting → State → Option Report
run_within zero x s = None
run_within (suc n) x s = elim (move x s) [ Goes t ↦ run_within n x t | Ends r ↦ Some r | Unfit ↦ None ]

within_next : (x : Setting) (n : ℕ) (s : State) (r : Report) → ((t : State) → run_within n x t ≡ Some r → Runs x t r) → (o : Outcome) → move x s ≡ o
    → elim o [ Goes t ↦ run_within n x t | Ends q ↦ Some q | Unfit ↦ None ] ≡ Some r → Runs x s r
within_next x n s r next (Goes t) e h = goes e (next t h)
within_next x n s r next (Ends q) e h = ends (e ∙ ap Ends (cc h))
within_next x n s r next Unfit e h = absurd (cc h)

within : (x : Setting) (n : ℕ) (s : State) (r : Report) → run_within n x s ≡ Some r → Runs x s r
within x zero s r h = absurd (cc h)
within x (suc n) s r h = within_next x n s r (λ t. within x n t r) (move x s) refl h

-- a report without its looks and tries
abbrev told : Option Report → Option (List Event × (ℕ × (RunEnd × List Entry)))
told None = None
told (Some r) = Some (r.events, (r.steps, (r.end, made_in r.deeds)))

-- with the updates that the engine made by the journal
abbrev wanted : Setting → List Event → ℕ → RunEnd → Option (List Event × (ℕ × (RunEnd × List Entry)))
wanted x events steps end = Some (events, (steps, (end, entries_by x.engine (drop x.start x.journal))))

gives_so : (x : Setting) (goal : Tree) (fronts : List ℕ) (events : List Event) (steps : ℕ) (end : RunEnd) (o : Option Report)
    → ((r : Report) → o ≡ Some r → Runs x (beginning x goal fronts) r) → told o ≡ wanted x events steps end → GivesIn x goal fronts events steps end
gives_so x goal fronts events steps end None runs h = absurd (cc h)
gives_so x goal fronts events steps end (Some r) runs h =
    let e : ◌≡◌ {A = List Event × (ℕ × (RunEnd × List Entry))} (r.events, (r.steps, (r.end, made_in r.deeds))) (events, (steps, (end, entries_by x.engine (drop x.start x.journal)))) = cc h in
    record {
      deeds = r.deeds;
      tried = r.tried;
      transcript = subst (λ (k : List Event × (ℕ × (RunEnd × List Entry))). Transcript x goal fronts (record { events = k.0; deeds = r.deeds; tried = r.tried; steps = k.1.0; end = k.1.1.0 })) e
          (record { runs = runs r refl; own = sym (ap (λ (k : List Event × (ℕ × (RunEnd × List Entry))). k.1.1.1) e) });
    }

gives_in : (n : ℕ) (x : Setting) (goal : Tree) (fronts : List ℕ) (events : List Event) (steps : ℕ) (end : RunEnd)
    → told (run_within n x (beginning x goal fronts)) ≡ wanted x events steps end → GivesIn x goal fronts events steps end
gives_in n x goal fronts events steps end h =
    gives_so x goal fronts events steps end (run_within n x (beginning x goal fronts)) (λ r e. within x n (beginning x goal fronts) r e) h

gives : (n : ℕ) (j : Journal) (budget : ℕ) (goal : Tree) (shown : List Tree) (fronts : List ℕ) (events : List Event) (steps : ℕ) (end : RunEnd)
    → told (run_within n (on j budget shown) (beginning (on j budget shown) goal fronts)) ≡ wanted (on j budget shown) events steps end → Gives j budget goal shown fronts events steps end
gives n j budget goal shown fronts events steps end h = gives_in n (on j budget shown) goal fronts events steps end h

-- a run comes within so many moves to one that doesn't fit
abbrev misfits_within : ℕ → Setting → State → Bool
misfits_within zero x s = false
misfits_within (suc n) x s = elim (move x s) [ Goes t ↦ misfits_within n x t | Ends r ↦ false | Unfit ↦ true ]

unfit_next : (x : Setting) (n : ℕ) (s : State) → ((t : State) → misfits_within n x t ≡ true → Misfits x t) → (o : Outcome) → move x s ≡ o
    → elim o [ Goes t ↦ misfits_within n x t | Ends r ↦ false | Unfit ↦ true ] ≡ true → Misfits x s
unfit_next x n s next (Goes t) e h = later e (next t h)
unfit_next x n s next (Ends r) e h = absurd (cc h)
unfit_next x n s next Unfit e h = unfit e

unfit_within : (x : Setting) (n : ℕ) (s : State) → misfits_within n x s ≡ true → Misfits x s
unfit_within x zero s h = absurd (cc h)
unfit_within x (suc n) s h = unfit_next x n s (λ t. unfit_within x n t) (move x s) refl h

is_unfit : (j : Journal) (goal : Tree) (fronts : List ℕ) → misfits_within 60 (on j 100 []) (beginning (on j 100 []) goal fronts) ≡ true → IsUnfit j goal fronts
is_unfit j goal fronts h = unfit_within (on j 100 []) 60 (beginning (on j 100 []) goal fronts) h

row_front_left : IsUnfit [] truth (0 ∷ [])
unfolding unifier keys could_match error_tree fault_tree plain calling_builtin
row_front_left = is_unfit [] truth (0 ∷ []) refl

row_front_missing : IsUnfit three_facts (p b) []
unfolding unifier keys could_match error_tree fault_tree plain calling_builtin
row_front_missing = is_unfit three_facts (p b) [] refl

row_front_below : IsUnfit three_facts (p b) (3 ∷ [])
unfolding unifier keys could_match error_tree fault_tree plain calling_builtin
row_front_below = is_unfit three_facts (p b) (3 ∷ []) refl

row_front_beyond : IsUnfit three_facts (p b) (5 ∷ [])
unfolding unifier keys could_match error_tree fault_tree plain calling_builtin
row_front_beyond = is_unfit three_facts (p b) (5 ∷ []) refl

row_true_goal : Gives [] 100 truth [] [] (closed [] ∷ []) 1 Exhausted
unfolding unifier keys could_match error_tree fault_tree plain calling_builtin
row_true_goal = gives 60 [] 100 truth [] [] (closed [] ∷ []) 1 Exhausted refl

row_each_fact : Gives three_facts 100 (p x) (x ∷ []) (4 ∷ []) (opened (a ∷ []) ∷ opened (b ∷ []) ∷ closed (c ∷ []) ∷ []) 3 Exhausted
unfolding unifier keys could_match error_tree fault_tree plain calling_builtin
row_each_fact = gives 60 three_facts 100 (p x) (x ∷ []) (4 ∷ []) (opened (a ∷ []) ∷ opened (b ∷ []) ∷ closed (c ∷ []) ∷ []) 3 Exhausted refl

row_one_fact : Gives three_facts 100 (p b) [] (4 ∷ []) (closed [] ∷ []) 1 Exhausted
unfolding unifier keys could_match error_tree fault_tree plain calling_builtin
row_one_fact = gives 60 three_facts 100 (p b) [] (4 ∷ []) (closed [] ∷ []) 1 Exhausted refl

row_middle : Gives any_between 100 (one (codes "q") b) [] (4 ∷ []) (opened [] ∷ closed [] ∷ []) 2 Exhausted
unfolding unifier keys could_match error_tree fault_tree plain calling_builtin
row_middle = gives 60 any_between 100 (one (codes "q") b) [] (4 ∷ []) (opened [] ∷ closed [] ∷ []) 2 Exhausted refl

row_through_a_rule : Gives a_rule 100 (one (codes "g") x) (x ∷ []) (5 ∷ 5 ∷ []) (closed (b ∷ []) ∷ []) 5 Exhausted
unfolding unifier keys could_match error_tree fault_tree plain calling_builtin
row_through_a_rule = gives 60 a_rule 100 (one (codes "g") x) (x ∷ []) (5 ∷ 5 ∷ []) (closed (b ∷ []) ∷ []) 5 Exhausted refl

row_budget_spent : Gives a_loop 10 (atom (codes "loop")) [] (copied_number 10 2) [] 10 (Spent 10)
unfolding unifier keys could_match error_tree fault_tree plain calling_builtin
row_budget_spent = gives 60 a_loop 10 (atom (codes "loop")) [] (copied_number 10 2) [] 10 (Spent 10) refl

row_occurring : Alone (equal x (one (codes "f") x)) [] 1 Exhausted
unfolding unifier keys could_match error_tree fault_tree plain calling_builtin
row_occurring = gives 60 [] 100 (equal x (one (codes "f") x)) (x ∷ []) [] [] 1 Exhausted refl

row_two_free : Gives [] 100 (equal (variable 7) (variable 3)) (variable 7 ∷ variable 3 ∷ []) [] (closed (variable 0 ∷ variable 0 ∷ []) ∷ []) 1 Exhausted
unfolding unifier keys could_match error_tree fault_tree plain calling_builtin
row_two_free = gives 60 [] 100 (equal (variable 7) (variable 3)) (variable 7 ∷ variable 3 ∷ []) [] (closed (variable 0 ∷ variable 0 ∷ []) ∷ []) 1 Exhausted refl

row_undeclared : Gives [] 100 (one (codes "foo") a) [] (0 ∷ []) [] 1 (Ball (fault_tree (Existence (record { name = codes "foo"; arity = 1 })) (record { name = codes "foo"; arity = 1 })))
unfolding unifier keys could_match error_tree fault_tree plain calling_builtin
row_undeclared = gives 60 [] 100 (one (codes "foo") a) [] (0 ∷ []) [] 1 (Ball (fault_tree (Existence (record { name = codes "foo"; arity = 1 })) (record { name = codes "foo"; arity = 1 }))) refl

row_alternatives : Alone one_or_two (one_and_more ∷ is_two ∷ []) 4 Exhausted
unfolding unifier keys could_match error_tree fault_tree plain calling_builtin
row_alternatives = gives 60 [] 100 one_or_two (x ∷ []) [] (one_and_more ∷ is_two ∷ []) 4 Exhausted refl

row_failing : Alone failure [] 1 Exhausted
unfolding unifier keys could_match error_tree fault_tree plain calling_builtin
row_failing = gives 60 [] 100 failure (x ∷ []) [] [] 1 Exhausted refl

row_cut_after : Alone (both one_or_two cut) (is_one ∷ []) 3 Exhausted
unfolding unifier keys could_match error_tree fault_tree plain calling_builtin
row_cut_after = gives 60 [] 100 (both one_or_two cut) (x ∷ []) [] (is_one ∷ []) 3 Exhausted refl

row_cut_after_exactly : Gives [] 3 (both one_or_two cut) (x ∷ []) [] (is_one ∷ []) 3 Exhausted
unfolding unifier keys could_match error_tree fault_tree plain calling_builtin
row_cut_after_exactly = gives 60 [] 3 (both one_or_two cut) (x ∷ []) [] (is_one ∷ []) 3 Exhausted refl

row_cut_after_spent : Gives [] 2 (both one_or_two cut) (x ∷ []) [] [] 2 (Spent 2)
unfolding unifier keys could_match error_tree fault_tree plain calling_builtin
row_cut_after_spent = gives 60 [] 2 (both one_or_two cut) (x ∷ []) [] [] 2 (Spent 2) refl

row_cut_left : Alone (both one_or_two (or cut truth)) (is_one ∷ []) 4 Exhausted
unfolding unifier keys could_match error_tree fault_tree plain calling_builtin
row_cut_left = gives 60 [] 100 (both one_or_two (or cut truth)) (x ∷ []) [] (is_one ∷ []) 4 Exhausted refl

row_cut_right : Alone (both one_or_two (or failure cut)) (is_one ∷ []) 6 Exhausted
unfolding unifier keys could_match error_tree fault_tree plain calling_builtin
row_cut_right = gives 60 [] 100 (both one_or_two (or failure cut)) (x ∷ []) [] (is_one ∷ []) 6 Exhausted refl

row_cut_in_clause : Gives a_cut 100 (one (codes "c") x) (x ∷ []) (7 ∷ 7 ∷ []) (closed (a ∷ []) ∷ []) 3 Exhausted
unfolding unifier keys could_match error_tree fault_tree plain calling_builtin
row_cut_in_clause = gives 60 a_cut 100 (one (codes "c") x) (x ∷ []) (7 ∷ 7 ∷ []) (closed (a ∷ []) ∷ []) 3 Exhausted refl

row_cut_outside : Gives a_cut 100 (both one_or_two (one (codes "c") a)) (x ∷ []) (7 ∷ 7 ∷ 7 ∷ 7 ∷ []) (one_and_more ∷ is_two ∷ []) 10 Exhausted
unfolding unifier keys could_match error_tree fault_tree plain calling_builtin
row_cut_outside = gives 60 a_cut 100 (both one_or_two (one (codes "c") a)) (x ∷ []) (7 ∷ 7 ∷ 7 ∷ 7 ∷ []) (one_and_more ∷ is_two ∷ []) 10 Exhausted refl

row_cut_in_call : Alone (both one_or_two (call (cut ∷ []))) (one_and_more ∷ is_two ∷ []) 8 Exhausted
unfolding unifier keys could_match error_tree fault_tree plain calling_builtin
row_cut_in_call = gives 60 [] 100 (both one_or_two (call (cut ∷ []))) (x ∷ []) [] (one_and_more ∷ is_two ∷ []) 8 Exhausted refl

row_cut_in_called : Alone (call (or (both cut failure) truth ∷ [])) [] 4 Exhausted
unfolding unifier keys could_match error_tree fault_tree plain calling_builtin
row_cut_in_called = gives 60 [] 100 (call (or (both cut failure) truth ∷ [])) (x ∷ []) [] [] 4 Exhausted refl

row_added_to_atom : Gives one_pair 100 (call (atom (codes "f") ∷ x ∷ variable 1 ∷ [])) (x ∷ variable 1 ∷ []) (2 ∷ []) (closed (a ∷ b ∷ []) ∷ []) 2 Exhausted
unfolding unifier keys could_match error_tree fault_tree plain calling_builtin
row_added_to_atom = gives 60 one_pair 100 (call (atom (codes "f") ∷ x ∷ variable 1 ∷ [])) (x ∷ variable 1 ∷ []) (2 ∷ []) (closed (a ∷ b ∷ []) ∷ []) 2 Exhausted refl

row_added_to_compound : Gives one_pair 100 (call (one (codes "f") x ∷ variable 1 ∷ [])) (x ∷ variable 1 ∷ []) (2 ∷ []) (closed (a ∷ b ∷ []) ∷ []) 2 Exhausted
unfolding unifier keys could_match error_tree fault_tree plain calling_builtin
row_added_to_compound = gives 60 one_pair 100 (call (one (codes "f") x ∷ variable 1 ∷ [])) (x ∷ variable 1 ∷ []) (2 ∷ []) (closed (a ∷ b ∷ []) ∷ []) 2 Exhausted refl

row_added_to_control : Alone (call (atom (codes ",") ∷ truth ∷ equal x (number 1) ∷ [])) (is_one ∷ []) 3 Exhausted
unfolding unifier keys could_match error_tree fault_tree plain calling_builtin
row_added_to_control = gives 60 [] 100 (call (atom (codes ",") ∷ truth ∷ equal x (number 1) ∷ [])) (x ∷ []) [] (is_one ∷ []) 3 Exhausted refl

row_added_to_conjunction : Gives [] 100 (call (both a b ∷ c ∷ [])) [] (0 ∷ []) [] 2 (Ball (fault_tree (Existence (record { name = codes ","; arity = 3 })) (record { name = codes ","; arity = 3 })))
unfolding unifier keys could_match error_tree fault_tree plain calling_builtin
row_added_to_conjunction = gives 60 [] 100 (call (both a b ∷ c ∷ [])) [] (0 ∷ []) [] 2 (Ball (fault_tree (Existence (record { name = codes ","; arity = 3 })) (record { name = codes ","; arity = 3 }))) refl

row_call_of_eight : Gives [] 100 (call (a ∷ copies 7 b)) [] (0 ∷ []) [] 2 (Ball (fault_tree (Existence (record { name = codes "a"; arity = 7 })) (record { name = codes "a"; arity = 7 })))
unfolding unifier keys could_match error_tree fault_tree plain calling_builtin
row_call_of_eight = gives 60 [] 100 (call (a ∷ copies 7 b)) [] (0 ∷ []) [] 2 (Ball (fault_tree (Existence (record { name = codes "a"; arity = 7 })) (record { name = codes "a"; arity = 7 }))) refl

row_call_of_nine : Gives [] 100 (call (a ∷ copies 8 b)) [] (0 ∷ []) [] 1 (Ball (fault_tree (Existence (called 9)) (called 9)))
unfolding unifier keys could_match error_tree fault_tree plain calling_builtin
row_call_of_nine = gives 60 [] 100 (call (a ∷ copies 8 b)) [] (0 ∷ []) [] 1 (Ball (fault_tree (Existence (called 9)) (called 9))) refl

row_called_later : Alone (call (both (equal x truth) x ∷ [])) (closed (truth ∷ []) ∷ []) 4 Exhausted
unfolding unifier keys could_match error_tree fault_tree plain calling_builtin
row_called_later = gives 60 [] 100 (call (both (equal x truth) x ∷ [])) (x ∷ []) [] (closed (truth ∷ []) ∷ []) 4 Exhausted refl

row_called_now : Gives [] 100 (both (equal x cut) (call (or x truth ∷ []))) [] [] (closed [] ∷ []) 4 Exhausted
unfolding unifier keys could_match error_tree fault_tree plain calling_builtin
row_called_now = gives 60 [] 100 (both (equal x cut) (call (or x truth ∷ []))) [] [] (closed [] ∷ []) 4 Exhausted refl

row_unbound : Alone x [] 1 (Ball (fault_tree Instantiation (called 1)))
unfolding unifier keys could_match error_tree fault_tree plain calling_builtin
row_unbound = gives 60 [] 100 x (x ∷ []) [] [] 1 (Ball (fault_tree Instantiation (called 1))) refl

row_integer_goal : Alone (number 1) [] 1 (uncallable (number 1) (called 1))
unfolding unifier keys could_match error_tree fault_tree plain calling_builtin
row_integer_goal = gives 60 [] 100 (number 1) (x ∷ []) [] [] 1 (uncallable (number 1) (called 1)) refl

row_integer_in_body : Alone (call (both (atom (codes "foo")) (number 1) ∷ [])) [] 1 (uncallable (both (atom (codes "foo")) (number 1)) (called 1))
unfolding unifier keys could_match error_tree fault_tree plain calling_builtin
row_integer_in_body = gives 60 [] 100 (call (both (atom (codes "foo")) (number 1) ∷ [])) (x ∷ []) [] [] 1 (uncallable (both (atom (codes "foo")) (number 1)) (called 1)) refl

row_free_culprit : Alone (call (both (variable 5) (number 1) ∷ [])) [] 1 (uncallable (both x (number 1)) (called 1))
unfolding unifier keys could_match error_tree fault_tree plain calling_builtin
row_free_culprit = gives 60 [] 100 (call (both (variable 5) (number 1) ∷ [])) (x ∷ []) [] [] 1 (uncallable (both x (number 1)) (called 1)) refl

row_added_to_integer : Alone (call (number 1 ∷ a ∷ [])) [] 1 (uncallable (number 1) (called 2))
unfolding unifier keys could_match error_tree fault_tree plain calling_builtin
row_added_to_integer = gives 60 [] 100 (call (number 1 ∷ a ∷ [])) (x ∷ []) [] [] 1 (uncallable (number 1) (called 2)) refl

row_added_to_unbound : Alone (call (x ∷ a ∷ [])) [] 1 (Ball (fault_tree Instantiation (called 2)))
unfolding unifier keys could_match error_tree fault_tree plain calling_builtin
row_added_to_unbound = gives 60 [] 100 (call (x ∷ a ∷ [])) (x ∷ []) [] [] 1 (Ball (fault_tree Instantiation (called 2))) refl

row_added_to_either : Gives [] 100 (call (or failure (number 1) ∷ a ∷ [])) [] (0 ∷ []) [] 2 (Ball (fault_tree (Existence (record { name = codes ";"; arity = 3 })) (record { name = codes ";"; arity = 3 })))
unfolding unifier keys could_match error_tree fault_tree plain calling_builtin
row_added_to_either = gives 60 [] 100 (call (or failure (number 1) ∷ a ∷ [])) [] (0 ∷ []) [] 2 (Ball (fault_tree (Existence (record { name = codes ";"; arity = 3 })) (record { name = codes ";"; arity = 3 }))) refl

row_added_makes_no_body : Alone (call (one (codes ";") failure ∷ number 1 ∷ [])) [] 1 (uncallable (or failure (number 1)) (called 2))
unfolding unifier keys could_match error_tree fault_tree plain calling_builtin
row_added_makes_no_body = gives 60 [] 100 (call (one (codes ";") failure ∷ number 1 ∷ [])) (x ∷ []) [] [] 1 (uncallable (or failure (number 1)) (called 2)) refl

row_too_many : Alone (call (compound (codes "f") (trees (copies 255 a)) ∷ a ∷ [])) [] 1 (Ball (fault_tree (Representation (codes "max_arity")) (called 2)))
unfolding unifier keys could_match error_tree fault_tree plain calling_builtin
row_too_many = gives 60 [] 100 (call (compound (codes "f") (trees (copies 255 a)) ∷ a ∷ [])) (x ∷ []) [] [] 1 (Ball (fault_tree (Representation (codes "max_arity")) (called 2))) refl

row_denied_integer : Alone (denied (number 1)) [] 1 (uncallable (number 1) (record { name = codes "\\+"; arity = 1 }))
unfolding unifier keys could_match error_tree fault_tree plain calling_builtin
row_denied_integer = gives 60 [] 100 (denied (number 1)) (x ∷ []) [] [] 1 (uncallable (number 1) (record { name = codes "\\+"; arity = 1 })) refl

row_denied_unbound : Alone (denied x) [] 2 (Ball (fault_tree Instantiation (called 1)))
unfolding unifier keys could_match error_tree fault_tree plain calling_builtin
row_denied_unbound = gives 60 [] 100 (denied x) (x ∷ []) [] [] 2 (Ball (fault_tree Instantiation (called 1))) refl

row_denied_equal : Alone (denied (equal x (number 1))) [] 2 Exhausted
unfolding unifier keys could_match error_tree fault_tree plain calling_builtin
row_denied_equal = gives 60 [] 100 (denied (equal x (number 1))) (x ∷ []) [] [] 2 Exhausted refl

row_denied_fail : Alone (denied failure) (is_free ∷ []) 2 Exhausted
unfolding unifier keys could_match error_tree fault_tree plain calling_builtin
row_denied_fail = gives 60 [] 100 (denied failure) (x ∷ []) [] (is_free ∷ []) 2 Exhausted refl

row_denied_twice : Alone (denied (denied (equal x a))) (is_free ∷ []) 3 Exhausted
unfolding unifier keys could_match error_tree fault_tree plain calling_builtin
row_denied_twice = gives 60 [] 100 (denied (denied (equal x a))) (x ∷ []) [] (is_free ∷ []) 3 Exhausted refl

row_denied_alternatives : Alone (denied (denied one_or_two)) (is_free ∷ []) 4 Exhausted
unfolding unifier keys could_match error_tree fault_tree plain calling_builtin
row_denied_alternatives = gives 60 [] 100 (denied (denied one_or_two)) (x ∷ []) [] (is_free ∷ []) 4 Exhausted refl

row_cut_in_denied : Alone (both one_or_two (denied (both cut failure))) (one_and_more ∷ is_two ∷ []) 10 Exhausted
unfolding unifier keys could_match error_tree fault_tree plain calling_builtin
row_cut_in_denied = gives 60 [] 100 (both one_or_two (denied (both cut failure))) (x ∷ []) [] (one_and_more ∷ is_two ∷ []) 10 Exhausted refl

row_denied_closed : Alone (both (denied failure) one_or_two) (one_and_more ∷ is_two ∷ []) 6 Exhausted
unfolding unifier keys could_match error_tree fault_tree plain calling_builtin
row_denied_closed = gives 60 [] 100 (both (denied failure) one_or_two) (x ∷ []) [] (one_and_more ∷ is_two ∷ []) 6 Exhausted refl

row_else_taken : Alone (or (then failure truth) (equal x (number 2))) (is_two ∷ []) 4 Exhausted
unfolding unifier keys could_match error_tree fault_tree plain calling_builtin
row_else_taken = gives 60 [] 100 (or (then failure truth) (equal x (number 2))) (x ∷ []) [] (is_two ∷ []) 4 Exhausted refl

row_else_gone : Alone (or (then truth (equal x (number 1))) (equal x (number 2))) (is_one ∷ []) 3 Exhausted
unfolding unifier keys could_match error_tree fault_tree plain calling_builtin
row_else_gone = gives 60 [] 100 (or (then truth (equal x (number 1))) (equal x (number 2))) (x ∷ []) [] (is_one ∷ []) 3 Exhausted refl

row_then_fails : Alone (or (then truth failure) (equal x (number 2))) [] 3 Exhausted
unfolding unifier keys could_match error_tree fault_tree plain calling_builtin
row_then_fails = gives 60 [] 100 (or (then truth failure) (equal x (number 2))) (x ∷ []) [] [] 3 Exhausted refl

row_then_alone : Alone (then truth (equal x (number 1))) (is_one ∷ []) 3 Exhausted
unfolding unifier keys could_match error_tree fault_tree plain calling_builtin
row_then_alone = gives 60 [] 100 (then truth (equal x (number 1))) (x ∷ []) [] (is_one ∷ []) 3 Exhausted refl

row_condition_fails : Alone (then failure truth) [] 2 Exhausted
unfolding unifier keys could_match error_tree fault_tree plain calling_builtin
row_condition_fails = gives 60 [] 100 (then failure truth) (x ∷ []) [] [] 2 Exhausted refl

row_first_answer : Alone (then one_or_two truth) (is_one ∷ []) 4 Exhausted
unfolding unifier keys could_match error_tree fault_tree plain calling_builtin
row_first_answer = gives 60 [] 100 (then one_or_two truth) (x ∷ []) [] (is_one ∷ []) 4 Exhausted refl

row_first_answer_of_two : Alone (or (then one_or_two truth) truth) (is_one ∷ []) 4 Exhausted
unfolding unifier keys could_match error_tree fault_tree plain calling_builtin
row_first_answer_of_two = gives 60 [] 100 (or (then one_or_two truth) truth) (x ∷ []) [] (is_one ∷ []) 4 Exhausted refl

row_then_left_open : Alone (then truth one_or_two) (one_and_more ∷ is_two ∷ []) 6 Exhausted
unfolding unifier keys could_match error_tree fault_tree plain calling_builtin
row_then_left_open = gives 60 [] 100 (then truth one_or_two) (x ∷ []) [] (one_and_more ∷ is_two ∷ []) 6 Exhausted refl

row_bound_condition : Gives [] 100 (both (equal x (then failure truth)) (call (or x truth ∷ []))) [] [] (closed [] ∷ []) 6 Exhausted
unfolding unifier keys could_match error_tree fault_tree plain calling_builtin
row_bound_condition = gives 60 [] 100 (both (equal x (then failure truth)) (call (or x truth ∷ []))) [] [] (closed [] ∷ []) 6 Exhausted refl

row_cut_in_condition : Alone (both one_or_two (or (then cut truth) failure)) (one_and_more ∷ is_two ∷ []) 10 Exhausted
unfolding unifier keys could_match error_tree fault_tree plain calling_builtin
row_cut_in_condition = gives 60 [] 100 (both one_or_two (or (then cut truth) failure)) (x ∷ []) [] (one_and_more ∷ is_two ∷ []) 10 Exhausted refl

row_cut_in_failing_condition : Alone (or (then (both cut failure) truth) (equal x (number 2))) (is_two ∷ []) 5 Exhausted
unfolding unifier keys could_match error_tree fault_tree plain calling_builtin
row_cut_in_failing_condition = gives 60 [] 100 (or (then (both cut failure) truth) (equal x (number 2))) (x ∷ []) [] (is_two ∷ []) 5 Exhausted refl

row_cut_in_then : Alone (both one_or_two (or (then truth cut) failure)) (is_one ∷ []) 5 Exhausted
unfolding unifier keys could_match error_tree fault_tree plain calling_builtin
row_cut_in_then = gives 60 [] 100 (both one_or_two (or (then truth cut) failure)) (x ∷ []) [] (is_one ∷ []) 5 Exhausted refl

row_cut_in_else : Alone (both one_or_two (or (then failure truth) cut)) (is_one ∷ []) 6 Exhausted
unfolding unifier keys could_match error_tree fault_tree plain calling_builtin
row_cut_in_else = gives 60 [] 100 (both one_or_two (or (then failure truth) cut)) (x ∷ []) [] (is_one ∷ []) 6 Exhausted refl

row_nested : Alone (or (then (or (then truth failure) truth) (equal x (number 1))) (equal x (number 2))) (is_two ∷ []) 6 Exhausted
unfolding unifier keys could_match error_tree fault_tree plain calling_builtin
row_nested = gives 60 [] 100 (or (then (or (then truth failure) truth) (equal x (number 1))) (equal x (number 2))) (x ∷ []) [] (is_two ∷ []) 6 Exhausted refl

row_once_of_two : Alone (once one_or_two) (is_one ∷ []) 6 Exhausted
unfolding unifier keys could_match error_tree fault_tree plain calling_builtin
row_once_of_two = gives 60 [] 100 (once one_or_two) (x ∷ []) [] (is_one ∷ []) 6 Exhausted refl

row_once_repeat : Alone (once repeats) (is_free ∷ []) 5 Exhausted
unfolding unifier keys could_match error_tree fault_tree plain calling_builtin
row_once_repeat = gives 60 [] 100 (once repeats) (x ∷ []) [] (is_free ∷ []) 5 Exhausted refl

row_once_member : Gives members 100 (once (mem x (list_of (a ∷ b ∷ [])))) (x ∷ []) (3 ∷ []) (closed (a ∷ []) ∷ []) 5 Exhausted
unfolding unifier keys could_match error_tree fault_tree plain calling_builtin
row_once_member = gives 60 members 100 (once (mem x (list_of (a ∷ b ∷ [])))) (x ∷ []) (3 ∷ []) (closed (a ∷ []) ∷ []) 5 Exhausted refl

row_once_integer : Alone (once (number 1)) [] 3 (uncallable (number 1) (called 1))
unfolding unifier keys could_match error_tree fault_tree plain calling_builtin
row_once_integer = gives 60 [] 100 (once (number 1)) (x ∷ []) [] [] 3 (uncallable (number 1) (called 1)) refl

row_cut_after_repeat : Alone (both repeats cut) (is_free ∷ []) 2 Exhausted
unfolding unifier keys could_match error_tree fault_tree plain calling_builtin
row_cut_after_repeat = gives 60 [] 100 (both repeats cut) (x ∷ []) [] (is_free ∷ []) 2 Exhausted refl

row_repeat_spent : Gives [] 10 (both repeats failure) [] [] [] 10 (Spent 10)
unfolding unifier keys could_match error_tree fault_tree plain calling_builtin
row_repeat_spent = gives 60 [] 10 (both repeats failure) [] [] [] 10 (Spent 10) refl

row_repeat_answers : Gives [] 3 repeats [] [] (opened [] ∷ opened [] ∷ opened [] ∷ []) 3 (Spent 3)
unfolding unifier keys could_match error_tree fault_tree plain calling_builtin
row_repeat_answers = gives 60 [] 3 repeats [] [] (opened [] ∷ opened [] ∷ opened [] ∷ []) 3 (Spent 3) refl

row_catch_b : Alone (catches (throws b) x truth) (closed (b ∷ []) ∷ []) 4 Exhausted
unfolding unifier keys could_match error_tree fault_tree plain calling_builtin
row_catch_b = gives 60 [] 100 (catches (throws b) x truth) (x ∷ []) [] (closed (b ∷ []) ∷ []) 4 Exhausted refl

row_catch_spent : Gives [] 3 (catches (throws b) x truth) (x ∷ []) [] [] 3 (Spent 3)
unfolding unifier keys could_match error_tree fault_tree plain calling_builtin
row_catch_spent = gives 60 [] 3 (catches (throws b) x truth) (x ∷ []) [] [] 3 (Spent 3) refl

row_catch_left : Alone (both (catches truth x truth) (throws b)) [] 3 (Ball b)
unfolding unifier keys could_match error_tree fault_tree plain calling_builtin
row_catch_left = gives 60 [] 100 (both (catches truth x truth) (throws b)) (x ∷ []) [] [] 3 (Ball b) refl

row_catch_exited : Alone (both (catches one_or_two a truth) (both (equal x (number 2)) (throws a))) [] 8 (Ball a)
unfolding unifier keys could_match error_tree fault_tree plain calling_builtin
row_catch_exited = gives 60 [] 100 (both (catches one_or_two a truth) (both (equal x (number 2)) (throws a))) (x ∷ []) [] [] 8 (Ball a) refl

row_catch_undone : Alone (catches (both (equal x (number 1)) (throws a)) (variable 5) truth) (is_free ∷ []) 5 Exhausted
unfolding unifier keys could_match error_tree fault_tree plain calling_builtin
row_catch_undone = gives 60 [] 100 (catches (both (equal x (number 1)) (throws a)) (variable 5) truth) (x ∷ []) [] (is_free ∷ []) 5 Exhausted refl

row_catch_outer : Alone (catches (catches (throws a) b truth) a (equal x (number 1))) (is_one ∷ []) 5 Exhausted
unfolding unifier keys could_match error_tree fault_tree plain calling_builtin
row_catch_outer = gives 60 [] 100 (catches (catches (throws a) b truth) a (equal x (number 1))) (x ∷ []) [] (is_one ∷ []) 5 Exhausted refl

row_catch_recovery : Alone (catches (throws a) x (throws b)) [] 4 (Ball b)
unfolding unifier keys could_match error_tree fault_tree plain calling_builtin
row_catch_recovery = gives 60 [] 100 (catches (throws a) x (throws b)) (x ∷ []) [] [] 4 (Ball b) refl

row_catch_rethrown : Alone (catches (catches (throws a) (variable 1) (throws b)) x truth) (closed (b ∷ []) ∷ []) 7 Exhausted
unfolding unifier keys could_match error_tree fault_tree plain calling_builtin
row_catch_rethrown = gives 60 [] 100 (catches (catches (throws a) (variable 1) (throws b)) x truth) (x ∷ []) [] (closed (b ∷ []) ∷ []) 7 Exhausted refl

row_catch_error : Gives [] 100 (catches (call (x ∷ a ∷ [])) (one (codes "f") x) truth) [] [] [] 2 (Ball (fault_tree Instantiation (called 2)))
unfolding unifier keys could_match error_tree fault_tree plain calling_builtin
row_catch_error = gives 60 [] 100 (catches (call (x ∷ a ∷ [])) (one (codes "f") x) truth) [] [] [] 2 (Ball (fault_tree Instantiation (called 2))) refl

row_catch_copy : Gives [] 100 (catches (throws (one (codes "f") x)) (one (codes "f") (variable 1)) (equal (variable 1) a)) (x ∷ variable 1 ∷ []) [] (closed (variable 0 ∷ a ∷ []) ∷ []) 4 Exhausted
unfolding unifier keys could_match error_tree fault_tree plain calling_builtin
row_catch_copy = gives 60 [] 100 (catches (throws (one (codes "f") x)) (one (codes "f") (variable 1)) (equal (variable 1) a)) (x ∷ variable 1 ∷ []) [] (closed (variable 0 ∷ a ∷ []) ∷ []) 4 Exhausted refl

row_cut_in_catch : Alone (both one_or_two (catches cut b truth)) (one_and_more ∷ is_two ∷ []) 8 Exhausted
unfolding unifier keys could_match error_tree fault_tree plain calling_builtin
row_cut_in_catch = gives 60 [] 100 (both one_or_two (catches cut b truth)) (x ∷ []) [] (one_and_more ∷ is_two ∷ []) 8 Exhausted refl

row_catch_integer : Alone (catches (number 1) x truth) [] 1 (uncallable (number 1) catch_three)
unfolding unifier keys could_match error_tree fault_tree plain calling_builtin
row_catch_integer = gives 60 [] 100 (catches (number 1) x truth) (x ∷ []) [] [] 1 (uncallable (number 1) catch_three) refl

row_catch_unbound : Alone (catches x (variable 1) truth) (is_free ∷ []) 4 Exhausted
unfolding unifier keys could_match error_tree fault_tree plain calling_builtin
row_catch_unbound = gives 60 [] 100 (catches x (variable 1) truth) (x ∷ []) [] (is_free ∷ []) 4 Exhausted refl

row_catch_in_denied : Alone (denied (catches (throws a) (variable 1) failure)) (is_free ∷ []) 5 Exhausted
unfolding unifier keys could_match error_tree fault_tree plain calling_builtin
row_catch_in_denied = gives 60 [] 100 (denied (catches (throws a) (variable 1) failure)) (x ∷ []) [] (is_free ∷ []) 5 Exhausted refl

row_throw_unbound : Alone (throws x) [] 1 (Ball (fault_tree Instantiation throw_one))
unfolding unifier keys could_match error_tree fault_tree plain calling_builtin
row_throw_unbound = gives 60 [] 100 (throws x) (x ∷ []) [] [] 1 (Ball (fault_tree Instantiation throw_one)) refl

row_halted : Alone (both one_or_two halts) [] 3 (Halted (pos 0))
unfolding unifier keys could_match error_tree fault_tree plain calling_builtin
row_halted = gives 60 [] 100 (both one_or_two halts) (x ∷ []) [] [] 3 (Halted (pos 0)) refl

row_halted_with : Alone (halts_with (number 3)) [] 1 (Halted (pos 3))
unfolding unifier keys could_match error_tree fault_tree plain calling_builtin
row_halted_with = gives 60 [] 100 (halts_with (number 3)) (x ∷ []) [] [] 1 (Halted (pos 3)) refl

row_halted_in_catch : Alone (catches (halts_with (number 3)) x truth) [] 2 (Halted (pos 3))
unfolding unifier keys could_match error_tree fault_tree plain calling_builtin
row_halted_in_catch = gives 60 [] 100 (catches (halts_with (number 3)) x truth) (x ∷ []) [] [] 2 (Halted (pos 3)) refl

row_halt_unbound : Alone (halts_with x) [] 1 (Ball (fault_tree Instantiation halt_one))
unfolding unifier keys could_match error_tree fault_tree plain calling_builtin
row_halt_unbound = gives 60 [] 100 (halts_with x) (x ∷ []) [] [] 1 (Ball (fault_tree Instantiation halt_one)) refl

row_halt_atom : Alone (halts_with a) [] 1 (Ball (fault_tree (OfType (codes "integer") a) halt_one))
unfolding unifier keys could_match error_tree fault_tree plain calling_builtin
row_halt_atom = gives 60 [] 100 (halts_with a) (x ∷ []) [] [] 1 (Ball (fault_tree (OfType (codes "integer") a) halt_one)) refl

row_cut_in_lone_condition : Alone (both one_or_two (then cut truth)) (one_and_more ∷ is_two ∷ []) 10 Exhausted
unfolding unifier keys could_match error_tree fault_tree plain calling_builtin
row_cut_in_lone_condition = gives 60 [] 100 (both one_or_two (then cut truth)) (x ∷ []) [] (one_and_more ∷ is_two ∷ []) 10 Exhausted refl

row_most_arguments : Gives [] 100 (call (compound (codes "f") (trees (copies 254 a)) ∷ a ∷ [])) [] (0 ∷ []) [] 2 (Ball (fault_tree (Existence (record { name = codes "f"; arity = 255 })) (record { name = codes "f"; arity = 255 })))
unfolding unifier keys could_match error_tree fault_tree plain calling_builtin
row_most_arguments = gives 60 [] 100 (call (compound (codes "f") (trees (copies 254 a)) ∷ a ∷ [])) [] (0 ∷ []) [] 2 (Ball (fault_tree (Existence (record { name = codes "f"; arity = 255 })) (record { name = codes "f"; arity = 255 }))) refl

row_catch_failing : Alone (catches failure a truth) [] 2 Exhausted
unfolding unifier keys could_match error_tree fault_tree plain calling_builtin
row_catch_failing = gives 60 [] 100 (catches failure a truth) (x ∷ []) [] [] 2 Exhausted refl

row_catch_failing_later : Alone (catches (or (equal x (number 1)) failure) a truth) (one_and_more ∷ []) 5 Exhausted
unfolding unifier keys could_match error_tree fault_tree plain calling_builtin
row_catch_failing_later = gives 60 [] 100 (catches (or (equal x (number 1)) failure) a truth) (x ∷ []) [] (one_and_more ∷ []) 5 Exhausted refl

row_catch_out_of_denied : Alone (catches (denied (throws a)) a truth) (is_free ∷ []) 5 Exhausted
unfolding unifier keys could_match error_tree fault_tree plain calling_builtin
row_catch_out_of_denied = gives 60 [] 100 (catches (denied (throws a)) a truth) (x ∷ []) [] (is_free ∷ []) 5 Exhausted refl

row_catch_out_of_condition : Alone (catches (or (then (throws a) truth) truth) a truth) (is_free ∷ []) 5 Exhausted
unfolding unifier keys could_match error_tree fault_tree plain calling_builtin
row_catch_out_of_condition = gives 60 [] 100 (catches (or (then (throws a) truth) truth) a truth) (x ∷ []) [] (is_free ∷ []) 5 Exhausted refl

row_catch_out_of_once : Alone (catches (once (throws a)) a truth) (is_free ∷ []) 7 Exhausted
unfolding unifier keys could_match error_tree fault_tree plain calling_builtin
row_catch_out_of_once = gives 60 [] 100 (catches (once (throws a)) a truth) (x ∷ []) [] (is_free ∷ []) 7 Exhausted refl

row_catch_goes_on : Alone (both one_or_two (catches (throws a) a truth)) (one_and_more ∷ is_two ∷ []) 12 Exhausted
unfolding unifier keys could_match error_tree fault_tree plain calling_builtin
row_catch_goes_on = gives 60 [] 100 (both one_or_two (catches (throws a) a truth)) (x ∷ []) [] (one_and_more ∷ is_two ∷ []) 12 Exhausted refl

row_catch_number : Alone (catches (throws (number 1)) x truth) (is_one ∷ []) 4 Exhausted
unfolding unifier keys could_match error_tree fault_tree plain calling_builtin
row_catch_number = gives 60 [] 100 (catches (throws (number 1)) x truth) (x ∷ []) [] (is_one ∷ []) 4 Exhausted refl

row_found_none : Alone (finds y failure x) (closed (nil ∷ []) ∷ []) 2 Exhausted
unfolding unifier keys could_match error_tree fault_tree plain calling_builtin
row_found_none = gives 60 [] 100 (finds y failure x) (x ∷ []) [] (closed (nil ∷ []) ∷ []) 2 Exhausted refl

row_found_two : Alone (finds y either_y x) (closed ((list_of (number 1 ∷ number 2 ∷ [])) ∷ []) ∷ []) 5 Exhausted
unfolding unifier keys could_match error_tree fault_tree plain calling_builtin
row_found_two = gives 60 [] 100 (finds y either_y x) (x ∷ []) [] (closed ((list_of (number 1 ∷ number 2 ∷ [])) ∷ []) ∷ []) 5 Exhausted refl

row_found_two_exactly : Gives [] 5 (finds y either_y x) (x ∷ []) [] (closed ((list_of (number 1 ∷ number 2 ∷ [])) ∷ []) ∷ []) 5 Exhausted
unfolding unifier keys could_match error_tree fault_tree plain calling_builtin
row_found_two_exactly = gives 60 [] 5 (finds y either_y x) (x ∷ []) [] (closed ((list_of (number 1 ∷ number 2 ∷ [])) ∷ []) ∷ []) 5 Exhausted refl

row_found_two_spent : Gives [] 4 (finds y either_y x) (x ∷ []) [] [] 4 (Spent 4)
unfolding unifier keys could_match error_tree fault_tree plain calling_builtin
row_found_two_spent = gives 60 [] 4 (finds y either_y x) (x ∷ []) [] [] 4 (Spent 4) refl

row_found_nested : Alone (finds y (finds (variable 2) (or (equal (variable 2) (number 1)) (equal (variable 2) (number 2))) y) x) (closed (list_of ((list_of (number 1 ∷ number 2 ∷ [])) ∷ []) ∷ []) ∷ []) 6 Exhausted
unfolding unifier keys could_match error_tree fault_tree plain calling_builtin
row_found_nested = gives 60 [] 100 (finds y (finds (variable 2) (or (equal (variable 2) (number 1)) (equal (variable 2) (number 2))) y) x) (x ∷ []) [] (closed (list_of ((list_of (number 1 ∷ number 2 ∷ [])) ∷ []) ∷ []) ∷ []) 6 Exhausted refl

row_found_free : Alone (finds y (or truth truth) x) (closed (list_of (variable 0 ∷ variable 1 ∷ []) ∷ []) ∷ []) 5 Exhausted
unfolding unifier keys could_match error_tree fault_tree plain calling_builtin
row_found_free = gives 60 [] 100 (finds y (or truth truth) x) (x ∷ []) [] (closed (list_of (variable 0 ∷ variable 1 ∷ []) ∷ []) ∷ []) 5 Exhausted refl

row_found_free_twice : Alone (finds (two (codes "f") y y) (or truth truth) x) (closed (list_of (two (codes "f") (variable 0) (variable 0) ∷ two (codes "f") (variable 1) (variable 1) ∷ []) ∷ []) ∷ []) 5 Exhausted
unfolding unifier keys could_match error_tree fault_tree plain calling_builtin
row_found_free_twice = gives 60 [] 100 (finds (two (codes "f") y y) (or truth truth) x) (x ∷ []) [] (closed (list_of (two (codes "f") (variable 0) (variable 0) ∷ two (codes "f") (variable 1) (variable 1) ∷ []) ∷ []) ∷ []) 5 Exhausted refl

row_found_copy : Gives [] 100 (both (finds y truth x) (equal y a)) (x ∷ y ∷ []) [] (closed (list_of (variable 0 ∷ []) ∷ a ∷ []) ∷ []) 3 Exhausted
unfolding unifier keys could_match error_tree fault_tree plain calling_builtin
row_found_copy = gives 60 [] 100 (both (finds y truth x) (equal y a)) (x ∷ y ∷ []) [] (closed (list_of (variable 0 ∷ []) ∷ a ∷ []) ∷ []) 3 Exhausted refl

row_found_undone : Gives [] 100 (finds x (equal x (number 1)) y) (x ∷ y ∷ []) [] (closed (variable 0 ∷ list_of (number 1 ∷ []) ∷ []) ∷ []) 2 Exhausted
unfolding unifier keys could_match error_tree fault_tree plain calling_builtin
row_found_undone = gives 60 [] 100 (finds x (equal x (number 1)) y) (x ∷ y ∷ []) [] (closed (variable 0 ∷ list_of (number 1 ∷ []) ∷ []) ∷ []) 2 Exhausted refl

row_found_in_denied : Alone (denied (finds y failure (list_of (a ∷ [])))) (is_free ∷ []) 3 Exhausted
unfolding unifier keys could_match error_tree fault_tree plain calling_builtin
row_found_in_denied = gives 60 [] 100 (denied (finds y failure (list_of (a ∷ [])))) (x ∷ []) [] (is_free ∷ []) 3 Exhausted refl

row_found_denied : Alone (denied (finds y failure nil)) [] 3 Exhausted
unfolding unifier keys could_match error_tree fault_tree plain calling_builtin
row_found_denied = gives 60 [] 100 (denied (finds y failure nil)) (x ∷ []) [] [] 3 Exhausted refl

row_denied_in_found : Alone (finds y (denied either_y) x) (closed (nil ∷ []) ∷ []) 4 Exhausted
unfolding unifier keys could_match error_tree fault_tree plain calling_builtin
row_denied_in_found = gives 60 [] 100 (finds y (denied either_y) x) (x ∷ []) [] (closed (nil ∷ []) ∷ []) 4 Exhausted refl

row_found_ball : Alone (finds y (or (equal y (number 1)) (throws a)) x) [] 5 (Ball a)
unfolding unifier keys could_match error_tree fault_tree plain calling_builtin
row_found_ball = gives 60 [] 100 (finds y (or (equal y (number 1)) (throws a)) x) (x ∷ []) [] [] 5 (Ball a) refl

row_found_caught : Alone (catches (finds y (or (equal y (number 1)) (throws a)) x) (variable 2) truth) (is_free ∷ []) 8 Exhausted
unfolding unifier keys could_match error_tree fault_tree plain calling_builtin
row_found_caught = gives 60 [] 100 (catches (finds y (or (equal y (number 1)) (throws a)) x) (variable 2) truth) (x ∷ []) [] (is_free ∷ []) 8 Exhausted refl

row_caught_in_found : Alone (finds y (catches (or (equal y (number 1)) (throws a)) a (equal y (number 2))) x) (closed ((list_of (number 1 ∷ number 2 ∷ [])) ∷ []) ∷ []) 8 Exhausted
unfolding unifier keys could_match error_tree fault_tree plain calling_builtin
row_caught_in_found = gives 60 [] 100 (finds y (catches (or (equal y (number 1)) (throws a)) a (equal y (number 2))) x) (x ∷ []) [] (closed ((list_of (number 1 ∷ number 2 ∷ [])) ∷ []) ∷ []) 8 Exhausted refl

row_cut_in_found : Alone (finds y (both either_y cut) x) (closed (list_of (number 1 ∷ []) ∷ []) ∷ []) 4 Exhausted
unfolding unifier keys could_match error_tree fault_tree plain calling_builtin
row_cut_in_found = gives 60 [] 100 (finds y (both either_y cut) x) (x ∷ []) [] (closed (list_of (number 1 ∷ []) ∷ []) ∷ []) 4 Exhausted refl

row_cut_found : Alone (both one_or_two (finds y (or (both cut failure) truth) nil)) (one_and_more ∷ is_two ∷ []) 12 Exhausted
unfolding unifier keys could_match error_tree fault_tree plain calling_builtin
row_cut_found = gives 60 [] 100 (both one_or_two (finds y (or (both cut failure) truth) nil)) (x ∷ []) [] (one_and_more ∷ is_two ∷ []) 12 Exhausted refl

row_found_closed : Alone (both (finds y either_y (variable 2)) one_or_two) (one_and_more ∷ is_two ∷ []) 9 Exhausted
unfolding unifier keys could_match error_tree fault_tree plain calling_builtin
row_found_closed = gives 60 [] 100 (both (finds y either_y (variable 2)) one_or_two) (x ∷ []) [] (one_and_more ∷ is_two ∷ []) 9 Exhausted refl

row_found_bound : Alone (finds y either_y (list_of (number 1 ∷ x ∷ []))) (is_two ∷ []) 5 Exhausted
unfolding unifier keys could_match error_tree fault_tree plain calling_builtin
row_found_bound = gives 60 [] 100 (finds y either_y (list_of (number 1 ∷ x ∷ []))) (x ∷ []) [] (is_two ∷ []) 5 Exhausted refl

row_found_other_length : Alone (finds y either_y (list_of (x ∷ []))) [] 5 Exhausted
unfolding unifier keys could_match error_tree fault_tree plain calling_builtin
row_found_other_length = gives 60 [] 100 (finds y either_y (list_of (x ∷ []))) (x ∷ []) [] [] 5 Exhausted refl

row_found_no_list : Alone (finds y truth a) [] 2 Exhausted
unfolding unifier keys could_match error_tree fault_tree plain calling_builtin
row_found_no_list = gives 60 [] 100 (finds y truth a) (x ∷ []) [] [] 2 Exhausted refl

row_found_integer : Alone (finds y (number 1) x) [] 1 (uncallable (number 1) findall_three)
unfolding unifier keys could_match error_tree fault_tree plain calling_builtin
row_found_integer = gives 60 [] 100 (finds y (number 1) x) (x ∷ []) [] [] 1 (uncallable (number 1) findall_three) refl

row_found_unbound : Alone (finds y (variable 2) x) [] 2 (Ball (fault_tree Instantiation (called 1)))
unfolding unifier keys could_match error_tree fault_tree plain calling_builtin
row_found_unbound = gives 60 [] 100 (finds y (variable 2) x) (x ∷ []) [] [] 2 (Ball (fault_tree Instantiation (called 1))) refl

row_added : GivesIn (changed 1000 [] (declares 1 (codes "k") 1 ∷ adds Back 0 (k 1) ∷ []) []) (assertz (k 1)) (0 ∷ 1 ∷ 2 ∷ []) (closed [] ∷ []) 1 Exhausted
unfolding unifier keys could_match error_tree fault_tree plain calling_builtin accessing is_reserved control of_terms of_texts of_numbers of_clauses clause_words need used
row_added = gives_in 60 (changed 1000 [] (declares 1 (codes "k") 1 ∷ adds Back 0 (k 1) ∷ []) []) (assertz (k 1)) (0 ∷ 1 ∷ 2 ∷ []) (closed [] ∷ []) 1 Exhausted refl

row_added_exactly : GivesIn (changed 30 [] (declares 1 (codes "k") 1 ∷ adds Back 0 (k 1) ∷ []) []) (assertz (k 1)) (0 ∷ 1 ∷ 2 ∷ []) (closed [] ∷ []) 1 Exhausted
unfolding unifier keys could_match error_tree fault_tree plain calling_builtin accessing is_reserved control of_terms of_texts of_numbers of_clauses clause_words need used
row_added_exactly = gives_in 60 (changed 30 [] (declares 1 (codes "k") 1 ∷ adds Back 0 (k 1) ∷ []) []) (assertz (k 1)) (0 ∷ 1 ∷ 2 ∷ []) (closed [] ∷ []) 1 Exhausted refl

row_added_full : GivesIn (changed 29 [] (declares 1 (codes "k") 1 ∷ []) []) (assertz (k 1)) (0 ∷ 1 ∷ 1 ∷ []) [] 1 (Ball (fault_tree (Resource (codes "database")) assertz_one))
unfolding unifier keys could_match error_tree fault_tree plain calling_builtin accessing is_reserved control of_terms of_texts of_numbers of_clauses clause_words need used
row_added_full = gives_in 60 (changed 29 [] (declares 1 (codes "k") 1 ∷ []) []) (assertz (k 1)) (0 ∷ 1 ∷ 1 ∷ []) [] 1 (Ball (fault_tree (Resource (codes "database")) assertz_one)) refl

row_declared_full : GivesIn (changed 16 [] [] []) (assertz (k 1)) (0 ∷ 0 ∷ []) [] 1 (Ball (fault_tree (Resource (codes "database")) assertz_one))
unfolding unifier keys could_match error_tree fault_tree plain calling_builtin accessing is_reserved control of_terms of_texts of_numbers of_clauses clause_words need used
row_declared_full = gives_in 60 (changed 16 [] [] []) (assertz (k 1)) (0 ∷ 0 ∷ []) [] 1 (Ball (fault_tree (Resource (codes "database")) assertz_one)) refl

row_added_beside : GivesIn (changed 1000 [] (declares 2 (codes "k") 1 ∷ adds Back 0 (k 1) ∷ []) []) (assertz (k 1)) (0 ∷ 1 ∷ 2 ∷ []) (closed [] ∷ []) 1 Exhausted
unfolding unifier keys could_match error_tree fault_tree plain calling_builtin accessing is_reserved control of_terms of_texts of_numbers of_clauses clause_words need used
row_added_beside = gives_in 60 (changed 1000 [] (declares 2 (codes "k") 1 ∷ adds Back 0 (k 1) ∷ []) []) (assertz (k 1)) (0 ∷ 1 ∷ 2 ∷ []) (closed [] ∷ []) 1 Exhausted refl

row_added_static : Refuses a_static (assertz (atom (codes "foo"))) (2 ∷ []) (static (codes "foo") 0) assertz_one
unfolding unifier keys could_match error_tree fault_tree plain calling_builtin accessing is_reserved control of_terms of_texts of_numbers of_clauses clause_words need used
row_added_static = gives_in 60 (changed 1000 a_static [] []) (assertz (atom (codes "foo"))) (2 ∷ []) [] 1 (Ball (fault_tree (static (codes "foo") 0) assertz_one)) refl

row_added_reserved : Refuses [] (asserta truth) [] (static (codes "true") 0) asserta_one
unfolding unifier keys could_match error_tree fault_tree plain calling_builtin accessing is_reserved control of_terms of_texts of_numbers of_clauses clause_words need used
row_added_reserved = gives_in 60 (changed 1000 [] [] []) (asserta truth) [] [] 1 (Ball (fault_tree (static (codes "true") 0) asserta_one)) refl

row_added_no_body : Refuses a_static (assertz (two (codes ":-") (atom (codes "foo")) (number 4))) [] (OfType (codes "callable") (number 4)) assertz_one
unfolding unifier keys could_match error_tree fault_tree plain calling_builtin accessing is_reserved control of_terms of_texts of_numbers of_clauses clause_words need used
row_added_no_body = gives_in 60 (changed 1000 a_static [] []) (assertz (two (codes ":-") (atom (codes "foo")) (number 4))) [] [] 1 (Ball (fault_tree (OfType (codes "callable") (number 4)) assertz_one)) refl

row_added_unbound : Refuses [] (assertz x) [] Instantiation assertz_one
unfolding unifier keys could_match error_tree fault_tree plain calling_builtin accessing is_reserved control of_terms of_texts of_numbers of_clauses clause_words need used
row_added_unbound = gives_in 60 (changed 1000 [] [] []) (assertz x) [] [] 1 (Ball (fault_tree Instantiation assertz_one)) refl

row_added_called : GivesIn (changed 1000 [] (declares 1 (codes "k") 1 ∷ adds Back 0 (k 1) ∷ []) (x ∷ [])) (both (assertz (k 1)) (one (codes "k") x)) (0 ∷ 1 ∷ 2 ∷ 2 ∷ []) (is_one ∷ []) 2 Exhausted
unfolding unifier keys could_match error_tree fault_tree plain calling_builtin accessing is_reserved control of_terms of_texts of_numbers of_clauses clause_words need used
row_added_called = gives_in 60 (changed 1000 [] (declares 1 (codes "k") 1 ∷ adds Back 0 (k 1) ∷ []) (x ∷ [])) (both (assertz (k 1)) (one (codes "k") x)) (0 ∷ 1 ∷ 2 ∷ 2 ∷ []) (is_one ∷ []) 2 Exhausted refl

row_added_meanwhile : GivesIn (changed 1000 a_dynamic (adds Back 0 (k 2) ∷ []) []) (both (one (codes "k") x) (both (assertz (k 2)) failure)) (2 ∷ 2 ∷ 3 ∷ []) [] 3 Exhausted
unfolding unifier keys could_match error_tree fault_tree plain calling_builtin accessing is_reserved control of_terms of_texts of_numbers of_clauses clause_words need used
row_added_meanwhile = gives_in 60 (changed 1000 a_dynamic (adds Back 0 (k 2) ∷ []) []) (both (one (codes "k") x) (both (assertz (k 2)) failure)) (2 ∷ 2 ∷ 3 ∷ []) [] 3 Exhausted refl

row_added_first : GivesIn (changed 1000 a_dynamic (adds Front 0 (k 2) ∷ []) (x ∷ [])) (both (asserta (k 2)) (one (codes "k") x)) (2 ∷ 3 ∷ 3 ∷ []) (opened (number 2 ∷ []) ∷ is_one ∷ []) 3 Exhausted
unfolding unifier keys could_match error_tree fault_tree plain calling_builtin accessing is_reserved control of_terms of_texts of_numbers of_clauses clause_words need used
row_added_first = gives_in 60 (changed 1000 a_dynamic (adds Front 0 (k 2) ∷ []) (x ∷ [])) (both (asserta (k 2)) (one (codes "k") x)) (2 ∷ 3 ∷ 3 ∷ []) (opened (number 2 ∷ []) ∷ is_one ∷ []) 3 Exhausted refl

row_shown : GivesIn (changed 1000 a_dynamic [] (x ∷ y ∷ [])) (inspects any_k y) (2 ∷ []) (closed (number 1 ∷ truth ∷ []) ∷ []) 1 Exhausted
unfolding unifier keys could_match error_tree fault_tree plain calling_builtin accessing is_reserved control of_terms of_texts of_numbers of_clauses clause_words need used
row_shown = gives_in 60 (changed 1000 a_dynamic [] (x ∷ y ∷ [])) (inspects any_k y) (2 ∷ []) (closed (number 1 ∷ truth ∷ []) ∷ []) 1 Exhausted refl

row_shown_body : GivesIn (changed 1000 dynamic_rule [] (y ∷ [])) (inspects (one (codes "g") a) y) (2 ∷ []) (closed (both (p a) (equal a b) ∷ []) ∷ []) 1 Exhausted
unfolding unifier keys could_match error_tree fault_tree plain calling_builtin accessing is_reserved control of_terms of_texts of_numbers of_clauses clause_words need used
row_shown_body = gives_in 60 (changed 1000 dynamic_rule [] (y ∷ [])) (inspects (one (codes "g") a) y) (2 ∷ []) (closed (both (p a) (equal a b) ∷ []) ∷ []) 1 Exhausted refl

row_shown_no_body : GivesIn (changed 1000 dynamic_rule [] (x ∷ [])) (inspects (one (codes "g") x) truth) (2 ∷ []) [] 1 Exhausted
unfolding unifier keys could_match error_tree fault_tree plain calling_builtin accessing is_reserved control of_terms of_texts of_numbers of_clauses clause_words need used
row_shown_no_body = gives_in 60 (changed 1000 dynamic_rule [] (x ∷ [])) (inspects (one (codes "g") x) truth) (2 ∷ []) [] 1 Exhausted refl

row_shown_each : GivesIn (changed 1000 two_dynamic [] (x ∷ [])) (inspects any_k truth) (3 ∷ []) (one_and_more ∷ is_two ∷ []) 2 Exhausted
unfolding unifier keys could_match error_tree fault_tree plain calling_builtin accessing is_reserved control of_terms of_texts of_numbers of_clauses clause_words need used
row_shown_each = gives_in 60 (changed 1000 two_dynamic [] (x ∷ [])) (inspects any_k truth) (3 ∷ []) (one_and_more ∷ is_two ∷ []) 2 Exhausted refl

row_shown_undeclared : GivesIn (changed 1000 [] [] []) (inspects any_k y) (0 ∷ []) [] 1 Exhausted
unfolding unifier keys could_match error_tree fault_tree plain calling_builtin accessing is_reserved control of_terms of_texts of_numbers of_clauses clause_words need used
row_shown_undeclared = gives_in 60 (changed 1000 [] [] []) (inspects any_k y) (0 ∷ []) [] 1 Exhausted refl

row_shown_static : Refuses a_static (inspects (atom (codes "foo")) y) (2 ∷ []) (private (codes "foo") 0) clause_two
unfolding unifier keys could_match error_tree fault_tree plain calling_builtin accessing is_reserved control of_terms of_texts of_numbers of_clauses clause_words need used
row_shown_static = gives_in 60 (changed 1000 a_static [] []) (inspects (atom (codes "foo")) y) (2 ∷ []) [] 1 (Ball (fault_tree (private (codes "foo") 0) clause_two)) refl

row_shown_reserved : Refuses [] (inspects (one (codes "atom") x) y) [] (private (codes "atom") 1) clause_two
unfolding unifier keys could_match error_tree fault_tree plain calling_builtin accessing is_reserved control of_terms of_texts of_numbers of_clauses clause_words need used
row_shown_reserved = gives_in 60 (changed 1000 [] [] []) (inspects (one (codes "atom") x) y) [] [] 1 (Ball (fault_tree (private (codes "atom") 1) clause_two)) refl

row_shown_unbound : Refuses [] (inspects x y) [] Instantiation clause_two
unfolding unifier keys could_match error_tree fault_tree plain calling_builtin accessing is_reserved control of_terms of_texts of_numbers of_clauses clause_words need used
row_shown_unbound = gives_in 60 (changed 1000 [] [] []) (inspects x y) [] [] 1 (Ball (fault_tree Instantiation clause_two)) refl

row_shown_integer : Refuses [] (inspects (number 4) y) [] (OfType (codes "callable") (number 4)) clause_two
unfolding unifier keys could_match error_tree fault_tree plain calling_builtin accessing is_reserved control of_terms of_texts of_numbers of_clauses clause_words need used
row_shown_integer = gives_in 60 (changed 1000 [] [] []) (inspects (number 4) y) [] [] 1 (Ball (fault_tree (OfType (codes "callable") (number 4)) clause_two)) refl

row_shown_unbound_first : Refuses [] (inspects x (number 4)) [] Instantiation clause_two
unfolding unifier keys could_match error_tree fault_tree plain calling_builtin accessing is_reserved control of_terms of_texts of_numbers of_clauses clause_words need used
row_shown_unbound_first = gives_in 60 (changed 1000 [] [] []) (inspects x (number 4)) [] [] 1 (Ball (fault_tree Instantiation clause_two)) refl

row_shown_integer_body : Refuses [] (inspects any_k (number 4)) [] (OfType (codes "callable") (number 4)) clause_two
unfolding unifier keys could_match error_tree fault_tree plain calling_builtin accessing is_reserved control of_terms of_texts of_numbers of_clauses clause_words need used
row_shown_integer_body = gives_in 60 (changed 1000 [] [] []) (inspects any_k (number 4)) [] [] 1 (Ball (fault_tree (OfType (codes "callable") (number 4)) clause_two)) refl

row_retracted : GivesIn (changed 1000 a_dynamic (erases 1 1 ∷ []) (x ∷ [])) (retracts any_k) (2 ∷ 3 ∷ []) (is_one ∷ []) 1 Exhausted
unfolding unifier keys could_match error_tree fault_tree plain calling_builtin accessing is_reserved control of_terms of_texts of_numbers of_clauses clause_words need used
row_retracted = gives_in 60 (changed 1000 a_dynamic (erases 1 1 ∷ []) (x ∷ [])) (retracts any_k) (2 ∷ 3 ∷ []) (is_one ∷ []) 1 Exhausted refl

row_retracted_gone : GivesIn (changed 1000 a_dynamic (erases 2 1 ∷ []) (x ∷ [])) (retracts any_k) (2 ∷ 3 ∷ []) [] 1 Exhausted
unfolding unifier keys could_match error_tree fault_tree plain calling_builtin accessing is_reserved control of_terms of_texts of_numbers of_clauses clause_words need used
row_retracted_gone = gives_in 60 (changed 1000 a_dynamic (erases 2 1 ∷ []) (x ∷ [])) (retracts any_k) (2 ∷ 3 ∷ []) [] 1 Exhausted refl

row_retracted_next : GivesIn (changed 1000 two_dynamic (erases 2 1 ∷ erases 1 2 ∷ []) (x ∷ [])) (retracts any_k) (3 ∷ 4 ∷ 5 ∷ []) (is_two ∷ []) 2 Exhausted
unfolding unifier keys could_match error_tree fault_tree plain calling_builtin accessing is_reserved control of_terms of_texts of_numbers of_clauses clause_words need used
row_retracted_next = gives_in 60 (changed 1000 two_dynamic (erases 2 1 ∷ erases 1 2 ∷ []) (x ∷ [])) (retracts any_k) (3 ∷ 4 ∷ 5 ∷ []) (is_two ∷ []) 2 Exhausted refl

row_retracted_other : GivesIn (changed 1000 a_dynamic [] []) (retracts (two (codes ":-") any_k failure)) (2 ∷ []) [] 1 Exhausted
unfolding unifier keys could_match error_tree fault_tree plain calling_builtin accessing is_reserved control of_terms of_texts of_numbers of_clauses clause_words need used
row_retracted_other = gives_in 60 (changed 1000 a_dynamic [] []) (retracts (two (codes ":-") any_k failure)) (2 ∷ []) [] 1 Exhausted refl

row_retracted_full : GivesIn (record (changed 30 a_dynamic [] []) { updates = 2 }) (retracts any_k) (2 ∷ 2 ∷ []) [] 1 (Ball (fault_tree (Resource (codes "database")) retract_one))
unfolding unifier keys could_match error_tree fault_tree plain calling_builtin accessing is_reserved control of_terms of_texts of_numbers of_clauses clause_words need used
row_retracted_full = gives_in 60 (record (changed 30 a_dynamic [] []) { updates = 2 }) (retracts any_k) (2 ∷ 2 ∷ []) [] 1 (Ball (fault_tree (Resource (codes "database")) retract_one)) refl

row_retracted_exactly : GivesIn (record (changed 30 a_dynamic (erases 1 1 ∷ []) []) { updates = 3 }) (retracts any_k) (2 ∷ 3 ∷ []) (closed [] ∷ []) 1 Exhausted
unfolding unifier keys could_match error_tree fault_tree plain calling_builtin accessing is_reserved control of_terms of_texts of_numbers of_clauses clause_words need used
row_retracted_exactly = gives_in 60 (record (changed 30 a_dynamic (erases 1 1 ∷ []) []) { updates = 3 }) (retracts any_k) (2 ∷ 3 ∷ []) (closed [] ∷ []) 1 Exhausted refl

row_retracted_called : GivesIn (changed 1000 a_dynamic (erases 1 1 ∷ []) (x ∷ [])) (both (retracts any_k) any_k) (2 ∷ 3 ∷ 3 ∷ []) [] 2 Exhausted
unfolding unifier keys could_match error_tree fault_tree plain calling_builtin accessing is_reserved control of_terms of_texts of_numbers of_clauses clause_words need used
row_retracted_called = gives_in 60 (changed 1000 a_dynamic (erases 1 1 ∷ []) (x ∷ [])) (both (retracts any_k) any_k) (2 ∷ 3 ∷ 3 ∷ []) [] 2 Exhausted refl

row_retracted_static : Refuses a_static (retracts (atom (codes "foo"))) (2 ∷ []) (static (codes "foo") 0) retract_one
unfolding unifier keys could_match error_tree fault_tree plain calling_builtin accessing is_reserved control of_terms of_texts of_numbers of_clauses clause_words need used
row_retracted_static = gives_in 60 (changed 1000 a_static [] []) (retracts (atom (codes "foo"))) (2 ∷ []) [] 1 (Ball (fault_tree (static (codes "foo") 0) retract_one)) refl

row_retracted_undeclared : GivesIn (changed 1000 [] [] []) (retracts (k 1)) (0 ∷ []) [] 1 Exhausted
unfolding unifier keys could_match error_tree fault_tree plain calling_builtin accessing is_reserved control of_terms of_texts of_numbers of_clauses clause_words need used
row_retracted_undeclared = gives_in 60 (changed 1000 [] [] []) (retracts (k 1)) (0 ∷ []) [] 1 Exhausted refl

row_retracted_reserved : Refuses [] (retracts truth) [] (static (codes "true") 0) retract_one
unfolding unifier keys could_match error_tree fault_tree plain calling_builtin accessing is_reserved control of_terms of_texts of_numbers of_clauses clause_words need used
row_retracted_reserved = gives_in 60 (changed 1000 [] [] []) (retracts truth) [] [] 1 (Ball (fault_tree (static (codes "true") 0) retract_one)) refl

row_swept : GivesIn (changed 1000 two_dynamic (erases 1 1 ∷ erases 1 2 ∷ []) (x ∷ [])) (retracts_all any_k) (3 ∷ 4 ∷ 5 ∷ []) (is_free ∷ []) 1 Exhausted
unfolding unifier keys could_match error_tree fault_tree plain calling_builtin accessing is_reserved control of_terms of_texts of_numbers of_clauses clause_words need used
row_swept = gives_in 60 (changed 1000 two_dynamic (erases 1 1 ∷ erases 1 2 ∷ []) (x ∷ [])) (retracts_all any_k) (3 ∷ 4 ∷ 5 ∷ []) (is_free ∷ []) 1 Exhausted refl

row_swept_one : GivesIn (changed 1000 two_dynamic (erases 1 2 ∷ []) []) (retracts_all (k 2)) (3 ∷ 4 ∷ []) (closed [] ∷ []) 1 Exhausted
unfolding unifier keys could_match error_tree fault_tree plain calling_builtin accessing is_reserved control of_terms of_texts of_numbers of_clauses clause_words need used
row_swept_one = gives_in 60 (changed 1000 two_dynamic (erases 1 2 ∷ []) []) (retracts_all (k 2)) (3 ∷ 4 ∷ []) (closed [] ∷ []) 1 Exhausted refl

row_swept_apart : GivesIn (changed 1000 dynamic_pair (erases 1 1 ∷ []) []) (retracts_all (two (codes "f") b x)) (2 ∷ 3 ∷ []) (closed [] ∷ []) 1 Exhausted
unfolding unifier keys could_match error_tree fault_tree plain calling_builtin accessing is_reserved control of_terms of_texts of_numbers of_clauses clause_words need used
row_swept_apart = gives_in 60 (changed 1000 dynamic_pair (erases 1 1 ∷ []) []) (retracts_all (two (codes "f") b x)) (2 ∷ 3 ∷ []) (closed [] ∷ []) 1 Exhausted refl

row_swept_gone : GivesIn (changed 1000 two_dynamic (erases 2 1 ∷ erases 1 2 ∷ []) []) (retracts_all any_k) (3 ∷ 4 ∷ 5 ∷ []) (closed [] ∷ []) 1 Exhausted
unfolding unifier keys could_match error_tree fault_tree plain calling_builtin accessing is_reserved control of_terms of_texts of_numbers of_clauses clause_words need used
row_swept_gone = gives_in 60 (changed 1000 two_dynamic (erases 2 1 ∷ erases 1 2 ∷ []) []) (retracts_all any_k) (3 ∷ 4 ∷ 5 ∷ []) (closed [] ∷ []) 1 Exhausted refl

row_swept_undeclared : GivesIn (changed 1000 [] (declares 1 (codes "k") 1 ∷ []) []) (retracts_all any_k) (0 ∷ 1 ∷ []) (closed [] ∷ []) 1 Exhausted
unfolding unifier keys could_match error_tree fault_tree plain calling_builtin accessing is_reserved control of_terms of_texts of_numbers of_clauses clause_words need used
row_swept_undeclared = gives_in 60 (changed 1000 [] (declares 1 (codes "k") 1 ∷ []) []) (retracts_all any_k) (0 ∷ 1 ∷ []) (closed [] ∷ []) 1 Exhausted refl

row_swept_meanwhile : GivesIn (changed 1000 [] (declares 2 (codes "k") 1 ∷ []) []) (retracts_all (k 1)) (0 ∷ 1 ∷ []) (closed [] ∷ []) 1 Exhausted
unfolding unifier keys could_match error_tree fault_tree plain calling_builtin accessing is_reserved control of_terms of_texts of_numbers of_clauses clause_words need used
row_swept_meanwhile = gives_in 60 (changed 1000 [] (declares 2 (codes "k") 1 ∷ []) []) (retracts_all (k 1)) (0 ∷ 1 ∷ []) (closed [] ∷ []) 1 Exhausted refl

row_swept_static_meanwhile : GivesIn (changed 1000 [] (declared (codes "k") 1 ∷ []) []) (retracts_all (k 1)) (0 ∷ 1 ∷ []) [] 1 (Ball (fault_tree (static (codes "k") 1) retract_all_one))
unfolding unifier keys could_match error_tree fault_tree plain calling_builtin accessing is_reserved control of_terms of_texts of_numbers of_clauses clause_words need used
row_swept_static_meanwhile = gives_in 60 (changed 1000 [] (declared (codes "k") 1 ∷ []) []) (retracts_all (k 1)) (0 ∷ 1 ∷ []) [] 1 (Ball (fault_tree (static (codes "k") 1) retract_all_one)) refl

row_swept_static : Refuses a_static (retracts_all (atom (codes "foo"))) (2 ∷ []) (static (codes "foo") 0) retract_all_one
unfolding unifier keys could_match error_tree fault_tree plain calling_builtin accessing is_reserved control of_terms of_texts of_numbers of_clauses clause_words need used
row_swept_static = gives_in 60 (changed 1000 a_static [] []) (retracts_all (atom (codes "foo"))) (2 ∷ []) [] 1 (Ball (fault_tree (static (codes "foo") 0) retract_all_one)) refl

row_abolished : GivesIn (changed 1000 two_dynamic (erases 1 1 ∷ erases 1 2 ∷ []) []) (both (abolishes (named (codes "k") (number 1))) any_k) (3 ∷ 4 ∷ 5 ∷ 5 ∷ []) [] 2 Exhausted
unfolding unifier keys could_match error_tree fault_tree plain calling_builtin accessing is_reserved control of_terms of_texts of_numbers of_clauses clause_words need used
row_abolished = gives_in 60 (changed 1000 two_dynamic (erases 1 1 ∷ erases 1 2 ∷ []) []) (both (abolishes (named (codes "k") (number 1))) any_k) (3 ∷ 4 ∷ 5 ∷ 5 ∷ []) [] 2 Exhausted refl

row_abolished_undeclared : GivesIn (changed 1000 [] [] []) (abolishes (named (codes "k") (number 1))) (0 ∷ []) (closed [] ∷ []) 1 Exhausted
unfolding unifier keys could_match error_tree fault_tree plain calling_builtin accessing is_reserved control of_terms of_texts of_numbers of_clauses clause_words need used
row_abolished_undeclared = gives_in 60 (changed 1000 [] [] []) (abolishes (named (codes "k") (number 1))) (0 ∷ []) (closed [] ∷ []) 1 Exhausted refl

row_abolished_static : Refuses a_static (abolishes (named (codes "foo") (number 0))) (2 ∷ []) (static (codes "foo") 0) abolish_one
unfolding unifier keys could_match error_tree fault_tree plain calling_builtin accessing is_reserved control of_terms of_texts of_numbers of_clauses clause_words need used
row_abolished_static = gives_in 60 (changed 1000 a_static [] []) (abolishes (named (codes "foo") (number 0))) (2 ∷ []) [] 1 (Ball (fault_tree (static (codes "foo") 0) abolish_one)) refl

row_abolished_unbound : Refuses a_static (abolishes (named (codes "foo") x)) [] Instantiation abolish_one
unfolding unifier keys could_match error_tree fault_tree plain calling_builtin accessing is_reserved control of_terms of_texts of_numbers of_clauses clause_words need used
row_abolished_unbound = gives_in 60 (changed 1000 a_static [] []) (abolishes (named (codes "foo") x)) [] [] 1 (Ball (fault_tree Instantiation abolish_one)) refl

row_abolished_no_arity : Refuses a_static (abolishes (named (codes "foo") a)) [] (OfType (codes "integer") a) abolish_one
unfolding unifier keys could_match error_tree fault_tree plain calling_builtin accessing is_reserved control of_terms of_texts of_numbers of_clauses clause_words need used
row_abolished_no_arity = gives_in 60 (changed 1000 a_static [] []) (abolishes (named (codes "foo") a)) [] [] 1 (Ball (fault_tree (OfType (codes "integer") a) abolish_one)) refl

row_abolished_no_indicator : Refuses a_static (abolishes (atom (codes "foo"))) [] (OfType (codes "predicate_indicator") (atom (codes "foo"))) abolish_one
unfolding unifier keys could_match error_tree fault_tree plain calling_builtin accessing is_reserved control of_terms of_texts of_numbers of_clauses clause_words need used
row_abolished_no_indicator = gives_in 60 (changed 1000 a_static [] []) (abolishes (atom (codes "foo"))) [] [] 1 (Ball (fault_tree (OfType (codes "predicate_indicator") (atom (codes "foo"))) abolish_one)) refl

pub has_rows : HasRows
has_rows = record {
  true_goal = row_true_goal;
  each_fact = row_each_fact;
  one_fact = row_one_fact;
  middle = row_middle;
  through_a_rule = row_through_a_rule;
  budget_spent = row_budget_spent;
  front_left = row_front_left;
  front_missing = row_front_missing;
  front_below = row_front_below;
  front_beyond = row_front_beyond;
  occurring = row_occurring;
  two_free = row_two_free;
  undeclared = row_undeclared;
  alternatives = row_alternatives;
  failing = row_failing;
  cut_after = row_cut_after;
  cut_after_exactly = row_cut_after_exactly;
  cut_after_spent = row_cut_after_spent;
  cut_left = row_cut_left;
  cut_right = row_cut_right;
  cut_in_clause = row_cut_in_clause;
  cut_outside = row_cut_outside;
  cut_in_call = row_cut_in_call;
  cut_in_called = row_cut_in_called;
  added_to_atom = row_added_to_atom;
  added_to_compound = row_added_to_compound;
  added_to_control = row_added_to_control;
  added_to_conjunction = row_added_to_conjunction;
  call_of_eight = row_call_of_eight;
  call_of_nine = row_call_of_nine;
  called_later = row_called_later;
  called_now = row_called_now;
  unbound = row_unbound;
  integer_goal = row_integer_goal;
  integer_in_body = row_integer_in_body;
  free_culprit = row_free_culprit;
  added_to_integer = row_added_to_integer;
  added_to_unbound = row_added_to_unbound;
  added_to_either = row_added_to_either;
  added_makes_no_body = row_added_makes_no_body;
  too_many = row_too_many;
  denied_integer = row_denied_integer;
  denied_unbound = row_denied_unbound;
  denied_equal = row_denied_equal;
  denied_fail = row_denied_fail;
  denied_twice = row_denied_twice;
  denied_alternatives = row_denied_alternatives;
  cut_in_denied = row_cut_in_denied;
  denied_closed = row_denied_closed;
  else_taken = row_else_taken;
  else_gone = row_else_gone;
  then_fails = row_then_fails;
  then_alone = row_then_alone;
  condition_fails = row_condition_fails;
  first_answer = row_first_answer;
  first_answer_of_two = row_first_answer_of_two;
  then_left_open = row_then_left_open;
  bound_condition = row_bound_condition;
  cut_in_condition = row_cut_in_condition;
  cut_in_failing_condition = row_cut_in_failing_condition;
  cut_in_then = row_cut_in_then;
  cut_in_else = row_cut_in_else;
  nested = row_nested;
  once_of_two = row_once_of_two;
  once_repeat = row_once_repeat;
  once_member = row_once_member;
  once_integer = row_once_integer;
  cut_after_repeat = row_cut_after_repeat;
  repeat_spent = row_repeat_spent;
  repeat_answers = row_repeat_answers;
  catch_b = row_catch_b;
  catch_spent = row_catch_spent;
  catch_left = row_catch_left;
  catch_exited = row_catch_exited;
  catch_undone = row_catch_undone;
  catch_outer = row_catch_outer;
  catch_recovery = row_catch_recovery;
  catch_rethrown = row_catch_rethrown;
  catch_error = row_catch_error;
  catch_copy = row_catch_copy;
  cut_in_catch = row_cut_in_catch;
  catch_integer = row_catch_integer;
  catch_unbound = row_catch_unbound;
  catch_in_denied = row_catch_in_denied;
  throw_unbound = row_throw_unbound;
  halted = row_halted;
  halted_with = row_halted_with;
  halted_in_catch = row_halted_in_catch;
  halt_unbound = row_halt_unbound;
  halt_atom = row_halt_atom;
  cut_in_lone_condition = row_cut_in_lone_condition;
  most_arguments = row_most_arguments;
  catch_failing = row_catch_failing;
  catch_failing_later = row_catch_failing_later;
  catch_out_of_denied = row_catch_out_of_denied;
  catch_out_of_condition = row_catch_out_of_condition;
  catch_out_of_once = row_catch_out_of_once;
  catch_goes_on = row_catch_goes_on;
  catch_number = row_catch_number;
  found_none = row_found_none;
  found_two = row_found_two;
  found_two_exactly = row_found_two_exactly;
  found_two_spent = row_found_two_spent;
  found_nested = row_found_nested;
  found_free = row_found_free;
  found_free_twice = row_found_free_twice;
  found_copy = row_found_copy;
  found_undone = row_found_undone;
  found_in_denied = row_found_in_denied;
  found_denied = row_found_denied;
  denied_in_found = row_denied_in_found;
  found_ball = row_found_ball;
  found_caught = row_found_caught;
  caught_in_found = row_caught_in_found;
  cut_in_found = row_cut_in_found;
  cut_found = row_cut_found;
  found_closed = row_found_closed;
  found_bound = row_found_bound;
  found_other_length = row_found_other_length;
  found_no_list = row_found_no_list;
  found_integer = row_found_integer;
  found_unbound = row_found_unbound;
  added = row_added;
  added_exactly = row_added_exactly;
  added_full = row_added_full;
  declared_full = row_declared_full;
  added_beside = row_added_beside;
  added_static = row_added_static;
  added_reserved = row_added_reserved;
  added_no_body = row_added_no_body;
  added_unbound = row_added_unbound;
  added_called = row_added_called;
  added_meanwhile = row_added_meanwhile;
  added_first = row_added_first;
  shown = row_shown;
  shown_body = row_shown_body;
  shown_no_body = row_shown_no_body;
  shown_each = row_shown_each;
  shown_undeclared = row_shown_undeclared;
  shown_static = row_shown_static;
  shown_reserved = row_shown_reserved;
  shown_unbound = row_shown_unbound;
  shown_integer = row_shown_integer;
  shown_unbound_first = row_shown_unbound_first;
  shown_integer_body = row_shown_integer_body;
  retracted = row_retracted;
  retracted_gone = row_retracted_gone;
  retracted_next = row_retracted_next;
  retracted_other = row_retracted_other;
  retracted_full = row_retracted_full;
  retracted_exactly = row_retracted_exactly;
  retracted_called = row_retracted_called;
  retracted_static = row_retracted_static;
  retracted_undeclared = row_retracted_undeclared;
  retracted_reserved = row_retracted_reserved;
  swept = row_swept;
  swept_one = row_swept_one;
  swept_apart = row_swept_apart;
  swept_gone = row_swept_gone;
  swept_undeclared = row_swept_undeclared;
  swept_meanwhile = row_swept_meanwhile;
  swept_static_meanwhile = row_swept_static_meanwhile;
  swept_static = row_swept_static;
  abolished = row_abolished;
  abolished_undeclared = row_abolished_undeclared;
  abolished_static = row_abolished_static;
  abolished_unbound = row_abolished_unbound;
  abolished_no_arity = row_abolished_no_arity;
  abolished_no_indicator = row_abolished_no_indicator;
}
