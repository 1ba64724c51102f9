-- A procedure is called.
use Rattle.std.proofs.Common.{◌≡◌, ℕ, suc, zero, ◌+◌, ◌*◌, ◌≤◌, List, [], ◌∷◌, ◌++◌, length, take, refl, sym, ap, ◌∙◌, arith, subst, append_assoc, true, Some, None}
use Rattle.std.specs.Prelude.{Contains, nat_le, map}
use Rattle.std.proofs.lemmas.Bool.Decides.{nat_tests}
use Rattle.std.specs.List.{sum_by}
use Rattle.std.proofs.lemmas.List.Sums.{sum_by_push}
use Rattle.prolog_terms.specs.declared.entry.Entry.{Entry}
use Rattle.prolog_terms.specs.declared.entry.Indicator.{Indicator}
use Rattle.journal_base.specs.Goals.{Goal}
use Rattle.journals.specs.Journal.{Journal, number_of}
use Rattle.journal_base.specs.Looks.{TellsOnly, cause_number, CountsLook, most_raised, scans_of, kept_of, wants_of}
use Rattle.journal_base.specs.declared.cause.How.{How}
use Rattle.journal_base.specs.declared.cause.How.TheVariants.{Indexed, Scanned}
use Rattle.journal_base.specs.declared.cause.Cause.{Cause}
use Rattle.journal_base.specs.declared.cause.Cause.TheVariants.{Plain, Few, Crowded, Claimed, Barred, NoPlace, Passed, NoMemory, Built}
use Rattle.journal_base.specs.declared.tally.Tally.{Tally}
use Rattle.prolog_terms.specs.Tree.{Tree}
use Rattle.prolog_terms.specs.Faults.{fault_tree}
use Rattle.prolog_terms.specs.declared.fault.Fault.TheVariants.{Existence}
use Rattle.wam_machine.specs.States as spec
use Rattle.wam_machine.specs.States.{State, Outcome, Goes, Next, Raising, Setting, Look, Deed, Looked, Updated, Enter, taking}
use Rattle.wam_machine.specs.Procedures.{called, calling, trying}
use Rattle.wam_machine.specs.Cursors.{IsOpened, goal_of, clauses_left, visits_left}
use Rattle.wam_machine.specs.View.{stack_of, mode_of, state_from, state_with, state_of, calls, all_visits, aheads, GoesOn, Works, IsHeldIn, IsSearch, Tries, KeepsCounts}
use Rattle.wam_machine.specs.Terms.{Left, Said, said, calls_in}
use Rattle.wam_machine.specs.declared.state.Machine.{Machine}
use Rattle.wam_machine.specs.declared.run.Event.{Event}
use Rattle.wam_machine.proofs.AskedMoves.{no_looks, all_made}
use Rattle.wam_machine.proofs.Named.{procedure_stays}

one : {A : Type 0} (f : A → ℕ) (x : A) → sum_by f (x ∷ []) ≡ f x
one f x = plus (f x)
  where
    plus : (n : ℕ) → 0 + n ≡ n
    plus n = omega arith

-- a cause without a number but 0
no_cause : (c : Cause) → Contains (0 ∷ []) (cause_number c) → cause_number c ≡ 0
no_cause c (zero, lt, e) = sym e
no_cause c (suc k, lt, e) = absurd (omega (arith, lt))

plain_cause : (c : Cause) → cause_number c ≡ 0 → Scanned c ≡ Scanned Plain
plain_cause Plain h = refl
plain_cause Few h = absurd (omega (arith, h))
plain_cause Crowded h = absurd (omega (arith, h))
plain_cause (Claimed w) h = absurd (omega (arith, h))
plain_cause (Barred m) h = absurd (omega (arith, h))
plain_cause NoPlace h = absurd (omega (arith, h))
plain_cause (Passed w) h = absurd (omega (arith, h))
plain_cause NoMemory h = absurd (omega (arith, h))
plain_cause (Built m) h = absurd (omega (arith, h))

-- where `Plain` alone may come, each look scans for it
only_plain : (how : How) → TellsOnly (0 ∷ []) how → how ≡ Scanned Plain
only_plain (Indexed by) h = absurd (h.0 refl)
only_plain (Scanned c) h = plain_cause c (no_cause c h.1)

-- ---- a call, as the definition has it

at_most : (m n : ℕ) → m ≤ n → nat_le m n ≡ true
at_most m n h = grind (arith, nat_tests)

module _ (x : Setting) (goals : List Next) (stack : List spec.Choice) (bindings : ℕ → Tree) (fresh : ℕ) (steps : ℕ) (events : List Event) (front : ℕ) (looks : List Deed) (tried : ℕ) (m : spec.Mode) where
  -- a front is taken
  taken_at : (with : Journal → State → Outcome) (f : ℕ) (fs : List ℕ) → front ≤ f → f ≤ length x.journal →
      taking x (state_from goals stack bindings fresh m steps events front looks tried (f ∷ fs)) with ≡ with (take f x.journal) (state_from goals stack bindings fresh m steps events f looks tried fs)
  taken_at with f fs low high = rw (at_most front f low, at_most f (length x.journal) high) refl

  -- the call of a procedure that isn't declared
  pub call_missing : (goal : Tree) (i : Indicator) (ball : Tree) (f : ℕ) (fs : List ℕ) → front ≤ f → f ≤ length x.journal → number_of (take f x.journal) i ≡ None → ball ≡ fault_tree (Existence i) i →
      calling x (state_from goals stack bindings fresh m steps events front looks tried (f ∷ fs)) goal i ≡ Goes (state_from goals stack bindings fresh (Raising ball) steps events f looks tried fs)
  call_missing goal i ball f fs low high absent is =
      taken_at (λ seen t. called x goal i front seen t (number_of seen i)) f fs low high ∙ rw (absent, is) refl

-- that of one that is searches for its clauses
pub searches_called : (x : Setting) (goal : Tree) (i : Indicator) (from p : ℕ) → number_of (take from x.journal) i ≡ Some p → IsSearch x Enter goal from p (λ before seen s. called x goal i before seen s (number_of seen i))
searches_called x goal i from p found before n s low high = ap (called x goal i before (take n x.journal) s) (procedure_stays x.journal from n i p low found)

-- ---- as the engine does it

module _ {C : Type 0} (rest : C → Goal → Journal → List ℕ) (may : C → Goal → Journal → ℕ) (at : C → ℕ) (ahead : C → ℕ) (causes : List ℕ) where
  pub looked : (x : Setting) (m mid new : Machine C) (c : Left C) (how : How) (made : List Entry) (from : ℕ) (with : ℕ → Journal → State → Outcome)
      → mid.front ≡ at c.cursor → m.front ≤ at c.cursor → from ≤ at c.cursor → at c.cursor ≤ length x.journal
      → IsSearch x c.used c.goal from c.procedure with
      → mid.mode ≡ m.mode → said mid.terms ≡ said m.terms → mid.steps ≡ m.steps → mid.events.items ≡ m.events.items → mid.fronts.items ≡ m.fronts.items ++ mid.front ∷ []
      → IsOpened rest may at causes m.front x.journal c how m.tally mid.tally → CountsLook m.tally mid.tally how → m.tally.visits + ahead c.cursor ≤ mid.tally.visits
      → Tries rest may at ahead made x c mid new → KeepsCounts mid new → IsHeldIn rest may at x.journal m.tally (calls m)
      → GoesOn rest may at ahead causes made (λ s. taking x s (with s.front)) x.journal m new
  looked x m mid new c how made from with is low after high search mode terms steps events fronts opened counted first tries counts held =
      let j : Journal = x.journal in
      let t : Said C = said m.terms in
      let f : ℕ = at c.cursor in
      let look : Look = record { before = m.front; front = f; call = goal_of c } in
      let stack : calls mid ≡ calls m = ap (λ (u : Said C). calls_in u.stack) terms in
      let looks : new.tally.looks ≡ m.tally.looks + 1 = ap (λ (u : Tally). u.looks) counts.tally ∙ counted.looks in
      let all : all_visits may at j (calls mid ++ c ∷ []) ≡ all_visits may at j (calls m) + visits_left may at j c =
      ap (λ cs. all_visits may at j (cs ++ c ∷ [])) stack ∙ sum_by_push (visits_left may at j) (calls m) c in
      let aheads_are : aheads ahead (calls mid ++ c ∷ []) ≡ aheads ahead (calls m) + ahead c.cursor =
      ap (λ cs. aheads ahead (cs ++ c ∷ [])) stack ∙ sum_by_push (λ (d : Left C). ahead d.cursor) (calls m) c in
      record {
        added = f ∷ tries.added;
        deeds = Looked look ∷ map Updated made;
        hows = how ∷ [];
        given = tries.given;
        made_is = all_made made;
        fronts_are =
            tries.fronts_are ∙ ap (λ l. l ++ tries.added) fronts ∙ ap (λ (n : ℕ). (m.fronts.items ++ n ∷ []) ++ tries.added) is
            ∙ append_assoc m.fronts.items (f ∷ []) tries.added;
        goes = λ ls tried fs.
            taken_at x t.goals (stack_of rest at j t.stack) t.bindings t.fresh m.steps m.events.items m.front ls tried (mode_of m.mode) (with m.front) f (tries.added ++ fs) low high
            ∙ search m.front f (state_with rest at j t (mode_of m.mode) m.steps m.events.items f ls tried (tries.added ++ fs)) after high
            ∙ ap (λ cs. trying x c.used c.goal cs (state_with rest at j t (mode_of m.mode) m.steps m.events.items f (ls ++ Looked look ∷ []) tried (tries.added ++ fs))) (sym opened.clauses)
            ∙ ap (trying x c.used c.goal (clauses_left rest at j c)) (again (ls ++ Looked look ∷ []) tried (tries.added ++ fs))
            ∙ tries.goes (ls ++ Looked look ∷ []) tried fs
            ∙ ap (λ (ds : List Deed). Goes (state_of rest at j new ds (tried + tries.given) fs)) (append_assoc ls (Looked look ∷ []) (map Updated made));
        works = subst (λ (l : List Look). Works may at ahead causes j m.tally new.tally (calls m) (calls new) (look ∷ l) (how ∷ []) tries.given) (sym (no_looks made)) (record {
          fair = (opened.fair, tt);
          looks = looks;
          scans = ap (λ (u : Tally). u.scans) counts.tally ∙ counted.scans ∙ ap (λ n. m.tally.scans + n) (sym (one scans_of how));
          kept = ap (λ (u : Tally). u.kept) counts.tally ∙ counted.kept ∙ ap (λ n. m.tally.kept + n) (sym (one kept_of how));
          wants = ap (λ (u : Tally). u.wants) counts.tally ∙ counted.wants ∙ ap (λ n. m.tally.wants + n) (sym (one wants_of how));
          most = omega (arith, tries.most, all, opened.most);
          least = omega (arith, tries.least, aheads_are, first);
          unbuilt = λ plain.
              let built = counted.unbuilt (only_plain how (subst (λ cs. TellsOnly cs how) plain opened.fair.told)) in
              (ap (λ (u : Tally). u.built) counts.tally ∙ built.0, ap (λ (u : Tally). u.indexes) counts.tally ∙ built.1);
        });
        held = record {
          named = tries.named;
          raised = subst (λ n. new.tally.visits + all_visits may at j (calls new) ≤ n * most_raised) (sym looks) (omega (arith, tries.most, all, opened.raised, held.raised));
        };
      }
    where
      again : (ls : List Deed) (tried : ℕ) (fs : List ℕ)
          → state_with rest at x.journal (said m.terms) (mode_of m.mode) m.steps m.events.items (at c.cursor) ls tried fs ≡ state_of rest at x.journal mid ls tried fs
      again ls tried fs = rw (mode, terms, steps, events, is) refl
