-- The clauses of a procedure are looked up and erased within one step.
use Rattle.std.proofs.Common.{◌≡◌, ℕ, zero, suc, ◌+◌, ◌*◌, ◌≤◌, List, [], ◌∷◌, ◌++◌, length, take, refl, sym, ap, ◌∙◌, arith, subst, append_assoc, Option}
use Rattle.std.specs.Prelude.{All, Contains, map}
use Rattle.std.specs.List.{sum_by}
use Rattle.prolog_terms.specs.Tree.{Tree}
use Rattle.prolog_terms.specs.declared.entry.Entry.{Entry}
use Rattle.call_patterns.specs.Keys.{GoalKeys, keys}
use Rattle.journal_base.specs.Goals.{Goal}
use Rattle.journals.specs.Journal.{Journal}
use Rattle.journal_base.specs.Looks.{TellsOnly, cause_number, CountsLook, CountsVisits, most_raised, scans_of, kept_of, wants_of}
use Rattle.journal_base.specs.declared.cause.How.{How}
use Rattle.journal_base.specs.declared.cause.How.TheVariants.{Indexed, Scanned}
use Rattle.journal_base.specs.declared.cause.Cause.{Cause}
use Rattle.journal_base.specs.declared.cause.Cause.TheVariants.{Plain, Few, Crowded, Claimed, Barred, NoPlace, Passed, NoMemory, Built}
use Rattle.journal_base.specs.declared.tally.Tally.{Tally}
use Rattle.wam_machine.specs.States.{State, Outcome, Goes, Setting, Look, Deed, Looked, Updated, Candidate, taking}
use Rattle.wam_machine.specs.Procedures.{sweeping, swept_keys, candidate_clauses}
use Rattle.wam_machine.specs.Cursors.{IsOpened, AreNamed, goal_of, clauses_left}
use Rattle.wam_machine.specs.Sweeps.{IsSweep, Sweeps}
use Rattle.wam_machine.specs.Terms.{Left, said}
use Rattle.wam_machine.specs.View.{state_of, calls, all_visits, aheads, Works, GoesOn, IsHeldIn}
use Rattle.wam_machine.specs.declared.state.Machine.{Machine}
use Rattle.wam_machine.proofs.Asked.{front_taken}
use Rattle.wam_machine.proofs.AskedMoves.{no_looks, all_made}

one : {A : Type 0} (f : A → ℕ) (x : A) → sum_by f (x ∷ []) ≡ f x
one f x = plus (f x)
  where
    plus : (n : ℕ) → 0 + n ≡ n
    plus n = omega arith

-- a cause without a number but 0
no_cause : (c : Cause) → Contains (0 ∷ []) (cause_number c) → cause_number c ≡ 0
no_cause c (zero, lt, e) = sym e
no_cause c (suc k, lt, e) = absurd (omega (arith, lt))

plain_cause : (c : Cause) → cause_number c ≡ 0 → Scanned c ≡ Scanned Plain
plain_cause Plain h = refl
plain_cause Few h = absurd (omega (arith, h))
plain_cause Crowded h = absurd (omega (arith, h))
plain_cause (Claimed w) h = absurd (omega (arith, h))
plain_cause (Barred m) h = absurd (omega (arith, h))
plain_cause NoPlace h = absurd (omega (arith, h))
plain_cause (Passed w) h = absurd (omega (arith, h))
plain_cause NoMemory h = absurd (omega (arith, h))
plain_cause (Built m) h = absurd (omega (arith, h))

-- where `Plain` alone may come, each look scans for it
only_plain : (how : How) → TellsOnly (0 ∷ []) how → how ≡ Scanned Plain
only_plain (Indexed by) h = absurd (h.0 refl)
only_plain (Scanned c) h = plain_cause c (no_cause c h.1)

module _ {C : Type 0} (rest : C → Goal → Journal → List ℕ) (may : C → Goal → Journal → ℕ) (at : C → ℕ) (ahead : C → ℕ) (causes : List ℕ) (made : List Entry) where
  pub swept_whole : (x : Setting) (goal : Option Tree) (m mid new : Machine C) (c d : Left C) (how : How) (from p : ℕ) (with : ℕ → Journal → State → Outcome)
      → mid.front ≡ at c.cursor → m.front ≤ at c.cursor → from ≤ at c.cursor → at c.cursor ≤ length x.journal
      → IsSweep x goal from p with → c.procedure ≡ p → keys c.goal ≡ swept_keys goal
      → mid.mode ≡ m.mode → said mid.terms ≡ said m.terms → mid.steps ≡ m.steps → mid.events.items ≡ m.events.items → mid.fronts.items ≡ m.fronts.items ++ mid.front ∷ []
      → IsOpened rest may at causes m.front x.journal c how m.tally mid.tally → CountsLook m.tally mid.tally how → m.tally.visits + ahead c.cursor ≤ mid.tally.visits
      → Sweeps rest may at ahead made x goal c d mid new → CountsVisits mid.tally new.tally → calls new ≡ calls m → IsHeldIn rest may at x.journal m.tally (calls m)
      → GoesOn rest may at ahead causes made (λ s. taking x s (with s.front)) x.journal m new
  swept_whole x goal m mid new c d how from p with is low above high sweep number wanted mode terms steps events fronts opened counted first swept tally stack held =
      let j : Journal = x.journal in
      let f : ℕ = at c.cursor in
      let look : Look = record { before = m.front; front = f; call = goal_of c } in
      let looks : new.tally.looks ≡ m.tally.looks + 1 = ap (λ (u : Tally). u.looks) tally ∙ counted.looks in
      let visits : all_visits may at j (calls new) ≡ all_visits may at j (calls m) = ap (all_visits may at j) stack in
      let ahead_is : aheads ahead (calls new) ≡ aheads ahead (calls m) = ap (aheads ahead) stack in
      let works : Works may at ahead causes j m.tally new.tally (calls m) (calls new) (look ∷ []) (how ∷ []) swept.given = record {
        fair = (opened.fair, tt);
        looks = looks;
        scans = ap (λ (u : Tally). u.scans) tally ∙ counted.scans ∙ ap (λ n. m.tally.scans + n) (sym (one scans_of how));
        kept = ap (λ (u : Tally). u.kept) tally ∙ counted.kept ∙ ap (λ n. m.tally.kept + n) (sym (one kept_of how));
        wants = ap (λ (u : Tally). u.wants) tally ∙ counted.wants ∙ ap (λ n. m.tally.wants + n) (sym (one wants_of how));
        most = omega (arith, swept.most, visits, opened.most);
        least = omega (arith, swept.least, ahead_is, first);
        unbuilt = λ plain.
            let built = counted.unbuilt (only_plain how (subst (λ cs. TellsOnly cs how) plain opened.fair.told)) in
            (ap (λ (u : Tally). u.built) tally ∙ built.0, ap (λ (u : Tally). u.indexes) tally ∙ built.1);
      } in
      record {
        added = f ∷ swept.added;
        deeds = Looked look ∷ map Updated made;
        hows = how ∷ [];
        given = swept.given;
        made_is = all_made made;
        fronts_are = swept.fronts_are ∙ ap (λ (l : List ℕ). l ++ swept.added) (fronts ∙ ap (λ n. m.fronts.items ++ n ∷ []) is) ∙ append_assoc m.fronts.items (f ∷ []) swept.added;
        goes = λ ls tried fs.
            front_taken x (state_of rest at j m ls tried (f ∷ (swept.added ++ fs))) f (swept.added ++ fs) (with m.front) refl low high
            ∙ sweep m.front f (record (state_of rest at j m ls tried (swept.added ++ fs)) { front = f }) above high
            ∙ ap (λ (q : ℕ). sweeping x goal (candidate_clauses (take f j) q (swept_keys goal)) (record (state_of rest at j m ls tried (swept.added ++ fs)) { front = f; deeds = ls ++ Looked (record { before = m.front; front = f; call = record { procedure = q; keys = swept_keys goal } }) ∷ [] })) (sym number)
            ∙ ap (λ (ks : GoalKeys). sweeping x goal (candidate_clauses (take f j) c.procedure ks) (record (state_of rest at j m ls tried (swept.added ++ fs)) { front = f; deeds = ls ++ Looked (record { before = m.front; front = f; call = record { procedure = c.procedure; keys = ks } }) ∷ [] })) (sym wanted)
            ∙ ap (λ (cs : List Candidate). sweeping x goal cs (record (state_of rest at j m ls tried (swept.added ++ fs)) { front = f; deeds = ls ++ Looked look ∷ [] })) (sym opened.clauses)
            ∙ ap (sweeping x goal (clauses_left rest at j c)) (again (ls ++ Looked look ∷ []) tried (swept.added ++ fs))
            ∙ swept.goes (ls ++ Looked look ∷ []) tried fs
            ∙ ap (λ (l : List Deed). Goes (state_of rest at j new l (tried + swept.given) fs)) (append_assoc ls (Looked look ∷ []) (map Updated made));
        works = subst (λ (l : List Look). Works may at ahead causes j m.tally new.tally (calls m) (calls new) (look ∷ l) (how ∷ []) swept.given) (sym (no_looks made)) works;
        held = record {
          named = subst (All (AreNamed rest at j)) (sym stack) held.named;
          raised = subst (λ n. new.tally.visits + all_visits may at j (calls new) ≤ n * most_raised) (sym looks) (omega (arith, swept.most, visits, opened.raised, held.raised));
        };
      }
    where
      again : (ls : List Deed) (tried : ℕ) (fs : List ℕ) → record (state_of rest at x.journal m ls tried fs) { front = at c.cursor } ≡ state_of rest at x.journal mid ls tried fs
      again ls tried fs = rw (mode, terms, steps, events, is) refl
