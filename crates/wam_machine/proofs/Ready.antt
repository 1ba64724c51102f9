-- The engine stays ready while the base grows.
use Rattle.std.proofs.Common.{◌≡◌, ℕ, zero, suc, ◌<◌, List, [], ◌∷◌, length, refl, sym, ap, ◌∙◌, arith, subst, Option, Some, None}
use Rattle.std.specs.Prelude.{slice_get, option_map}
use Rattle.prolog_terms.specs.declared.entry.Indicator.{Indicator}
use Rattle.prolog_terms.specs.declared.entry.Kind.{Kind}
use Rattle.journal_base.specs.Goals.{Goal}
use Rattle.journals.specs.Journal.{Journal, number_of, procedure_named, procedures}
use Rattle.std.proofs.lemmas.List.Elements.{All-nil}
use Rattle.journal_base.specs.View.{View, IsSound, Looks, Out, none_out}
use Rattle.wam_machine.specs.Cursors.{goal_of, AreNamed}
use Rattle.wam_machine.specs.Terms.{Said, calls_in}
use Rattle.wam_machine.specs.View.{IsReady, IsBeginning, AreKept, calls}
use Rattle.wam_machine.specs.declared.run.Goal.{Goal as Started}
use Rattle.wam_machine.specs.declared.state.Machine.{Machine}
use Rattle.wam_machine.proofs.Begins.{begins_before, below_on, below_seen}
use Rattle.wam_machine.proofs.Kept.{kept_on}
use Rattle.wam_machine.proofs.Named.{procedure_within}

pub ready_on : {C : Type 0} (v w : View) (serves serves_after : C → Goal → Type 0) (group : C → ℕ) (out after : Out) (rest : C → Goal → Journal → List ℕ) (may : C → Goal → Journal → ℕ) (at : C → ℕ)
    (budget : ℕ) (m : Machine C) → IsReady v serves group out rest may at budget m → Looks v w → ((c : C) (g : Goal) → serves c g → serves_after c g) → after ≡ out
    → IsReady w serves_after group after rest may at budget m
ready_on v w serves serves_after group out after rest may at budget m r l others same = record {
  sound = l.grows.sound;
  terms = r.terms;
  kept = kept_on group serves out (calls m) serves_after after r.kept others same;
  held = record {
    within = r.held.within;
    few = r.held.few;
    reached = omega (arith, r.held.reached, l.grows.front);
    below = below_on v w m.front l r.held.below;
    looks = r.held.looks;
    scans = r.held.scans;
    kept = r.held.kept;
    wants = r.held.wants;
    built = r.held.built;
    indexes = r.held.indexes;
  };
  each = λ j b. r.each j (begins_before v w j l.grows b);
}

-- ---- procedures that are found, or not

told : Journal → ℕ → Option (Indicator × Kind) → Option (ℕ × Kind)
told J p o = option_map (λ d. (p, d.1)) o

named_at : Journal → Indicator → Option ℕ → Option (ℕ × Kind)
named_at J i None = None
named_at J i (Some p) = told J p (slice_get (procedures J) p)

named_is : (J : Journal) (i : Indicator) (o : Option ℕ) → number_of J i ≡ o → procedure_named J i ≡ named_at J i o
unfolding named_at told
named_is J i None h = rw h refl
named_is J i (Some p) h = rw h refl

pub absent_number : (J : Journal) (i : Indicator) → procedure_named J i ≡ None → number_of J i ≡ None
unfolding named_at told
absent_number J i absent = go (number_of J i) refl
  where
    go : (o : Option ℕ) → number_of J i ≡ o → o ≡ None
    go None h = refl
    go (Some p) h = none (slice_get (procedures J) p) refl
      where
        none : (d : Option (Indicator × Kind)) → slice_get (procedures J) p ≡ d → Some p ≡ None
        none None e = absurd (missing (procedures J) p (procedure_within J i p h) e)
          where
            missing : (xs : List (Indicator × Kind)) (n : ℕ) → n < length xs → slice_get xs n ≡ None → ⊥
            missing [] n lt e = omega arith
            missing (x ∷ xs) zero lt e = let t : Some x ≡ None = e in absurd cc
            missing (x ∷ xs) (suc n) lt e = missing xs n (omega arith) e
        none (Some d) e = let t : Some (p, d.1) ≡ None = sym (named_is J i (Some p) h ∙ ap (told J p) e) ∙ absent in absurd cc

pub found_number : (J : Journal) (i : Indicator) (p : ℕ) (k : Kind) → procedure_named J i ≡ Some (p, k) → number_of J i ≡ Some p
unfolding named_at told
found_number J i p k found = go (number_of J i) refl
  where
    go : (o : Option ℕ) → number_of J i ≡ o → o ≡ Some p
    go None h = let t : ◌≡◌ {A = Option (ℕ × Kind)} None (Some (p, k)) = sym (named_is J i None h) ∙ found in absurd cc
    go (Some q) h = at_q (slice_get (procedures J) q) refl
      where
        at_q : (d : Option (Indicator × Kind)) → slice_get (procedures J) q ≡ d → Some q ≡ Some p
        at_q None e = let t : ◌≡◌ {A = Option (ℕ × Kind)} None (Some (p, k)) = sym (named_is J i (Some q) h ∙ ap (told J q) e) ∙ found in absurd cc
        at_q (Some d) e = let t : Some (q, d.1) ≡ Some (p, k) = sym (named_is J i (Some q) h ∙ ap (told J q) e) ∙ found in let u : (q, d.1) ≡ (p, k) = cc in ap (λ (y : ℕ × Kind). Some y.0) u

-- ---- before the first move

-- no call is left
no_calls : {C : Type 0} (start : ℕ) (goal : Started) (m : Machine C) → IsBeginning goal start m → calls m ≡ []
no_calls start goal m b = ap (λ (t : Said _). calls_in t.stack) b.said_is

pub ready_at_first : {C : Type 0} (v : View) (serves : C → Goal → Type 0) (group : C → ℕ) (out : Out) (rest : C → Goal → Journal → List ℕ) (may : C → Goal → Journal → ℕ) (at : C → ℕ)
    (budget start : ℕ) (goal : Started) (m : Machine C) → IsSound v → IsBeginning goal start m → start ≡ v.seen → out ≡ none_out → IsReady v serves group out rest may at budget m
ready_at_first v serves group out rest may at budget start goal m sound b is none =
    let empty : calls m ≡ [] = no_calls start goal m b in
    record {
      sound = sound;
      terms = b.terms;
      kept = subst (AreKept serves group out) (sym empty) (record { serve = All-nil (λ c. serves c.cursor (goal_of c)); out_is = none });
      held = rw (b.steps, b.front, empty, b.tally) (record {
        within = omega arith;
        few = omega arith;
        reached = omega (arith, is);
        below = below_seen v start sound is;
        looks = omega arith;
        scans = omega arith;
        kept = omega arith;
        wants = omega arith;
        built = omega arith;
        indexes = omega arith;
      });
      each = λ j s. rw (b.tally, empty) (record { named = All-nil (AreNamed rest at j); raised = omega arith });
    }
