-- Each move of the engine is the machine's.
use Rattle.std.proofs.Common.{◌≡◌, ℕ, ◌+◌, List, [], ◌++◌, refl, sym, ap, ◌∙◌, arith, subst, Option, Some, None, append-nil}
use Rattle.journal_base.specs.Goals.{Goal}
use Rattle.journals.specs.Journal.{Journal}
use Rattle.journal_base.specs.declared.tally.Tally.{Tally}
use Rattle.prolog_terms.specs.declared.entry.Entry.{Entry}
use Rattle.wam_machine.specs.States.{State, Setting, Outcome, Goes, Deed, looks_in}
use Rattle.wam_machine.specs.Terms.{Left}
use Rattle.wam_machine.specs.View.{calls, state_of, Works, GoesOn, Does, IsHeldIn}
use Rattle.wam_machine.specs.declared.run.RunEnd.{RunEnd}
use Rattle.wam_machine.specs.declared.state.Machine.{Machine}

module _ {C : Type 0} (rest : C → Goal → Journal → List ℕ) (may : C → Goal → Journal → ℕ) (at : C → ℕ) (ahead : C → ℕ) (causes : List ℕ) where
  -- ---- a move without a look

  nothing_done : (j : Journal) (t : Tally) (cs : List (Left C)) → Works may at ahead causes j t t cs cs [] [] 0
  nothing_done j t cs = record {
    fair = tt;
    looks = omega arith;
    scans = omega arith;
    kept = omega arith;
    wants = omega arith;
    most = omega arith;
    least = omega arith;
    unbuilt = λ _. (refl, refl);
  }

  pub quiet : (f : State → Outcome) (j : Journal) (old new : Machine C) (added : List ℕ) → new.fronts.items ≡ old.fronts.items ++ added
      → ((deeds : List Deed) (tried : ℕ) (fronts : List ℕ) → f (state_of rest at j old deeds tried (added ++ fronts)) ≡ Goes (state_of rest at j new deeds tried fronts))
      → new.tally ≡ old.tally → (calls new) ≡ (calls old) → IsHeldIn rest may at j old.tally (calls old)
      → GoesOn rest may at ahead causes [] f j old new
  quiet f j old new added fronts goes tally stack held = record {
    added = added;
    deeds = [];
    hows = [];
    given = 0;
    made_is = refl;
    fronts_are = fronts;
    goes = λ deeds tried fs. goes deeds tried fs ∙ same deeds tried fs;
    works = subst (λ t. Works may at ahead causes j old.tally t (calls old) (calls new) [] [] 0) (sym tally)
        (subst (λ cs. Works may at ahead causes j old.tally old.tally (calls old) cs [] [] 0) (sym stack) (nothing_done j old.tally (calls old)));
    held = subst (λ t. IsHeldIn rest may at j t (calls new)) (sym tally) (subst (IsHeldIn rest may at j old.tally) (sym stack) held);
  }
    where
      same : (deeds : List Deed) (tried : ℕ) (fs : List ℕ) → Goes (state_of rest at j new deeds tried fs) ≡ Goes (state_of rest at j new (deeds ++ []) (tried + 0) fs)
      same deeds tried fs =
          let more : tried ≡ tried + 0 = omega arith in
          ap (λ l. Goes (state_of rest at j new l tried fs)) (sym (append-nil deeds)) ∙ ap (λ (n : ℕ). Goes (state_of rest at j new (deeds ++ []) n fs)) more

  -- ---- a move that is another function's, from another state on

  pub through : {made : List Entry} (f h : State → Outcome) (j : Journal) (old mid new : Machine C) → mid.fronts.items ≡ old.fronts.items → mid.tally ≡ old.tally → (calls mid) ≡ (calls old)
      → ((deeds : List Deed) (tried : ℕ) (fronts : List ℕ) → h (state_of rest at j old deeds tried fronts) ≡ f (state_of rest at j mid deeds tried fronts))
      → GoesOn rest may at ahead causes made f j mid new → GoesOn rest may at ahead causes made h j old new
  through f h j old mid new fronts tally stack leads on = record {
    added = on.added;
    deeds = on.deeds;
    hows = on.hows;
    given = on.given;
    made_is = on.made_is;
    fronts_are = on.fronts_are ∙ ap (λ fs. fs ++ on.added) fronts;
    goes = λ deeds tried fs. leads deeds tried (on.added ++ fs) ∙ on.goes deeds tried fs;
    works = subst (λ t. Works may at ahead causes j t new.tally (calls old) (calls new) (looks_in on.deeds) on.hows on.given) tally
        (subst (λ cs. Works may at ahead causes j mid.tally new.tally cs (calls new) (looks_in on.deeds) on.hows on.given) stack on.works);
    held = on.held;
  }

  pub does_through : (made : List Entry) (f h : State → Outcome) (x : Setting) (old mid new : Machine C) (o : Option RunEnd) → mid.fronts.items ≡ old.fronts.items → mid.tally ≡ old.tally → (calls mid) ≡ (calls old)
      → ((deeds : List Deed) (tried : ℕ) (fronts : List ℕ) → h (state_of rest at x.journal old deeds tried fronts) ≡ f (state_of rest at x.journal mid deeds tried fronts))
      → Does rest may at ahead causes made f x mid new o → Does rest may at ahead causes made h x old new o
  does_through made f h x old mid new None fronts tally stack leads d = through f h x.journal old mid new fronts tally stack leads d
  does_through made f h x old mid new (Some end) fronts tally stack leads d = record {
    made_is = d.made_is;
    fronts_are = d.fronts_are ∙ fronts;
    tally_is = d.tally_is ∙ tally;
    ends = λ deeds tried. leads deeds tried [] ∙ d.ends deeds tried;
  }
