-- What is asked of the database within a move.
use Rattle.std.proofs.Common.{◌≡◌, ℕ, ◌+◌, List, [], ◌∷◌, ◌++◌, length, refl, sym, ap, ◌∙◌, subst, arith}
use Rattle.std.specs.Prelude.{map}
use Rattle.prolog_terms.specs.declared.entry.End.{End}
use Rattle.prolog_terms.specs.declared.entry.Entry.{Entry}
use Rattle.term_store.specs.declared.cell.Cell.{Cell}
use Rattle.journal_base.specs.Goals.{Goal}
use Rattle.journals.specs.Journal.{Journal}
use Rattle.journal_base.specs.View.{View, Grows, Out}
use Rattle.journal_base.specs.declared.tally.Tally.{Tally}
use Rattle.wam_machine.specs.States.{State, Outcome, Goes, Updated, looks_in, made_in}
use Rattle.wam_machine.specs.Procedures.{accessing, asserting}
use Rattle.wam_machine.specs.Control as spec
use Rattle.wam_machine.specs.Goals.{access_in}
use Rattle.wam_machine.specs.Cursors.{Begins}
use Rattle.wam_machine.specs.Terms.{Left, AreTerms, said, built}
use Rattle.wam_machine.specs.View.{setting, calls, state_of, IsReady, IsLeft, IsHeld, IsHeldIn, IsFronted, AreKept, Works, GoesOn, Makes, Asks, HasOnlyAsked}
use Rattle.wam_machine.specs.declared.control.Access.{Access}
use Rattle.wam_machine.specs.declared.state.Host.{Host}
use Rattle.wam_machine.specs.declared.state.Machine.{Machine}
use Rattle.wam_machine.proofs.Begins.{begins_before}
use Rattle.wam_machine.proofs.Kept.{kept_on}
use Rattle.wam_machine.proofs.Asked.{asks_as}

-- updates alone: no look among them
pub no_looks : (made : List Entry) → looks_in (map Updated made) ≡ []
no_looks [] = refl
no_looks (e ∷ es) = no_looks es

pub all_made : (made : List Entry) → made_in (map Updated made) ≡ made
all_made [] = refl
all_made (e ∷ es) = ap (λ (l : List Entry). e ∷ l) (all_made es)

module _ {C : Type 0} (v w : View) (old new : Machine C) (same : HasOnlyAsked old new) where
  pub asked_kept : (serves after : C → Goal → Type 0) (group : C → ℕ) (out later : Out) → AreKept serves group out (calls old) → ((c : C) (g : Goal) → serves c g → after c g) → later ≡ out
      → AreKept after group later (calls new)
  asked_kept serves after group out later k others is =
      subst (λ (m : Machine C). AreKept after group later (calls m)) (sym same) (kept_on group serves out (calls old) after later k others is)

  module _ (serves : C → Goal → Type 0) (group : C → ℕ) (out : Out) (rest : C → Goal → Journal → List ℕ) (may : C → Goal → Journal → ℕ) (at : C → ℕ) (budget : ℕ)
      (r : IsReady v serves group out rest may at budget old) where
    pub ready_front : IsFronted v old.front
    ready_front = record { reached = r.held.reached; below = r.held.below }

    pub asked_left : IsFronted w new.front → IsLeft budget w old new
    asked_left f = record {
      terms = subst (λ (m : Machine C). AreTerms m.terms) (sym same) r.terms;
      shown = ap (λ (m : Machine C). (said m.terms).shown) same;
      held = subst (λ (m : Machine C). IsHeld budget w m.steps new.front (length (calls m)) m.tally) (sym same) (record {
        within = r.held.within;
        few = r.held.few;
        reached = f.reached;
        below = f.below;
        looks = r.held.looks;
        scans = r.held.scans;
        kept = r.held.kept;
        wants = r.held.wants;
        built = r.held.built;
        indexes = r.held.indexes;
      });
    }

    nothing_looked : (ahead : C → ℕ) (causes : List ℕ) (j : Journal) (t : Tally) (cs : List (Left C)) → Works may at ahead causes j t t cs cs [] [] 0
    nothing_looked ahead causes j t cs = record {
      fair = tt;
      looks = omega arith;
      scans = omega arith;
      kept = omega arith;
      wants = omega arith;
      most = omega arith;
      least = omega arith;
      unbuilt = λ _. (refl, refl);
    }

    pub asked_goes : (ahead : C → ℕ) (f : Journal → State → Outcome) → Grows v w → Asks v w f old new
        → Makes v w (λ made. (j : Journal) → Begins w j → GoesOn rest may at ahead w.causes made (f j) j old new)
    asked_goes ahead f g a = record {
      made = a.made;
      own = a.own;
      so = λ j b. record {
        added = a.added;
        deeds = map Updated a.made;
        hows = [];
        given = 0;
        made_is = all_made a.made;
        fronts_are = a.fronts_are;
        goes = λ before tried fronts.
            let none : tried ≡ tried + 0 = omega arith in
            a.goes j b rest at before tried fronts ∙ ap (λ (n : ℕ). Goes (state_of rest at j new (before ++ map Updated a.made) n fronts)) none;
        works = subst (λ ls. Works may at ahead w.causes j old.tally new.tally (calls old) (calls new) ls [] 0) (sym (no_looks a.made))
            (subst (λ (m : Machine C). Works may at ahead w.causes j old.tally m.tally (calls old) (calls m) [] [] 0) (sym same) (nothing_looked ahead w.causes j old.tally (calls old)));
        held = subst (λ (m : Machine C). IsHeldIn rest may at j m.tally (calls m)) (sym same) (r.each j (begins_before v w j g b));
      };
    }

-- an access that adds a clause
pub asserted : {C : Type 0} (v w : View) (h : Host) (old new : Machine C) (a : Access) (end : End) (c : Cell)
    → Asks v w (λ j. asserting (setting h old j) end (built old.terms c)) old new → access_in (built old.terms) a ≡ spec.Assert end (built old.terms c)
    → Asks v w (λ j. accessing (setting h old j) (access_in (built old.terms) a)) old new
unfolding accessing
asserted v w h old new a end c on is =
    asks_as v w (λ j. asserting (setting h old j) end (built old.terms c)) (λ j. accessing (setting h old j) (access_in (built old.terms) a)) old new
    (λ j b s. ap (λ (x : spec.Access). accessing (setting h old j) x s) is) on
