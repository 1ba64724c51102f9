-- One clause is erased, or passed over.
use Rattle.std.proofs.Common.{◌≡◌, ℕ, zero, suc, ◌+◌, ◌<◌, ◌≤◌, List, [], ◌∷◌, ◌++◌, length, take, Bool, true, false, refl, sym, ap, ◌∙◌, subst, arith, append-nil, Option, Some, None}
use Rattle.std.specs.Prelude.{if◌then◌else◌, IsSome, map, option_map, option_and_then, slice_get}
use Rattle.std.proofs.lemmas.Bool.{false≢true}
use Rattle.std.proofs.lemmas.List.{take-take}
use Rattle.std.proofs.lemmas.Option.{slice_get_within}
use Rattle.prolog_terms.specs.Tree.{Tree}
use Rattle.prolog_terms.specs.Faults.{fault_tree}
use Rattle.prolog_terms.specs.declared.entry.Clause.{Clause}
use Rattle.prolog_terms.specs.declared.entry.Entry.{Entry}
use Rattle.prolog_terms.specs.declared.entry.Indicator.{Indicator}
use Rattle.prolog_terms.specs.declared.entry.Kind.{Kind}
use Rattle.prolog_terms.specs.declared.entry.What.{What}
use Rattle.prolog_terms.specs.declared.entry.What.TheVariants.{Declare, Add, Erase}
use Rattle.term_store.specs.declared.cell.Cell.{Cell}
use Rattle.journals.specs.Journal.{Journal, added, clause_named, procedures, procedure_of}
use Rattle.journal_base.specs.Goals.{Goal}
use Rattle.journal_base.specs.Legal.{MayChange, MayFollow}
use Rattle.journal_base.specs.View.{View, IsSound}
use Rattle.wam_machine.specs.States as spec
use Rattle.wam_machine.specs.States.{State, Setting, Outcome, Goes, Deed, Updated, Candidate, no_room, erasing}
use Rattle.wam_machine.specs.Procedures.{sweep_at, sweeping, is_swept, one_tried}
use Rattle.wam_machine.specs.Cursors.{Begins, IsChangeable}
use Rattle.wam_machine.specs.Sweeps.{IsMeant, SweepsOne, HasSwept, where_on}
use Rattle.wam_machine.specs.Terms.{Said, said, built}
use Rattle.wam_machine.specs.View.{setting, mode_of, state_with, state_of, Erases, after_erasure}
use Rattle.wam_machine.specs.declared.database.Erasure.{Erasure}
use Rattle.wam_machine.specs.declared.database.Erasure.TheVariants as erasure
use Rattle.wam_machine.specs.declared.state.Host.{Host}
use Rattle.wam_machine.specs.declared.state.Machine.{Machine}
use Rattle.wam_machine.specs.declared.state.Mode.TheVariants.{Raising as RaisingBall}
use Rattle.wam_machine.specs.declared.terms.Terms.{Terms}
use Rattle.wam_machine.proofs.Matches.{procedures_front, front_get}
use Rattle.wam_machine.proofs.SweptOn.{setting_fresh}

-- ---- an erasure

module _ {C : Type 0} (h : Host) (v w : View) (goal : Option Cell) (k : ℕ) (old new : Machine C) (asked : Erasure) (e : Erases h v w k old new asked) where
  erased_on : ((i : Indicator) (next : State → Outcome) (s : State) → after_erasure i next next s asked ≡ next s) → HasSwept h v w goal k old new true
  erased_on follows = record {
    made = e.made;
    own = e.own;
    front = e.front;
    fronts_are = e.fronts_are;
    goes = λ j b rest at deeds tried fs tree next.
        e.goes j b rest at deeds tried fs (sweep_at (option_map tree goal)) next next
        ∙ follows (sweep_at (option_map tree goal)) next (state_of rest at j new (deeds ++ map Updated e.made) tried fs);
  }

  pub erased_done : asked ≡ erasure.Done → HasSwept h v w goal k old new true
  erased_done is = erased_on (λ i next s. ap (after_erasure i next next s) is)

  pub erased_gone : asked ≡ erasure.Gone → HasSwept h v w goal k old new true
  erased_gone is = erased_on (λ i next s. ap (after_erasure i next next s) is)

  pub erased_full : asked ≡ erasure.Full → (ball : Tree) → ((tree : Cell → Tree) → ball ≡ fault_tree no_room (sweep_at (option_map tree goal)))
      → HasSwept h v w goal k old (record new { mode = RaisingBall ball }) false
  erased_full is ball told = record {
    made = e.made;
    own = e.own;
    front = e.front;
    fronts_are = e.fronts_are;
    goes = λ j b rest at deeds tried fs tree next.
        e.goes j b rest at deeds tried fs (sweep_at (option_map tree goal)) next next
        ∙ ap (after_erasure (sweep_at (option_map tree goal)) next next (state_of rest at j new (deeds ++ map Updated e.made) tried fs)) is
        ∙ ap (λ (t : Tree). Goes (record (state_of rest at j new (deeds ++ map Updated e.made) tried fs) { mode = spec.Raising t })) (sym (told tree));
  }

-- ---- a clause

module _ {C : Type 0} (m : Machine C) (t : Terms C) (clause : Clause) (met : Bool) where
  said_met : (goal : Option Tree) → IsMeant goal clause (said m.terms) (said t) met → said t ≡ record (said m.terms) { fresh = (said t).fresh }
  said_met None i = i.0 ∙ ap (λ (n : ℕ). let r : Said C = record (said m.terms) { fresh = n } in r) (sym (ap (λ (s : Said C). s.fresh) i.0))
  said_met (Some g) i = i.0 ∙ ap (λ (n : ℕ). let r : Said C = record (said m.terms) { fresh = n } in r) (sym (ap (λ (s : Said C). s.fresh) i.0))

  module _ (rest : C → Goal → Journal → List ℕ) (at : C → ℕ) (j : Journal) (deeds : List Deed) (tried : ℕ) (fs : List ℕ) where
    state_met : (goal : Option Tree) → IsMeant goal clause (said m.terms) (said t) met
        → one_tried goal clause (state_of rest at j m deeds tried fs) ≡ state_of rest at j (record m { terms = t }) deeds (tried + 1) fs
    state_met None i = ap (λ (s : Said C). state_with rest at j s (mode_of m.mode) m.steps m.events.items m.front deeds (tried + 1) fs) (sym i.0)
    state_met (Some g) i = ap (λ (s : Said C). state_with rest at j s (mode_of m.mode) m.steps m.events.items m.front deeds (tried + 1) fs) (sym i.0)

    test_met : (goal : Option Tree) → IsMeant goal clause (said m.terms) (said t) met → is_swept goal clause (state_of rest at j m deeds tried fs) ≡ met
    test_met None i = sym i.1
    test_met (Some g) i = sym i.1

  module _ (goal : Option Tree) (i : IsMeant goal clause (said m.terms) (said t) met) where
    pub meant_said : said t ≡ record (said m.terms) { fresh = (said t).fresh }
    meant_said = said_met goal i

    module _ (rest : C → Goal → Journal → List ℕ) (at : C → ℕ) (h : Host) (j J : Journal) (k : ℕ) (named : clause_named J k ≡ Some clause) where
      tested : (cs : List Candidate) (deeds : List Deed) (tried : ℕ) (fs : List ℕ) (b : Bool) → met ≡ b
          → sweeping (setting h m j) goal (record { name = k; clause = clause } ∷ cs) (state_of rest at j m deeds tried fs)
          ≡ (if b
          then erasing (setting h m j) (sweep_at goal) k (state_of rest at j (record m { terms = t }) deeds (tried + 1) fs) (λ s. sweeping (setting h m j) goal cs s) (λ s. sweeping (setting h m j) goal cs s)
          else sweeping (setting h m j) goal cs (state_of rest at j (record m { terms = t }) deeds (tried + 1) fs))
      tested cs deeds tried fs b e =
          ap (λ (c : Bool). if c
          then erasing (setting h m j) (sweep_at goal) k (one_tried goal clause (state_of rest at j m deeds tried fs)) (λ s. sweeping (setting h m j) goal cs s) (λ s. sweeping (setting h m j) goal cs s)
          else sweeping (setting h m j) goal cs (one_tried goal clause (state_of rest at j m deeds tried fs)))
          (test_met rest at j deeds tried fs goal i ∙ e)
          ∙ ap (λ (u : State). if b
          then erasing (setting h m j) (sweep_at goal) k u (λ s. sweeping (setting h m j) goal cs s) (λ s. sweeping (setting h m j) goal cs s)
          else sweeping (setting h m j) goal cs u)
          (state_met rest at j deeds tried fs goal i)

      -- it is none of those that are erased
      pub passed_over : met ≡ false → SweepsOne rest at [] (setting h m j) goal J k m (record m { terms = t }) true
      passed_over e = record {
        clause = clause;
        clause_is = named;
        added = [];
        fronts_are = sym (append-nil m.fronts.items);
        goes = λ cs deeds tried fs.
            tested cs deeds tried fs false e
            ∙ ap (λ (l : List Deed). sweeping (setting h m j) goal cs (state_of rest at j (record m { terms = t }) l (tried + 1) fs)) (sym (append-nil deeds));
      }

    -- it is erased, or is gone, or there is no room
    pub erased_one : (rest : C → Goal → Journal → List ℕ) (at : C → ℕ) (h : Host) (cell : Option Cell) (j J : Journal) (k : ℕ) (u w : View) (new : Machine C) (on : Bool) → met ≡ true → clause_named J k ≡ Some clause
        → goal ≡ option_map (built m.terms) cell → (e : HasSwept h u w cell k (record m { terms = t }) new on) → Begins w j → SweepsOne rest at e.made (setting h m j) goal J k m new on
    erased_one rest at h cell j J k u w new on is named goal_is e b = record {
      clause = clause;
      clause_is = named;
      added = new.front ∷ [];
      fronts_are = e.fronts_are;
      goes = λ cs deeds tried fs.
          tested rest at h j J k named cs deeds tried (new.front ∷ fs) true is
          ∙ ap (λ (x : Setting). erasing x (sweep_at goal) k (state_of rest at j (record m { terms = t }) deeds (tried + 1) (new.front ∷ fs)) (λ s. sweeping (setting h m j) goal cs s) (λ s. sweeping (setting h m j) goal cs s))
          (sym (setting_fresh h m (record m { terms = t }) j (said_met goal i)))
          ∙ ap (λ (g : Option Tree). erasing (setting h (record m { terms = t }) j) (sweep_at g) k (state_of rest at j (record m { terms = t }) deeds (tried + 1) (new.front ∷ fs)) (λ s. sweeping (setting h m j) goal cs s) (λ s. sweeping (setting h m j) goal cs s)) goal_is
          ∙ e.goes j b rest at deeds (tried + 1) fs (built m.terms) (λ s. sweeping (setting h m j) goal cs s)
          ∙ either on cs (state_of rest at j new (deeds ++ map Updated e.made) (tried + 1) fs);
    }
      where
        either : (c : Bool) (cs : List Candidate) (s : State) → (if c then sweeping (setting h m j) goal cs s else Goes s) ≡ where_on (setting h m j) goal cs s c
        either true cs s = refl
        either false cs s = refl

-- ---- what may be changed

some_get : (J : Journal) (k : ℕ) → IsSome (clause_named J k) → (e : Entry) × ((slice_get J k ≡ Some e) × IsSome (added e.what))
some_get J k h = go (slice_get J k) refl h
  where
    go : (o : Option Entry) → slice_get J k ≡ o → IsSome (option_and_then (λ (e : Entry). added e.what) o) → (e : Entry) × ((slice_get J k ≡ Some e) × IsSome (added e.what))
    go None e some = absurd (false≢true some)
    go (Some x) e some = (x, (e, some))

same_some : {X : Type 0} (x y : X) → Some x ≡ Some y → x ≡ y
same_some x y e = cc

-- a clause was added to a procedure that was declared before it
declared_before : (what : What) (J : Journal) (engine : ℕ) → IsSome (added what) → MayFollow J engine what
    → (p : ℕ) × ((procedure_of what ≡ Some p) × ((d : Indicator × Kind) × (slice_get (procedures J) p ≡ Some d)))
declared_before (Declare i d) J engine some may = absurd (false≢true some)
declared_before (Add e p c) J engine some may = (p, (refl, (may.procedure, may.declared)))
declared_before (Erase k) J engine some may = absurd (false≢true some)

-- what any engine may change stays so as more is seen
pub changeable_stays : (v : View) (j : Journal) (a k : ℕ) → IsSound v → Begins v j → a ≤ v.seen → IsSome (clause_named (take a j) k) → IsChangeable (take a j) k → IsChangeable (take v.seen j) k
unfolding IsChangeable
changeable_stays v j a k sound b low some may = λ engine e d here there.
    let J : Journal = b.journal in
    let same : take a j ≡ take a J = sym (take-take a v.seen j low) ∙ ap (take a) b.same ∙ take-take a v.seen J low in
    let found = some_get (take a j) k some in
    let early : slice_get (take a j) k ≡ Some found.0 = found.1.0 in
    let late : slice_get (take v.seen j) k ≡ Some found.0 = front_get (take v.seen j) a k found.0 (ap (λ (l : Journal). slice_get l k) (take-take a v.seen j low) ∙ early) in
    let is : found.0 ≡ e = same_some found.0 e (sym late ∙ here) in
    let whole : slice_get J k ≡ Some found.0 = front_get J a k found.0 (ap (λ (l : Journal). slice_get l k) (sym same) ∙ early) in
    let follows : MayFollow (take k J) found.0.by found.0.what = (sound.each J b.stands).legal.follows k found.0 whole in
    let before = declared_before found.0.what (take k J) found.0.by found.1.1 follows in
    let short : k < length (take a j) = slice_get_within (take a j) k found.0 early in
    let le : k ≤ a = below a k j short in
    let within : slice_get (procedures (take a j)) before.0 ≡ Some before.1.1.0 =
    ap (λ (l : Journal). slice_get (procedures l) before.0) same
    ∙ procedures_front (take a J) k before.0 before.1.1.0 (ap (λ (l : Journal). slice_get (procedures l) before.0) (take-take k a J le) ∙ before.1.1.1) in
    let wide : slice_get (procedures (take v.seen j)) before.0 ≡ Some before.1.1.0 =
    procedures_front (take v.seen j) a before.0 before.1.1.0 (ap (λ (l : Journal). slice_get (procedures l) before.0) (take-take a v.seen j low) ∙ within) in
    let goes_to : procedure_of e.what ≡ Some before.0 = ap (λ (x : Entry). procedure_of x.what) (sym is) ∙ before.1.0 in
    let kind : before.1.1.0 ≡ d = same_some before.1.1.0 d (sym wide ∙ sym (ap (option_and_then (slice_get (procedures (take v.seen j)))) goes_to) ∙ there) in
    subst (λ (x : Indicator × Kind). MayChange x.1 engine) kind
    (may engine found.0 before.1.1.0 early (ap (option_and_then (slice_get (procedures (take a j)))) before.1.0 ∙ within))
  where
    below : (n i : ℕ) (l : Journal) → i < length (take n l) → i ≤ n
    below zero i l h = absurd (omega (arith, h))
    below (suc n) i [] h = absurd (omega (arith, h))
    below (suc n) zero (x ∷ l) h = omega arith
    below (suc n) (suc i) (x ∷ l) h = let le : i ≤ n = below n i l (omega (arith, h)) in omega (arith, le)
