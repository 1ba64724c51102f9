-- The counts have room.
use Rattle.std.proofs.Common.{◌≡◌, ℕ, ◌+◌, ◌*◌, ◌^◌, ◌<◌, ◌≤◌, List, Bool, true, false, refl, sym, subst, arith}
use Rattle.std.specs.Prelude.{nat_le}
use Rattle.std.proofs.lemmas.Bool.Decides.{nat_tests}
use Rattle.std.proofs.lemmas.Grind.{not_there}
use Rattle.journal_base.specs.Goals.{Goal}
use Rattle.journals.specs.Journal.{Journal}
use Rattle.std.specs.Prelude.{Option, Some, None}
use Rattle.journal_base.specs.Looks.{HasRoom, CountsLook, most_raised, scans_of, count_some, kept_of, want_of, want_kept, wants_of}
use Rattle.journal_base.specs.declared.cause.How.{How}
use Rattle.journal_base.specs.declared.cause.How.TheVariants.{Indexed, Scanned}
use Rattle.journal_base.specs.declared.cause.Cause.{Cause}
use Rattle.journal_base.specs.declared.cause.Cause.TheVariants.{Plain, Few, Crowded, Claimed, Barred, NoPlace, Passed, NoMemory, Built}
use Rattle.journal_base.specs.View.{View, IsSound, Looks, Out}
use Rattle.journal_base.specs.declared.tally.Tally.{Tally}
use Rattle.wam_machine.specs.Cursors.{Begins}
use Rattle.wam_machine.specs.View.{IsReady, IsHeld, IsFronted, all_visits, calls}
use Rattle.wam_machine.specs.declared.state.Machine.{Machine}
use Rattle.wam_machine.proofs.Begins.{begins_self}

-- ten to the power eleven looks, each of which raises no count by more than two to the power 25
pub within : (n looks steps budget : ℕ) → n ≤ looks * most_raised → looks ≤ steps → steps ≤ budget → budget ≤ 10 ^ 11 → n ≤ 0x8000_0000_0000_0000
within n looks steps budget h k l m = omega arith

pub less : (a b c : ℕ) → a + b ≤ c → a ≤ c
less a b c h = omega arith

one_scan : (how : How) → scans_of how ≤ 1
one_scan (Indexed by) = omega arith
one_scan (Scanned c) = omega arith

one_some : (o : Option Cause) → count_some o ≤ 1
one_some None = omega arith
one_some (Some c) = omega arith

one_kept : (how : How) → kept_of how ≤ 1
one_kept (Indexed by) = one_some by.kept
one_kept (Scanned c) = omega arith

one_cause : (c : Cause) → want_of c ≤ 1
one_cause NoMemory = omega arith
one_cause Plain = omega arith
one_cause Few = omega arith
one_cause Crowded = omega arith
one_cause (Claimed w) = omega arith
one_cause (Barred m) = omega arith
one_cause NoPlace = omega arith
one_cause (Passed w) = omega arith
one_cause (Built m) = omega arith

one_kept_want : (o : Option Cause) → want_kept o ≤ 1
one_kept_want None = omega arith
one_kept_want (Some c) = one_cause c

one_want : (how : How) → wants_of how ≤ 1
one_want (Indexed by) = one_kept_want by.kept
one_want (Scanned c) = one_cause c

-- what holds of each journal and is a bound holds
pub bounded : (v : View) (a b : ℕ) → IsSound v → ((j : Journal) → Begins v j → a ≤ b) → a ≤ b
bounded v a b s h = go (nat_le a b) refl
  where
    go : (t : Bool) → nat_le a b ≡ t → a ≤ b
    go true e = grind (arith, nat_tests, e)
    go false e = absurd (not_there s.some (λ some. impossible (h some.0 (begins_self v some.0 some.1)) e))
      where
        impossible : a ≤ b → nat_le a b ≡ false → ⊥
        impossible le e = grind (arith, nat_tests, le, e)

module _ {C : Type 0} (v : View) (serves : C → Goal → Type 0) (group : C → ℕ) (out : Out) (rest : C → Goal → Journal → List ℕ) (may : C → Goal → Journal → ℕ) (at : C → ℕ) (budget : ℕ) (m : Machine C) where
  pub has_room : IsReady v serves group out rest may at budget m → budget ≤ 10 ^ 11 → HasRoom m.tally
  has_room r le = record {
    looks = omega (arith, r.held.looks, r.held.within);
    scans = omega (arith, r.held.scans, r.held.looks, r.held.within);
    kept = omega (arith, r.held.kept, r.held.looks, r.held.within);
    wants = omega (arith, r.held.wants, r.held.looks, r.held.within);
    visits = within m.tally.visits m.tally.looks m.steps budget (bounded v m.tally.visits (m.tally.looks * most_raised) r.sound visits) r.held.looks r.held.within le;
    built = within m.tally.built m.tally.looks m.steps budget r.held.built r.held.looks r.held.within le;
    indexes = within m.tally.indexes m.tally.looks m.steps budget r.held.indexes r.held.looks r.held.within le;
  }
    where
      visits : (j : Journal) → Begins v j → m.tally.visits ≤ m.tally.looks * most_raised
      visits j b = omega (arith, (r.each j b).raised)

  -- after one look more
  pub room_after : (how : How) (t : Tally) (w : View) → IsReady v serves group out rest may at budget m → budget ≤ 10 ^ 11 → m.tally.looks < m.steps → Looks v w → CountsLook m.tally t how
      → ((j : Journal) → Begins w j → t.visits ≤ m.tally.visits + most_raised) → HasRoom t
  room_after how t w r le more seen counts raised =
      let room = has_room r le in
      let visits : t.visits ≤ m.tally.visits + most_raised = bounded w t.visits (m.tally.visits + most_raised) seen.grows.sound raised in
      let all : m.tally.visits ≤ m.tally.looks * most_raised = bounded v m.tally.visits (m.tally.looks * most_raised) r.sound (λ j b. visits_held j b) in
      record {
        looks = omega (arith, counts.looks, r.held.looks, r.held.within);
        scans = omega (arith, counts.scans, one_scan how, r.held.scans, r.held.looks, r.held.within);
        kept = omega (arith, counts.kept, one_kept how, r.held.kept, r.held.looks, r.held.within);
        wants = omega (arith, counts.wants, one_want how, r.held.wants, r.held.looks, r.held.within);
        visits = within t.visits (m.tally.looks + 1) m.steps budget (omega (arith, visits, all)) (omega (arith, more)) r.held.within le;
        built = within t.built (m.tally.looks + 1) m.steps budget (omega (arith, counts.built.1, r.held.built)) (omega (arith, more)) r.held.within le;
        indexes = within t.indexes (m.tally.looks + 1) m.steps budget (omega (arith, counts.indexes.1, r.held.indexes)) (omega (arith, more)) r.held.within le;
      }
    where
      visits_held : (j : Journal) → Begins v j → m.tally.visits ≤ m.tally.looks * most_raised
      visits_held j b = less m.tally.visits (all_visits may at j (calls m)) (m.tally.looks * most_raised) (r.each j b).raised

-- what is held, after one look more at a front that was taken just now, and some visits
pub held_looked : (budget : ℕ) (v w : View) (steps before front few more : ℕ) (old mid new : Tally) (how : How) → IsHeld budget v steps before few old → old.looks < steps → CountsLook old mid how
    → new ≡ record mid { visits = new.visits } → more ≤ few + 1 → IsFronted w front → IsHeld budget w steps front more new
held_looked budget v w steps before front few more old mid new how h room counts same grown fronted =
    subst (λ (t : Tally). IsHeld budget w steps front more t) (sym same)
    (record {
      within = h.within;
      few = omega (arith, h.few, counts.looks, grown);
      reached = fronted.reached;
      below = fronted.below;
      looks = omega (arith, counts.looks, room);
      scans = omega (arith, counts.looks, counts.scans, one_scan how, h.scans);
      kept = omega (arith, counts.looks, counts.kept, one_kept how, h.kept);
      wants = omega (arith, counts.looks, counts.wants, one_want how, h.wants);
      built = omega (arith, counts.looks, counts.built.1, h.built);
      indexes = omega (arith, counts.looks, counts.indexes.1, h.indexes);
    })
