-- What a cursor leaves in what is seen is what it leaves in the part that was seen when it looked.
use Rattle.std.proofs.Common.{◌≡◌, ℕ, ◌≤◌, List, take, sym, ap, ◌∙◌, arith}
use Rattle.std.specs.Prelude.{filter_map}
use Rattle.std.proofs.lemmas.List.{take-take}
use Rattle.std.proofs.lemmas.List.Elements.{All-same}
use Rattle.call_patterns.specs.Keys.{GoalKeys, keys}
use Rattle.journals.specs.Journal.{Journal}
use Rattle.journal_base.specs.Goals.{Goal}
use Rattle.call_patterns.specs.Candidates.{candidates}
use Rattle.wam_machine.specs.Procedures.{candidate_named, candidate_clauses}
use Rattle.wam_machine.specs.Cursors.{goal_of, part, names_left, clauses_left, visits_left, IsOpenTo, IsUsable, AreNamed}
use Rattle.wam_machine.specs.Terms.{Left}
use Rattle.wam_machine.proofs.Usable.{candidates_usable}

module _ {C A : Type 0} (left : C → Goal → Journal → A) (at : C → ℕ)
    (local : (c : C) (g : Goal) (J K : Journal) → take (at c) J ≡ take (at c) K → left c g J ≡ left c g K) where
  -- a call with these keys, in what is seen, and in the part that was seen when it looked
  pub left_seen : (j : Journal) (n : ℕ) (c : Left C) (ks : GoalKeys) → at c.cursor ≤ n → ks ≡ keys c.goal
      → left c.cursor (record { procedure = c.procedure; keys = ks }) (take n j) ≡ left c.cursor (goal_of c) (part at j c)
  left_seen j n c ks low same =
      ap (λ k. left c.cursor (record { procedure = c.procedure; keys = k }) (take n j)) same
      ∙ local c.cursor (goal_of c) (take n j) (part at j c)
      (take-take (at c.cursor) n j low ∙ sym (take-take (at c.cursor) (at c.cursor) j (let le : at c.cursor ≤ at c.cursor = omega arith in le)))

module _ {C : Type 0} (rest : C → Goal → Journal → List ℕ) (at : C → ℕ)
    (local : (c : C) (g : Goal) (J K : Journal) → take (at c) J ≡ take (at c) K → rest c g J ≡ rest c g K) where
  pub names_seen : (j : Journal) (n : ℕ) (c : Left C) (ks : GoalKeys) → at c.cursor ≤ n → ks ≡ keys c.goal
      → rest c.cursor (record { procedure = c.procedure; keys = ks }) (take n j) ≡ names_left rest at j c
  unfolding names_left
  names_seen j n c ks low same = left_seen rest at local j n c ks low same

module _ {C : Type 0} (may : C → Goal → Journal → ℕ) (at : C → ℕ)
    (local : (c : C) (g : Goal) (J K : Journal) → take (at c) J ≡ take (at c) K → may c g J ≡ may c g K) where
  pub visits_seen : (j : Journal) (n : ℕ) (c : Left C) (ks : GoalKeys) → at c.cursor ≤ n → ks ≡ keys c.goal
      → may c.cursor (record { procedure = c.procedure; keys = ks }) (take n j) ≡ visits_left may at j c
  unfolding visits_left
  visits_seen j n c ks low same = left_seen may at local j n c ks low same

-- a call whose names are the candidates
module _ {C : Type 0} (rest : C → Goal → Journal → List ℕ) (at : C → ℕ) (j : Journal) (c : Left C) where
  pub clauses_offered : names_left rest at j c ≡ candidates (part at j c) c.procedure (keys c.goal)
      → clauses_left rest at j c ≡ candidate_clauses (part at j c) c.procedure (keys c.goal)
  unfolding clauses_left
  clauses_offered e = ap (filter_map (candidate_named (part at j c))) e

  pub named_offered : IsOpenTo c.used (part at j c) c.procedure → names_left rest at j c ≡ candidates (part at j c) c.procedure (keys c.goal) → AreNamed rest at j c
  unfolding AreNamed
  named_offered may e = All-same (IsUsable c.used (part at j c)) (names_left rest at j c) _ e (candidates_usable c.used (part at j c) c.procedure (keys c.goal) may)
