-- Calls over a base, as seen from one journal.
use Rattle.std.specs.Prelude.{◌≡◌, ℕ, ◌+◌, ◌≤◌, List, take, All, filter_map, IsSome, Some, slice_get}
use Rattle.prolog_terms.specs.declared.entry.Indicator.{Indicator}
use Rattle.prolog_terms.specs.declared.entry.Kind.TheVariants.{Dynamic}
use Rattle.call_patterns.specs.Keys.{keys}
use Rattle.journal_base.specs.Goals.{Goal}
use Rattle.journal_base.specs.Legal.{MayChangeClause}
use Rattle.journals.specs.Journal.{Journal, procedures, clause_named}
use Rattle.journal_base.specs.Looks.{allowance, most_raised}
use Rattle.journal_base.specs.View.{View}
use Rattle.journal_base.specs.declared.cause.How.{How}
use Rattle.journal_base.specs.declared.tally.Tally.{Tally}
use Rattle.wam_machine.specs.States.{Use, Enter, Match, Purpose, ToShow, ToErase, Candidate}
use Rattle.wam_machine.specs.Procedures.{call_of, candidate_named, candidate_clauses}
use Rattle.wam_machine.specs.Runs.{IsFairLook}
use Rattle.wam_machine.specs.Terms.{Left}

-- the journal begins with what is seen of one that the base stands for
pub record Begins (v : View) (j : Journal) : Type 0 where
  pub journal : Journal
  pub stands : v.stands_for journal
  pub same : take v.seen j ≡ take v.seen journal

-- what a call looks for
abbrev pub goal_of : {C : Type 0} → Left C → Goal
goal_of c = call_of c.procedure c.goal

-- the part of the journal that was seen when the call looked
abbrev pub part : {C : Type 0} → (C → ℕ) → Journal → Left C → Journal
part at j c = take (at c.cursor) j

-- the names of the clauses that are left of a call
unfoldable pub names_left : {C : Type 0} → (C → Goal → Journal → List ℕ) → (C → ℕ) → Journal → Left C → List ℕ
names_left rest at j c = rest c.cursor (goal_of c) (part at j c)

-- these clauses
unfoldable pub clauses_left : {C : Type 0} → (C → Goal → Journal → List ℕ) → (C → ℕ) → Journal → Left C → List Candidate
clauses_left rest at j c = filter_map (candidate_named (part at j c)) (names_left rest at j c)

-- the visits that the call may still make
unfoldable pub visits_left : {C : Type 0} → (C → Goal → Journal → ℕ) → (C → ℕ) → Journal → Left C → ℕ
visits_left may at j c = may c.cursor (goal_of c) (part at j c)

-- the procedure of this number is dynamic
abbrev pub IsDynamic : Journal → ℕ → Type 0
IsDynamic J p = (i : Indicator) × (slice_get (procedures J) p ≡ Some (i, Dynamic))

abbrev pub IsFor : Purpose → Journal → ℕ → Type 0
IsFor ToShow J p = Unit {0}
IsFor ToErase J p = IsDynamic J p

-- the clauses of the procedure of this number may be so used
abbrev pub IsOpenTo : Use → Journal → ℕ → Type 0
IsOpenTo Enter J p = Unit {0}
IsOpenTo (Match purpose body) J p = IsFor purpose J p

-- any engine may change the clause of this name
unfoldable pub IsChangeable : Journal → ℕ → Type 0
IsChangeable J k = (engine : ℕ) → MayChangeClause J engine k

abbrev pub MayServe : Purpose → Journal → ℕ → Type 0
MayServe ToShow J k = Unit {0}
MayServe ToErase J k = IsChangeable J k

-- a clause of this name may be so used
abbrev pub MayBeUsed : Use → Journal → ℕ → Type 0
MayBeUsed Enter J k = Unit {0}
MayBeUsed (Match purpose body) J k = MayServe purpose J k

pub record IsUsable (used : Use) (J : Journal) (k : ℕ) : Type 0 where
  pub named : IsSome (clause_named J k)
  pub may : MayBeUsed used J k

-- each clause that is left has its name in the journal, and may be so used
unfoldable pub AreNamed : {C : Type 0} → (C → Goal → Journal → List ℕ) → (C → ℕ) → Journal → Left C → Type 0
AreNamed rest at j c = All (IsUsable c.used (part at j c)) (names_left rest at j c)

-- A call has been looked up, at a front, after this one: the clauses that are left are its candidates.
pub record IsOpened {C : Type 0} (rest : C → Goal → Journal → List ℕ) (may : C → Goal → Journal → ℕ) (at : C → ℕ) (causes : List ℕ) (before : ℕ) (j : Journal)
    (c : Left C) (how : How) (old new : Tally) : Type 0 where
  pub clauses : clauses_left rest at j c ≡ candidate_clauses (part at j c) c.procedure (keys c.goal)
  pub named : AreNamed rest at j c
  pub fair : IsFairLook causes j (record { before = before; front = at c.cursor; call = goal_of c }) how
  pub most : new.visits + visits_left may at j c ≤ old.visits + allowance (part at j c) (goal_of c) how
  pub raised : new.visits + visits_left may at j c ≤ old.visits + most_raised
