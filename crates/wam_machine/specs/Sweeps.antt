-- Clauses that are erased one after another, as the engine does it.
use Rattle.std.specs.Prelude.{◌≡◌, ℕ, ◌+◌, ◌≤◌, List, [], ◌∷◌, ◌++◌, length, Option, Some, None, option_map, map, take, Bool, true, false, if◌then◌else◌}
use Rattle.prolog_terms.specs.Tree.{Tree}
use Rattle.prolog_terms.specs.declared.entry.Clause.{Clause}
use Rattle.prolog_terms.specs.declared.entry.Entry.{Entry}
use Rattle.journal_base.specs.Goals.{Goal}
use Rattle.journals.specs.Journal.{Journal, clause_named}
use Rattle.journal_base.specs.View.{View}
use Rattle.term_store.specs.declared.cell.Cell.{Cell}
use Rattle.wam_machine.specs.States.{State, Setting, Outcome, Goes, Deed, Updated, Candidate, erasing}
use Rattle.wam_machine.specs.Procedures.{sweep_at, sweeping, sweeping_all}
use Rattle.wam_machine.specs.Cursors.{Begins, clauses_left, visits_left}
use Rattle.wam_machine.specs.Terms.{Left, Said, IsCompared}
use Rattle.wam_machine.specs.View.{setting, state_of, IsFronted}
use Rattle.wam_machine.specs.declared.state.Host.{Host}
use Rattle.wam_machine.specs.declared.state.Machine.{Machine}

-- so it is of the goal's cell, if there is one
abbrev pub IsSwept : (Cell → Type 0) → Option Cell → Type 0
IsSwept P None = Unit {0}
IsSwept P (Some c) = P c

-- At each front from one on, this erases the clauses of a procedure.
abbrev pub IsSweep : Setting → Option Tree → ℕ → ℕ → (ℕ → Journal → State → Outcome) → Type 0
IsSweep x goal from p with =
    (before n : ℕ) (s : State) → from ≤ n → n ≤ length x.journal → with before (take n x.journal) s ≡ sweeping_all x goal before (take n x.journal) s p

-- nothing was done but to the mode, the terms, the fronts and the count of visits
abbrev pub HasOnlySwept : {C : Type 0} → Machine C → Machine C → Type 0
HasOnlySwept old new = new ≡ record old { mode = new.mode; terms = new.terms; front = new.front; fronts = new.fronts; tally = new.tally }

-- The clauses that were left of a call are erased; where there was no room for an erasure, some are left still.
pub record Sweeps {C : Type 0} (rest : C → Goal → Journal → List ℕ) (may : C → Goal → Journal → ℕ) (at : C → ℕ) (ahead : C → ℕ) (made : List Entry) (x : Setting) (goal : Option Tree)
    (before after : Left C) (old new : Machine C) : Type 0 where
  pub given : ℕ
  pub added : List ℕ
  pub fronts_are : new.fronts.items ≡ old.fronts.items ++ added
  pub goes : (deeds : List Deed) (tried : ℕ) (fronts : List ℕ)
      → sweeping x goal (clauses_left rest at x.journal before) (state_of rest at x.journal old deeds tried (added ++ fronts)) ≡ Goes (state_of rest at x.journal new (deeds ++ map Updated made) (tried + given) fronts)
  pub most : new.tally.visits + visits_left may at x.journal after ≤ old.tally.visits + visits_left may at x.journal before
  pub least : old.tally.visits + given + ahead after.cursor ≤ new.tally.visits + ahead before.cursor

-- what follows where others may follow, and where not
abbrev pub where_on : Setting → Option Tree → List Candidate → State → Bool → Outcome
where_on x goal cs s true = sweeping x goal cs s
where_on x goal cs s false = Goes s

-- a clause, by its name in a journal, is erased, or passed over
pub record SweepsOne {C : Type 0} (rest : C → Goal → Journal → List ℕ) (at : C → ℕ) (made : List Entry) (x : Setting) (goal : Option Tree) (J : Journal) (name : ℕ) (old new : Machine C) (on : Bool) : Type 0 where
  pub clause : Clause
  pub clause_is : clause_named J name ≡ Some clause
  pub added : List ℕ
  pub fronts_are : new.fronts.items ≡ old.fronts.items ++ added
  pub goes : (cs : List Candidate) (deeds : List Deed) (tried : ℕ) (fronts : List ℕ)
      → sweeping x goal (record { name = name; clause = clause } ∷ cs) (state_of rest at x.journal old deeds tried (added ++ fronts))
      ≡ where_on x goal cs (state_of rest at x.journal new (deeds ++ map Updated made) (tried + 1) fronts) on

-- a clause is one of those that are erased, or not; its variables are new ones where its head is made one with a goal
abbrev pub IsMeant : {C : Type 0} → Option Tree → Clause → Said C → Said C → Bool → Type 0
IsMeant None c old new met = (new ≡ old) × (met ≡ true)
IsMeant (Some goal) c old new met = IsCompared goal c old new met

-- an erasure is asked for at the next front; whatever follows it, follows where others may follow
pub record HasSwept {C : Type 0} (h : Host) (v w : View) (goal : Option Cell) (name : ℕ) (old new : Machine C) (on : Bool) : Type 0 where
  pub made : List Entry
  pub own : w.own ≡ v.own ++ made
  pub front : IsFronted w new.front
  pub fronts_are : new.fronts.items ≡ old.fronts.items ++ new.front ∷ []
  pub goes : (j : Journal) → Begins w j → (rest : C → Goal → Journal → List ℕ) (at : C → ℕ) (deeds : List Deed) (tried : ℕ) (fronts : List ℕ) (tree : Cell → Tree) (next : State → Outcome)
      → erasing (setting h old j) (sweep_at (option_map tree goal)) name (state_of rest at j old deeds tried (new.front ∷ fronts)) next next
      ≡ (if on then next (state_of rest at j new (deeds ++ map Updated made) tried fronts) else Goes (state_of rest at j new (deeds ++ map Updated made) tried fronts))
