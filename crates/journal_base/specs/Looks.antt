-- What a look may say of itself, and how many clauses it may visit (docs/LANGUAGE.md, "The database").
use Rattle.std.specs.Prelude.{◌≡◌, ◌≢◌, ℕ, ◌+◌, ◌<◌, ◌≤◌, length, List, [], ◌∷◌, take, Contains, Option, Some, None, IfSome}
use Rattle.journals.specs.Journal.{Journal, chain}
use Rattle.journal_base.specs.Goals.{Goal}
use Rattle.journal_base.specs.declared.cause.How.{How}
use Rattle.journal_base.specs.declared.cause.How.TheVariants.{Indexed, Scanned}
use Rattle.journal_base.specs.declared.cause.Cause.{Cause}
use Rattle.journal_base.specs.declared.cause.Cause.TheVariants.{Plain, Few, Crowded, Claimed, Barred, NoPlace, Passed, NoMemory, Built}
use Rattle.journal_base.specs.declared.tally.Tally.{Tally}

-- ---- causes

abbrev pub cause_number : Cause → ℕ
cause_number Plain = 0
cause_number Few = 1
cause_number Crowded = 2
cause_number (Claimed word) = 3
cause_number (Barred mark) = 4
cause_number NoPlace = 5
cause_number (Passed word) = 6
cause_number NoMemory = 7
cause_number (Built mark) = 8

-- The causes that a look tells are among those that may come. Where `Plain` alone may come there are no indexes, and `Built` is
-- told of an index that is used.
abbrev pub TellsOnly : List ℕ → How → Type 0
TellsOnly causes (Indexed by) = (causes ≢ 0 ∷ []) × IfSome by.kept (λ c. Contains causes (cause_number c))
TellsOnly causes (Scanned c) = (cause_number c ≢ 8) × Contains causes (cause_number c)

-- ---- what is fair

-- a scan for this cause, where the front before the look was so
abbrev pub IsFairScan : ℕ → ℕ → Journal → Cause → Type 0
IsFairScan before p J Few = length (chain (take before J) p) < 8
IsFairScan before p J other = Unit {0}

-- what a look says of itself is so in the journal that it has seen
abbrev pub IsFair : ℕ → Goal → How → Journal → Type 0
IsFair before g (Indexed by) J = by.mark ≤ length J
IsFair before g (Scanned c) J = IsFairScan before g.procedure J c

-- ---- the allowance

-- how many clauses a look and all that follows from its cursor may visit: of a scan, those ever added to the procedure
abbrev pub allowance : Journal → Goal → How → ℕ
allowance J g (Indexed by) = length (chain J g.procedure)
allowance J g (Scanned c) = length (chain J g.procedure)

-- the most by which a look and all that follows from its cursor raise any count
abbrev pub most_raised : ℕ
most_raised = 0x200_0000

-- ---- counts

abbrev pub scans_of : How → ℕ
scans_of (Indexed by) = 0
scans_of (Scanned c) = 1

abbrev pub count_some : Option Cause → ℕ
count_some None = 0
count_some (Some c) = 1

abbrev pub kept_of : How → ℕ
kept_of (Indexed by) = count_some by.kept
kept_of (Scanned c) = 0

abbrev pub want_of : Cause → ℕ
want_of NoMemory = 1
want_of other = 0

abbrev pub want_kept : Option Cause → ℕ
want_kept None = 0
want_kept (Some c) = want_of c

abbrev pub wants_of : How → ℕ
wants_of (Indexed by) = want_kept by.kept
wants_of (Scanned c) = want_of c

-- a look is counted, as a scan where it scans, and so on
pub record CountsLook (old new : Tally) (how : How) : Type 0 where
  pub looks : new.looks ≡ old.looks + 1
  pub scans : new.scans ≡ old.scans + scans_of how
  pub kept : new.kept ≡ old.kept + kept_of how
  pub wants : new.wants ≡ old.wants + wants_of how
  pub built : (old.built ≤ new.built) × (new.built ≤ old.built + most_raised)
  pub indexes : (old.indexes ≤ new.indexes) × (new.indexes ≤ old.indexes + 1)
  -- a base without indexes builds none
  pub unbuilt : how ≡ Scanned Plain → (new.built ≡ old.built) × (new.indexes ≡ old.indexes)

-- nothing is counted but visits
abbrev pub CountsVisits : Tally → Tally → Type 0
CountsVisits old new = new ≡ record old { visits = new.visits }

-- no count is above 2^63
pub record HasRoom (t : Tally) : Type 0 where
  pub looks : t.looks ≤ 0x8000_0000_0000_0000
  pub scans : t.scans ≤ 0x8000_0000_0000_0000
  pub kept : t.kept ≤ 0x8000_0000_0000_0000
  pub wants : t.wants ≤ 0x8000_0000_0000_0000
  pub visits : t.visits ≤ 0x8000_0000_0000_0000
  pub built : t.built ≤ 0x8000_0000_0000_0000
  pub indexes : t.indexes ≤ 0x8000_0000_0000_0000

abbrev pub given : Option ℕ → ℕ
given None = 0
given (Some k) = 1
