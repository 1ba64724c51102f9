-- The fields of a ledger.
use Rattle.std.specs.Prelude.{◌≡◌, ◌+◌, ◌-◌, ◌≤◌, length, min, vec_capacity}
use Rattle.journal_base.specs.Fates.{AreFates, alive_in}
use Rattle.journal_base.specs.Held.{Held}
use Rattle.journal_base.specs.declared.ledger.Ledger.TheInside.{Inside}

abbrev pub held_of : Inside → Held
held_of a = record { entries = a.entries.items; room = min (vec_capacity a.entries) (vec_capacity a.fates) - (length a.entries.items + a.alive) }

-- the fates are those of the clauses, those alive are counted, and each has room for its erasure
pub record IsLedger (a : Inside) : Type 0 where
  pub fates : AreFates a.entries.items a.fates.items
  pub alive : a.alive ≡ alive_in a.fates.items
  pub entry_room : length a.entries.items + a.alive ≤ vec_capacity a.entries
  pub fate_room : length a.entries.items + a.alive ≤ vec_capacity a.fates
