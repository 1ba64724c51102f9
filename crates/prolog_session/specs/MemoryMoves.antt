use Rattle.std.specs.Prelude.{◌≡◌, ℕ, ◌-◌, ◌<◌, ◌⊎◌, min, List, [], ◌++◌, length, take, drop}
use Rattle.prolog_session.specs.FaultCounts.{next_count, FailsNext}
use Rattle.prolog_session.specs.declared.source.Got.{Got}
use Rattle.prolog_session.specs.declared.source.Got.TheVariants.{Bytes, End, Failed}
use Rattle.prolog_session.specs.declared.sink.Put.{Put}
use Rattle.prolog_session.specs.declared.sink.Put.TheVariants.{Took, Failed as Refused, Want}

-- a source in memory: the bytes left, the most that a call gives, the numbers of the calls that fail, and how many
-- calls and failures there were
pub record MemorySourceState : Type 0 where
  pub left : List ℕ
  pub step : ℕ
  pub fails : List ℕ
  pub calls : ℕ
  pub faults : ℕ

-- what a read into a slice of this length does
abbrev pub MemoryGives : MemorySourceState → MemorySourceState → ℕ → Got → Type 0
MemoryGives old new len (Bytes n) = ¬ FailsNext old.fails old.calls
    × (n ≡ min (min (length old.left) old.step) len)
    × (new ≡ record old { left = drop n old.left; calls = next_count old.calls })
MemoryGives old new len End = ¬ FailsNext old.fails old.calls
    × (old.left ≡ [])
    × (new ≡ record old { calls = next_count old.calls })
MemoryGives old new len Failed = FailsNext old.fails old.calls
    × (new ≡ record old { calls = next_count old.calls; faults = next_count old.faults })

-- a sink in memory: the bytes written, the most that a call takes, the most that all calls take, the numbers of the
-- calls that fail, and how many calls and failures there were
pub record MemorySinkState : Type 0 where
  pub written : List ℕ
  pub step : ℕ
  pub room : ℕ
  pub fails : List ℕ
  pub calls : ℕ
  pub faults : ℕ

-- how many more bytes a sink may take
abbrev pub room_left : MemorySinkState → ℕ
room_left s = s.room - length s.written

-- what a write of these bytes does
abbrev pub MemoryTakes : MemorySinkState → MemorySinkState → List ℕ → Put → Type 0
MemoryTakes old new from (Took n) = ¬ FailsNext old.fails old.calls
    × (n ≡ min (min (length from) old.step) (room_left old))
    × (new ≡ record old { written = old.written ++ take n from; calls = next_count old.calls })
MemoryTakes old new from Refused = (FailsNext old.fails old.calls ⊎ (room_left old ≡ 0))
    × (new ≡ record old { calls = next_count old.calls; faults = next_count old.faults })
MemoryTakes old new from Want = ¬ FailsNext old.fails old.calls
    × (0 < room_left old)
    × (new ≡ record old { calls = next_count old.calls })
