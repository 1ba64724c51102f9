use Rattle.std.specs.Prelude.{ℕ, ◌≤◌, ◌<◌, List, length, take}
use Rattle.std.specs.declared.option.Option.{Option}
use Rattle.std.specs.Io.KnownBytes.{Appends, Keeps}
use Rattle.prolog_session.specs.declared.sink.Put.{Put}
use Rattle.prolog_session.specs.declared.sink.Put.TheVariants.{Took, Failed, Want}

-- what a write of these bytes does to the bytes written
abbrev pub WriteTakes : Option (List ℕ) → Option (List ℕ) → List ℕ → Put → Type 0
WriteTakes old new from (Took n) = (0 < n) × (n ≤ length from) × Appends old new (take n from)
WriteTakes old new from Failed = Keeps old new
WriteTakes old new from Want = Keeps old new

-- some of these bytes, from the front, were written
abbrev pub AppendsPrefix : Option (List ℕ) → Option (List ℕ) → List ℕ → Type 0
AppendsPrefix old new bytes = (n : ℕ) × Appends old new (take n bytes)
