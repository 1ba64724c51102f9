use Rattle.std.specs.Prelude.{ℕ, ◌≤◌, ◌<◌, List, length, take}
use Rattle.std.specs.declared.option.Option.{Option}
use Rattle.std.specs.Io.KnownBytes.{Consumes, IsAtEnd, Keeps}
use Rattle.prolog_session.specs.declared.source.Got.{Got}
use Rattle.prolog_session.specs.declared.source.Got.TheVariants.{Bytes, End, Failed}

-- what a read into these bytes does to the bytes that are left
abbrev pub ReadGives : Option (List ℕ) → Option (List ℕ) → List ℕ → Got → Type 0
ReadGives old new into (Bytes n) = (0 < n) × (n ≤ length into) × Consumes old new (take n into)
ReadGives old new into End = IsAtEnd new × Keeps old new
ReadGives old new into Failed = Keeps old new
