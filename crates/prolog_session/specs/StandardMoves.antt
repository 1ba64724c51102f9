use Rattle.std.specs.Prelude.{◌≡◌, ℕ}
use Rattle.prolog_session.specs.FaultCounts.{next_count}
use Rattle.prolog_session.specs.declared.source.Got.{Got}
use Rattle.prolog_session.specs.declared.source.Got.TheVariants.{Bytes, End, Failed}
use Rattle.prolog_session.specs.declared.sink.Put.{Put}
use Rattle.prolog_session.specs.declared.sink.Put.TheVariants.{Took, Failed as Refused, Want}

-- a reader or a writer of std, and how often it has failed
pub record StdState (Device : Type 0) : Type 0 where
  pub device : Device
  pub faults : ℕ

-- a read counts its failure, and no other answer
abbrev pub CountsFailedRead : ℕ → ℕ → Got → Type 0
CountsFailedRead old new (Bytes n) = new ≡ old
CountsFailedRead old new End = new ≡ old
CountsFailedRead old new Failed = new ≡ next_count old

-- a write counts its failure, and no other answer; it never wants memory
abbrev pub CountsFailedWrite : ℕ → ℕ → Put → Type 0
CountsFailedWrite old new (Took n) = new ≡ old
CountsFailedWrite old new Refused = new ≡ next_count old
CountsFailedWrite old new Want = ⊥
