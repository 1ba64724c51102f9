use Rattle.std.specs.Prelude.{◌≡◌, ℕ, min, List, [], ◌++◌, length, take, drop}
use Rattle.prolog_session.specs.declared.source.Got.{Got}
use Rattle.prolog_session.specs.declared.source.Got.TheVariants.{Bytes, End, Failed}
use Rattle.prolog_session.specs.declared.sink.Put.{Put}
use Rattle.prolog_session.specs.declared.sink.Put.TheVariants.{Took, Failed as Refused, Want}

-- a source that never fails: the bytes left, and the most that a call gives
pub record SteadySourceState : Type 0 where
  pub left : List ℕ
  pub step : ℕ

-- what a read into a slice of this length does
abbrev pub SteadyGives : SteadySourceState → SteadySourceState → ℕ → Got → Type 0
SteadyGives old new len (Bytes n) = (n ≡ min (min (length old.left) old.step) len)
    × (new ≡ record old { left = drop n old.left })
SteadyGives old new len End = (old.left ≡ []) × (new ≡ old)
SteadyGives old new len Failed = ⊥

-- a sink that never fails: the bytes written, and the most that a call takes
pub record SteadySinkState : Type 0 where
  pub written : List ℕ
  pub step : ℕ

-- what a write of these bytes does
abbrev pub SteadyTakes : SteadySinkState → SteadySinkState → List ℕ → Put → Type 0
SteadyTakes old new from (Took n) = (n ≡ min (length from) old.step)
    × (new ≡ record old { written = old.written ++ take n from })
SteadyTakes old new from Refused = ⊥
SteadyTakes old new from Want = new ≡ old
