use Rattle.std.specs.Prelude.{ℕ, ◌≤◌, ◌<◌, List, length, ⊤}
use Rattle.std.specs.declared.option.Option.{Option}
use Rattle.std.specs.Io.KnownBytes.{Consumes, IsAtEnd}
use Rattle.prolog_session.specs.declared.reading.Text.{Text}
use Rattle.prolog_session.specs.declared.reading.Text.TheVariants.{Whole, TooLong, Failed, Want}

-- the most bytes that a text may have
abbrev pub max_text : ℕ
max_text = 67_108_864

-- the whole text was read, up to a limit; past it, more than the limit was
abbrev pub ReadsAll : ℕ → Option (List ℕ) → Option (List ℕ) → Text → Type 0
ReadsAll limit old new (Whole text) = (length text.items ≤ limit) × Consumes old new text.items × IsAtEnd new
ReadsAll limit old new TooLong = (bytes : List ℕ) × (limit < length bytes) × Consumes old new bytes
ReadsAll limit old new Failed = ⊤
ReadsAll limit old new Want = ⊤
