-- Images that are lawful for a journal.
use Rattle.std.specs.Prelude.{◌≡◌, ℕ, ◌^◌, ◌<◌, ◌≤◌, List, length, take, slice_index}
use Rattle.journals.specs.Journal.{Journal}
use Rattle.journals.specs.Updates.{first_of, last_of, plus_one, updates_of}
use Rattle.call_patterns.specs.Patterns.{IsPattern, positions}
use Rattle.call_patterns.specs.Rows.{bucket, rows}
use Rattle.call_patterns.specs.Size.{empty_leaf, size}
use Rattle.call_patterns.specs.declared.pattern.Pattern.{Pattern}
use Rattle.call_patterns.specs.declared.row.Row.{Row}
use Rattle.word_fields.specs.Fields.{field}
use Rattle.index_trees.specs.Images.{header_word, shown_at, HoldsBucket, IsHeader}
use Rattle.index_trees.specs.declared.image.Mark.{Mark}

-- The header names a procedure, a pattern and the length m of a journal, no more than that of J. It says of the procedure in
-- the first m entries of J how many rows it has, how many updates it has had, and which clauses are the ends of its chain;
-- and each list of codes as long as the pattern leads to the bucket of these rows.
pub record Lawful (words : List ℕ) (J : Journal) (m : ℕ) : Type 0 where
  pub procedure : ℕ
  pub pattern : Pattern
  pub within : m ≤ length J
  pub numbered : procedure < 2 ^ 32
  pub is_pattern : IsPattern pattern
  pub names : slice_index words 0 ≡ header_word procedure (shown_at pattern 0) (shown_at pattern 1) (shown_at pattern 2)
  pub mark : slice_index words 1 ≡ m
  pub covered : slice_index words 2 ≡ length (rows (take m J) procedure)
  pub updates : slice_index words 3 ≡ updates_of (take m J) procedure
  pub first : slice_index words 4 ≡ plus_one (first_of (take m J) procedure)
  pub last : slice_index words 5 ≡ plus_one (last_of (take m J) procedure)
  pub whole : slice_index words 6 ≡ length words
  pub empty : slice_index words empty_leaf ≡ 0
  pub buckets : (codes : List ℕ) → length codes ≡ pattern.count → HoldsBucket words codes (bucket (rows (take m J) procedure) (positions pattern) codes)

-- what the first word says
pub record Names (word procedure : ℕ) (pattern : Pattern) : Type 0 where
  pub procedure_is : field 0 32 word ≡ procedure
  pub first : field 32 6 word ≡ shown_at pattern 0
  pub second : field 38 6 word ≡ shown_at pattern 1
  pub third : field 44 6 word ≡ shown_at pattern 2
  pub format : field 50 8 word ≡ 1

-- ---- what is built

-- a mark that says these things of the first m entries of J
pub record MarksAt (J : Journal) (m : ℕ) (made : Mark) : Type 0 where
  pub within : m ≤ length J
  pub mark : made.mark ≡ m
  pub updates : made.updates ≡ updates_of (take m J) made.proc
  pub first : made.first ≡ plus_one (first_of (take m J) made.proc)
  pub last : made.last ≡ plus_one (last_of (take m J) made.proc)

-- what `build` says of the words that it makes
pub record IsBuilt (words : List ℕ) (held : List Row) (pattern : Pattern) (made : Mark) : Type 0 where
  pub header : IsHeader words (header_word made.proc (shown_at pattern 0) (shown_at pattern 1) (shown_at pattern 2)) made (length held)
  pub size : length words ≡ size held pattern
  pub buckets : (codes : List ℕ) → length codes ≡ pattern.count → HoldsBucket words codes (bucket held (positions pattern) codes)
