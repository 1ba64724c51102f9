-- Sizes of trees: worked ones, and those of some forms by how many rows and codes there are.
use Rattle.std.specs.Prelude.{◌≡◌, ℕ, ◌+◌, ◌*◌, ◌≤◌, List, [], ◌∷◌, length, map, false, Option, Some, None, All}
use Rattle.call_patterns.specs.Patterns.{positions}
use Rattle.call_patterns.specs.Size.{codes_at, has_no_code, header_length, size, size_from}
use Rattle.call_patterns.specs.declared.pattern.Pattern.{Pattern}
use Rattle.call_patterns.specs.declared.row.Row.{Row}

-- a row with codes at the first positions
abbrev pub row : ℕ → List (Option ℕ) → Row
row name codes = record { clause = name; codes = codes }

abbrev pub one_code : ℕ → Row
one_code c = row c (Some c ∷ [])

abbrev pub two_codes : ℕ → ℕ → Row
two_codes a b = row b (Some a ∷ Some b ∷ [])

abbrev pub words : List ℕ → List Row → ℕ
words positions rows = header_length + 1 + size_from positions rows

abbrev pub eight : List ℕ
eight = 5 ∷ 3 ∷ 8 ∷ 1 ∷ 2 ∷ 4 ∷ 6 ∷ 7 ∷ []

pub record WorkedSizes : Type 0 where
  -- eight rows of distinct codes, at one position: 11 + 3 * 8 + 8
  pub distinct : words (0 ∷ []) (map one_code eight) ≡ 43
  -- seven rows of distinct codes and one without a code
  pub one_without : words (0 ∷ []) (one_code 1 ∷ one_code 2 ∷ one_code 3 ∷ one_code 4 ∷ one_code 5 ∷ one_code 6 ∷ one_code 7 ∷ row 8 (None ∷ []) ∷ []) ≡ 48
  -- eight rows of two codes: 11 + 3 * 2 + 8
  pub shared : words (0 ∷ []) (map (row 1) ((Some 4 ∷ []) ∷ (Some 9 ∷ []) ∷ (Some 4 ∷ []) ∷ (Some 4 ∷ []) ∷ (Some 9 ∷ []) ∷ (Some 9 ∷ []) ∷ (Some 4 ∷ []) ∷ (Some 4 ∷ []) ∷ [])) ≡ 25
  -- one code at the first position, eight at the second
  pub below_one : words (0 ∷ 1 ∷ []) (map (two_codes 9) eight) ≡ 47
  -- eight first codes and eight second ones: 11 + 8 * 8
  pub two_positions : words (0 ∷ 1 ∷ []) (map (λ n. two_codes n (n + 10)) eight) ≡ 75
  -- no rows, at two positions
  pub nothing : words (0 ∷ 1 ∷ []) [] ≡ 9
  -- eight rows at no position: 10 + 8
  pub no_position : words [] (map one_code eight) ≡ 18

-- ---- sizes by counts

-- each row has a code at a position
abbrev pub HaveCodes : ℕ → List Row → Type 0
HaveCodes p rows = All (λ row. has_no_code p row ≡ false) rows

-- there are as many distinct codes at a position as rows
abbrev pub AreDistinctAt : ℕ → List Row → Type 0
AreDistinctAt p rows = length (codes_at p rows) ≡ length rows

pub record SizesByCounts : Type 0 where
  -- the size of a tree is that at the positions of its pattern
  pub whole : (rows : List Row) (pattern : Pattern) → size rows pattern ≡ words (positions pattern) rows
  -- no rows, at any positions
  pub nothing : (positions : List ℕ) → words positions [] ≡ 9
  -- at no position
  pub no_position : (rows : List Row) → 1 ≤ length rows → words [] rows ≡ 10 + length rows
  -- at one position, where each row has a code
  pub one_position : (p : ℕ) (rows : List Row) → 1 ≤ length rows → HaveCodes p rows → words (p ∷ []) rows ≡ 11 + 3 * length (codes_at p rows) + length rows
  -- at two positions, where each row has a code at both, and those at the first are distinct
  pub two_positions : (p q : ℕ) (rows : List Row) → 1 ≤ length rows → HaveCodes p rows → HaveCodes q rows → AreDistinctAt p rows → words (p ∷ q ∷ []) rows ≡ 11 + 8 * length rows
