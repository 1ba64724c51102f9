-- How many words the tree of some rows has.
use Rattle.std.specs.Prelude.{ℕ, ◌+◌, ◌*◌, List, [], ◌∷◌, length, filter, nat_lt, Bool, true, false, Option, Some, None, if◌then◌else◌}
use Rattle.call_patterns.specs.Patterns.{positions}
use Rattle.call_patterns.specs.Rows.{code_of, fits}
use Rattle.call_patterns.specs.declared.pattern.Pattern.{Pattern}
use Rattle.call_patterns.specs.declared.row.Row.{Row}

-- the words of a tree's header
abbrev pub header_length : ℕ
header_length = 8

-- where the empty leaf stands, behind the header
abbrev pub empty_leaf : ℕ
empty_leaf = 8

-- ---- the distinct codes at a position

-- a code put into an ascending list, once
abbrev pub insert_code : ℕ → List ℕ → List ℕ
insert_code c [] = c ∷ []
insert_code c (x ∷ xs) = if nat_lt c x then c ∷ x ∷ xs else if nat_lt x c then x ∷ insert_code c xs else x ∷ xs

abbrev pub with_code : Option ℕ → List ℕ → List ℕ
with_code None cs = cs
with_code (Some c) cs = insert_code c cs

-- the distinct codes at a position, ascending
unfoldable pub codes_at : ℕ → List Row → List ℕ
codes_at p [] = []
codes_at p (row ∷ rows) = with_code (code_of row p) (codes_at p rows)

-- ---- words

abbrev pub is_none : Option ℕ → Bool
is_none None = true
is_none (Some c) = false

abbrev pub has_no_code : ℕ → Row → Bool
has_no_code p row = is_none (code_of row p)

abbrev pub total : (ℕ → ℕ) → List ℕ → ℕ
total f [] = 0
total f (c ∷ cs) = f c + total f cs

-- nothing for no rows: they have no node of their own
abbrev pub unless_empty : {A : Type 0} → List A → ℕ → ℕ
unless_empty [] n = 0
unless_empty (x ∷ xs) n = n

-- The nodes of some rows at these positions. Past the last one a leaf: its length, and the names. At a position: the number
-- of distinct codes, the default child, and each code with its child; then the default child's own nodes, of the rows that
-- have no code there, and each other child's, of the rows that have its code or none.
unfoldable pub size_from : List ℕ → List Row → ℕ
size_from [] rows = unless_empty rows (1 + length rows)
size_from (p ∷ ps) rows = unless_empty rows
    (2 + 2 * length (codes_at p rows) + size_from ps (filter (has_no_code p) rows)
    + total (λ c. size_from ps (filter (fits p c) rows)) (codes_at p rows))

-- the header, the empty leaf, and the nodes
abbrev pub size : List Row → Pattern → ℕ
size rows p = header_length + 1 + size_from (positions p) rows
