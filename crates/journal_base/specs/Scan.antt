-- The scan of a list of entries: from the last entry to the first for clauses added at the front, then on from the first
-- to the last for those added at the back.
use Rattle.std.specs.Prelude.{ℕ, ◌-◌, ◌*◌, nat_lt, List, [], ◌∷◌, length, map, filter, Bool, ◌&&◌, not, Option, Some, None, if◌then◌else◌}
use Rattle.prolog_terms.specs.declared.entry.End.{End}
use Rattle.prolog_terms.specs.declared.entry.End.TheVariants.{Front, Back}
use Rattle.journals.specs.Numbers.{numbers_from}
use Rattle.journals.specs.Journal.{Journal, adds_at, is_erased, clause_named}
use Rattle.call_patterns.specs.Candidates.{head_agrees}
use Rattle.journal_base.specs.Goals.{Goal}

-- the place q of the scan of n entries: an end, and the entry that is looked at there
unfoldable pub place : ℕ → ℕ → End × ℕ
place n q = if nat_lt q n then (Front, n - 1 - q) else (Back, q - n)

unfoldable pub places : ℕ → ℕ → List (End × ℕ)
places n q = map (place n) (numbers_from q (2 * n - q))

unfoldable pub adds_here : Journal → ℕ → End × ℕ → Bool
adds_here J p x = adds_at J x.0 p x.1

unfoldable pub is_candidate : Journal → Goal → End × ℕ → Bool
unfolding adds_here
is_candidate J g x = adds_here J g.procedure x && (not (is_erased J x.1) && head_agrees g.keys (clause_named J x.1))

-- the candidates from a place of the scan on
unfoldable pub scan : Journal → Goal → ℕ → List ℕ
scan J g q = map (λ x. x.1) (filter (is_candidate J g) (places (length J) q))

-- how many of the procedure's clauses are from there on
unfoldable pub left : Journal → ℕ → ℕ → ℕ
left J p q = length (filter (adds_here J p) (places (length J) q))

abbrev pub listed : Option ℕ → List ℕ
listed None = []
listed (Some k) = k ∷ []
