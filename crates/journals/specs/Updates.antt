-- How many updates a procedure has had, and the ends of its chain.
use Rattle.std.specs.Prelude.{ℕ, ◌+◌, ◌==◌, length, filter, reverse, Bool, false, Option, Some, None, option_and_then, slice_get}
use Rattle.std.specs.Option.{option_map_or}
use Rattle.prolog_terms.specs.declared.entry.What.{What}
use Rattle.prolog_terms.specs.declared.entry.What.TheVariants.{Declare, Add, Erase}
use Rattle.journals.specs.Journal.{Journal, chain, procedure_of}

-- the clause named k is one of p's
abbrev pub is_clause_of : Journal → ℕ → ℕ → Bool
is_clause_of J p k = option_map_or (λ q. q == p) (option_and_then (λ e. procedure_of e.what) (slice_get J k)) false

-- an entry adds a clause to p, or erases one of p's
abbrev pub changes : Journal → ℕ → What → Bool
changes J p (Declare i k) = false
changes J p (Add e q c) = q == p
changes J p (Erase k) = is_clause_of J p k

-- the additions to p and the erasures from p
abbrev pub updates_of : Journal → ℕ → ℕ
updates_of J p = length (filter (λ e. changes J p e.what) J)

-- the first and the last clause of p's chain, those that are erased too
abbrev pub first_of : Journal → ℕ → Option ℕ
first_of J p = slice_get (chain J p) 0

abbrev pub last_of : Journal → ℕ → Option ℕ
last_of J p = slice_get (reverse (chain J p)) 0

-- a name as a word has it: plus one, and 0 for none
abbrev pub plus_one : Option ℕ → ℕ
plus_one None = 0
plus_one (Some k) = k + 1
