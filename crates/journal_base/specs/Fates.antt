-- What became of the clauses of a list of entries.
use Rattle.std.specs.Prelude.{◌≡◌, ℕ, ◌≤◌, nat_lt, List, length, take, Bool, false, Some, None, slice_get}
use Rattle.std.specs.List.{sum_by}
use Rattle.journals.specs.Journal.{Journal, is_erased, clause_named}
use Rattle.journal_base.specs.declared.fate.Fate.{Fate}
use Rattle.journal_base.specs.declared.fate.Fate.TheVariants.{NoClause, Alive, ErasedBy}

-- the clause is erased within so many entries
abbrev pub is_gone_by : Fate → ℕ → Bool
is_gone_by NoClause front = false
is_gone_by Alive front = false
is_gone_by (ErasedBy at) front = nat_lt at front

-- what the fates say of the entries of a list up to its end, which may be a front of the list that the fates are of
pub record AreToldBy (seen : Journal) (fates : List Fate) : Type 0 where
  pub long : length seen ≤ length fates
  pub told : (k : ℕ) (x : Fate) → slice_get fates k ≡ Some x → is_erased seen k ≡ is_gone_by x (length seen)

-- one fate for each entry: whether the entry's clause is erased, at any front, and which entries add no clause. No entry
-- erases a clause that isn't there yet.
pub record AreFates (J : Journal) (fates : List Fate) : Type 0 where
  pub long : length fates ≡ length J
  pub told : (front k : ℕ) (x : Fate) → slice_get fates k ≡ Some x → is_erased (take front J) k ≡ is_gone_by x front
  pub no_clause : (k : ℕ) → slice_get fates k ≡ Some NoClause → clause_named J k ≡ None
  pub later : (k : ℕ) → length J ≤ k → is_erased J k ≡ false

abbrev pub is_alive : Fate → ℕ
is_alive NoClause = 0
is_alive Alive = 1
is_alive (ErasedBy at) = 0

-- how many clauses no entry erases
abbrev pub alive_in : List Fate → ℕ
alive_in fates = sum_by is_alive fates
