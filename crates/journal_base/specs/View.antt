-- What a base shows of itself: the journals that it stands for, and how much of them it has seen.
use Rattle.std.specs.Prelude.{◌≡◌, ℕ, ◌+◌, ◌-◌, ◌^◌, ◌<◌, ◌≤◌, ◌==◌, List, [], ◌∷◌, ◌++◌, length, take, filter, Bool, true, false, Option, Some, None, slice_get, if◌then◌else◌}
use Rattle.prolog_terms.specs.declared.entry.Entry.{Entry}
use Rattle.prolog_terms.specs.declared.entry.What.{What}
use Rattle.journals.specs.Journal.{Journal}
use Rattle.journal_base.specs.Legal.{Legal}

pub record View : Type 1 where
  -- the journals that it stands for
  pub stands_for : Journal → Type 0
  -- its front: how long the journal is that it has seen
  pub seen : ℕ
  -- the engine that it serves
  pub number : ℕ
  -- its sizes
  pub words : ℕ
  pub updates : ℕ
  -- the numbers of the causes that may come from it
  pub causes : List ℕ
  -- the entries by its engine, in order
  pub own : List Entry

abbrev pub entries_by : ℕ → Journal → List Entry
entries_by e J = filter (λ x. x.by == e) J

-- what holds of each journal that the base stands for: it is legal, no shorter than the front, and its entries by the base's
-- engine are the base's own, all of them seen
pub record Fits (v : View) (J : Journal) : Type 0 where
  pub legal : Legal v.words v.updates J
  pub long : v.seen ≤ length J
  pub own : entries_by v.number J ≡ v.own
  pub own_seen : entries_by v.number (take v.seen J) ≡ v.own

-- sizes: words from 1 to 2^30, updates from 1 to 2^24 - 1
pub record AreSizes (words updates : ℕ) : Type 0 where
  pub some_words : 1 ≤ words
  pub few_words : words ≤ 2 ^ 30
  pub some_updates : 1 ≤ updates
  pub few_updates : updates < 2 ^ 24

-- its sizes are sizes, there is a journal that it stands for, and each one fits
pub record IsSound (v : View) : Type 0 where
  pub sizes : AreSizes v.words v.updates
  pub some : ∥ ((J : Journal) × v.stands_for J) ∥₁
  pub each : (J : Journal) → v.stands_for J → Fits v J

-- in each journal that the base stands for, what is seen of it meets P
abbrev pub InSeen : View → (Journal → Type 0) → Type 0
InSeen v P = (J : Journal) → v.stands_for J → P (take v.seen J)

-- The front has not fallen; each journal has a prefix that the base stood for before, no shorter than the front before; the
-- engine, the sizes and the causes are the same.
pub record Grows (old new : View) : Type 0 where
  pub front : old.seen ≤ new.seen
  pub prefix : (J : Journal) → new.stands_for J → (n : ℕ) × ((old.seen ≤ n) × ((n ≤ length J) × old.stands_for (take n J)))
  pub number : new.number ≡ old.number
  pub words : new.words ≡ old.words
  pub updates : new.updates ≡ old.updates
  pub causes : new.causes ≡ old.causes
  pub sound : IsSound new

-- the same, and no entry of the base's engine was added
pub record Looks (old new : View) : Type 0 where
  pub grows : Grows old new
  pub own : new.own ≡ old.own

-- the same, and one entry of the base's engine was added, which is the last that is seen
pub record Appends (old new : View) (what : What) : Type 0 where
  pub grows : Grows old new
  pub own : new.own ≡ old.own ++ record { by = new.number; what = what } ∷ []
  pub some_seen : 0 < new.seen
  pub last : (J : Journal) → new.stands_for J → slice_get J (new.seen - 1) ≡ Some (record { by = new.number; what = what })

-- ---- cursors

-- how many cursors are out, in all and of each group of cursors that share a hold
pub record Out : Type 0 where
  pub all : ℕ
  pub of_group : ℕ → ℕ

-- no cursor is out
abbrev pub none_out : Out
none_out = record { all = 0; of_group = λ _. 0 }

-- one cursor more of a group is out
abbrev pub opened : ℕ → Out → Out
opened g o = record { all = o.all + 1; of_group = λ h. if h == g then o.of_group h + 1 else o.of_group h }

-- an answer is the first of a list, and leaves the rest; there is none exactly where the list is empty
abbrev pub Gives : Option ℕ → List ℕ → List ℕ → Type 0
Gives None old new = (old ≡ []) × (new ≡ [])
Gives (Some k) old new = old ≡ k ∷ new

abbrev pub has_more : List ℕ → Bool
has_more [] = false
has_more (k ∷ ks) = true
