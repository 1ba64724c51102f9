-- Which journals are legal.
use Rattle.std.specs.Prelude.{◌≡◌, ◌≢◌, ℕ, ◌≤◌, length, true, take, Some, None, slice_get, option_and_then}
use Rattle.prolog_terms.specs.Indicators.{indicator_of}
use Rattle.prolog_terms.specs.Clauses.{IsClause}
use Rattle.prolog_terms.specs.declared.entry.Entry.{Entry}
use Rattle.prolog_terms.specs.declared.entry.Clause.{Clause}
use Rattle.prolog_terms.specs.declared.entry.Indicator.{Indicator}
use Rattle.prolog_terms.specs.declared.entry.Kind.{Kind}
use Rattle.prolog_terms.specs.declared.entry.Kind.TheVariants.{Static, Dynamic}
use Rattle.prolog_terms.specs.declared.entry.What.{What}
use Rattle.prolog_terms.specs.declared.entry.What.TheVariants.{Declare, Add, Erase}
use Rattle.journal_base.specs.Space.{used}
use Rattle.journals.specs.Journal.{Journal, procedures, number_of, clause_named, is_erased, procedure_of}

-- a static procedure is the load's alone, which is engine 0
abbrev pub MayChange : Kind → ℕ → Type 0
MayChange Static engine = engine ≡ 0
MayChange Dynamic engine = Unit {0}

-- what an addition to procedure p needs: it is declared before, with the name and arity of the clause's head
pub record MayAdd (J : Journal) (engine p : ℕ) (c : Clause) : Type 0 where
  pub procedure : Indicator × Kind
  pub declared : slice_get (procedures J) p ≡ Some procedure
  pub headed : indicator_of c.head ≡ Some procedure.0
  pub permitted : MayChange procedure.1 engine
  pub clause : IsClause c

-- a clause is changed as its procedure is
abbrev pub MayChangeClause : Journal → ℕ → ℕ → Type 0
MayChangeClause J engine k = (e : Entry) (d : Indicator × Kind) → slice_get J k ≡ Some e → option_and_then (slice_get (procedures J)) (procedure_of e.what) ≡ Some d → MayChange d.1 engine

-- what an erasure of the clause named k needs: it was added before, and no entry erases it
pub record MayErase (J : Journal) (engine k : ℕ) : Type 0 where
  pub clause : Clause
  pub named : clause_named J k ≡ Some clause
  pub alive : is_erased J k ≢ true
  pub permitted : MayChangeClause J engine k

-- An entry may follow a journal: what it declares is not declared before, and so on.
abbrev pub MayFollow : Journal → ℕ → What → Type 0
MayFollow J engine (Declare i k) = (number_of J i ≡ None) × MayChange k engine
MayFollow J engine (Add end p c) = MayAdd J engine p c
MayFollow J engine (Erase k) = MayErase J engine k

-- each entry may follow those before it, there are no more of them than `updates`, and they use no more than `words`
pub record Legal (words updates : ℕ) (J : Journal) : Type 0 where
  pub follows : (n : ℕ) (e : Entry) → slice_get J n ≡ Some e → MayFollow (take n J) e.by e.what
  pub few : length J ≤ updates
  pub fits : used J ≤ words
