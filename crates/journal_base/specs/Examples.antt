-- The words of entries, and which journals are legal, worked by hand.
use Rattle.std.specs.Prelude.{◌≡◌, ℕ, [], ◌∷◌, pos, codes}
use Rattle.prolog_terms.specs.Tree.{variable, integer, atom, compound, none, more}
use Rattle.prolog_terms.specs.declared.entry.Clause.{Clause}
use Rattle.prolog_terms.specs.declared.entry.Entry.{Entry}
use Rattle.prolog_terms.specs.declared.entry.Kind.TheVariants.{Static, Dynamic}
use Rattle.prolog_terms.specs.declared.entry.End.TheVariants.{Back}
use Rattle.prolog_terms.specs.declared.entry.What.{What}
use Rattle.prolog_terms.specs.declared.entry.What.TheVariants.{Declare, Add, Erase}
use Rattle.journals.specs.Examples.{fact, name}
use Rattle.journals.specs.Journal.{Journal}
use Rattle.journal_base.specs.Space.{need}
use Rattle.journal_base.specs.Legal.{Legal}

pub record HasRows : Type 0 where
  pub declaration_words : need (Declare (name 1 (codes "k")) Dynamic) ≡ 17
  pub addition_words : need (Add Back 0 (fact (compound (codes "k") (more (integer (pos 1)) none)))) ≡ 13
  -- k(X): one word for the variable, and no key
  pub variable_words : need (Add Back 0 (record { head = compound (codes "k") (more (variable 0) none); body = atom (codes "true"); vars = 1 })) ≡ 11
  -- k(f(1)): a key for the argument, and one for its own
  pub inner_words : need (Add Back 0 (fact (compound (codes "k") (more (compound (codes "f") (more (integer (pos 1)) none)) none)))) ≡ 16
  pub erasure_words : need (Erase 1) ≡ 0

-- ---- journals

abbrev pub by : ℕ → What → Entry
by engine w = record { by = engine; what = w }

-- k/1, dynamic and static
abbrev pub dynamic : What
dynamic = Declare (name 1 (codes "k")) Dynamic

abbrev pub static : What
static = Declare (name 1 (codes "k")) Static

-- k(1)
abbrev pub one_fact : Clause
one_fact = fact (compound (codes "k") (more (integer (pos 1)) none))

-- it is added to the first procedure
abbrev pub adds : What
adds = Add Back 0 one_fact

-- j(1), and k(1,1)
abbrev pub other_fact : Clause
other_fact = fact (compound (codes "j") (more (integer (pos 1)) none))

abbrev pub wide_fact : Clause
wide_fact = fact (compound (codes "k") (more (integer (pos 1)) (more (integer (pos 1)) none)))

-- the load declares k/1, adds k(1) and erases it
abbrev pub static_erased_by_load : Journal
static_erased_by_load = by 0 static ∷ by 0 adds ∷ by 0 (Erase 1) ∷ []

-- engine 1 declares k/1 and adds k(1), and engine 2 erases it
abbrev pub erased : Journal
erased = by 1 dynamic ∷ by 1 adds ∷ by 2 (Erase 1) ∷ []

pub record HasJournals : Type 0 where
  -- three updates and 30 words are enough, and neither may be less
  pub legal : Legal 30 3 erased
  pub too_many : Legal 30 2 erased → ⊥
  pub too_large : Legal 29 3 (by 1 dynamic ∷ by 1 adds ∷ []) → ⊥
  -- a clause is erased once, and a procedure is declared once, whichever engine does it
  pub erased_twice : Legal 1000 100 (by 1 dynamic ∷ by 1 adds ∷ by 1 (Erase 1) ∷ by 2 (Erase 1) ∷ []) → ⊥
  pub declared_twice : Legal 1000 100 (by 1 dynamic ∷ by 2 dynamic ∷ []) → ⊥
  -- a procedure is declared before its clauses are added
  pub added_first : Legal 1000 100 (by 1 adds ∷ by 1 dynamic ∷ []) → ⊥
  -- a static one is the load's alone
  pub static_added : Legal 1000 100 (by 0 static ∷ by 1 adds ∷ []) → ⊥
  pub static_declared : Legal 1000 100 (by 1 static ∷ []) → ⊥
  pub static_legal : Legal 30 3 static_erased_by_load
  -- a clause stands in the procedure of its head's name and arity
  pub other_name : Legal 1000 100 (by 1 dynamic ∷ by 1 (Add Back 0 other_fact) ∷ []) → ⊥
  pub other_arity : Legal 1000 100 (by 1 dynamic ∷ by 1 (Add Back 0 wide_fact) ∷ []) → ⊥
  pub other_procedure : Legal 1000 100 (by 1 dynamic ∷ by 1 (Add Back 1 one_fact) ∷ []) → ⊥
  -- what is erased was added before
  pub erased_nothing : Legal 1000 100 (by 1 dynamic ∷ by 1 (Erase 7) ∷ []) → ⊥
  pub erased_declaration : Legal 1000 100 (by 1 dynamic ∷ by 1 (Erase 0) ∷ []) → ⊥
  pub erased_first : Legal 1000 100 (by 1 dynamic ∷ by 1 (Erase 2) ∷ by 1 adds ∷ []) → ⊥
  pub static_erased : Legal 1000 100 (by 0 static ∷ by 0 adds ∷ by 1 (Erase 1) ∷ []) → ⊥
