-- What the load does to its base.
use Rattle.std.specs.Prelude.{◌≡◌, ℕ, Bool, List, [], ◌∷◌, ◌++◌, true, Option, Some, None, is_some, IfSome}
use Rattle.prolog_terms.specs.Operators.{Table}
use Rattle.prolog_terms.specs.declared.entry.Clause.{Clause}
use Rattle.prolog_terms.specs.declared.entry.Entry.{Entry}
use Rattle.prolog_terms.specs.declared.entry.Indicator.{Indicator}
use Rattle.prolog_terms.specs.declared.fault.Fault.{Fault}
use Rattle.journals.specs.Journal.{Journal, number_of}
use Rattle.journal_base.specs.Plain.{Plain}
use Rattle.journal_base.specs.declared.sizes.Sizes.{Sizes}
use Rattle.wam_machine.specs.declared.run.Goal.{Goal}
use Rattle.wam_machine.specs.declared.run.Run.{Run}
use Rattle.prolog_session.specs.Runs.{IsRunBy}
use Rattle.prolog_session.specs.Load.{Placed, Loaded, with_procedure, with_clause, with_dynamics, raised, op}

abbrev pub sizes_of : Plain → Sizes
sizes_of b = record { words = b.words; updates = b.updates }

-- an empty base of these sizes that serves engine 0, but for its entries
abbrev pub holding : Sizes → Journal → Plain
holding sizes J = record { number = 0; words = sizes.words; updates = sizes.updates; entries = J; out = 0 }

-- it serves engine 0, and no cursor of it is out
pub record IsOfLoad (b : Plain) : Type 0 where
  pub number : b.number ≡ 0
  pub out : b.out ≡ 0

-- the load so far that a base and its runs stand for
abbrev pub loaded_in : Plain → List Run → Loaded
loaded_in b runs = record { journal = b.entries; runs = runs }

-- the run of a directive for operators in this line that raises an error, if it does
abbrev pub error_runs : ℕ → Option Fault → List Run
error_runs line None = []
error_runs line (Some fault) = raised line fault op ∷ []

-- the base holds the journal that was placed, and is otherwise the same
pub record Holds (old new : Plain) (placed : Placed) (fits : Bool) : Type 0 where
  pub base : new ≡ record old { entries = placed.journal }
  pub room : fits ≡ placed.fits

-- the procedure is declared and has this number, or its declaration had no room
pub record HasProcedure (old new : Plain) (i : Indicator) (number : Option ℕ) : Type 0 where
  pub holds : Holds old new (with_procedure (sizes_of old) old.entries i) (is_some number)
  pub numbered : IfSome number (λ p. number_of new.entries i ≡ Some p)

-- the clause is added, or something had no room
abbrev pub HasClause : Plain → Plain → Indicator → Clause → Bool → Type 0
HasClause old new i c fits = Holds old new (with_clause (sizes_of old) old.entries i c) fits

-- the procedures are declared dynamic where they aren't declared, or one of them had no room
abbrev pub HasDynamics : Plain → Plain → List Indicator → Bool → Type 0
HasDynamics old new is fits = Holds old new (with_dynamics (sizes_of old) (record { journal = old.entries; fits = true }) is) fits

-- a goal has run by the engine that the base serves, and the base holds what the run made
pub record HasRunBy (ops : Table) (old new : Plain) (line : ℕ) (goal : Goal) (budget : ℕ) (run : Run) : Type 0 where
  pub made : List Entry
  pub base : new ≡ record old { entries = old.entries ++ made }
  pub run_is : IsRunBy (sizes_of old) ops old.number line goal old.entries made budget run
