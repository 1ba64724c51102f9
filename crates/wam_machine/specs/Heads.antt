-- What the engine finds a head, a body and a clause to be.
use Rattle.std.specs.Prelude.{◌≡◌, Bool, true, false, Option, MatchOption}
use Rattle.prolog_terms.specs.Tree.{Tree}
use Rattle.prolog_terms.specs.declared.entry.Indicator.{Indicator}
use Rattle.prolog_terms.specs.declared.fault.Fault.TheVariants.{Instantiation}
use Rattle.prolog_clauses.specs.Formed.{Parts, parts_of, rule, fact}
use Rattle.term_store.specs.declared.cell.Cell.{Cell}
use Rattle.wam_machine.specs.States.{State, Outcome, raises, not_callable}
use Rattle.wam_machine.specs.Procedures.{headed, unless_integer}
use Rattle.wam_machine.specs.Terms.{IsBuilt, built}
use Rattle.wam_machine.specs.declared.matching.Head.{Head}
use Rattle.wam_machine.specs.declared.matching.Head.TheVariants as is
use Rattle.wam_machine.specs.declared.terms.Terms.{Terms}

-- what follows by a head, as it is found
abbrev pub IsHead : Tree → Head → Type 0
IsHead t is.Unbound = (at : Indicator) (s : State) (with : Indicator → Outcome) → headed at t s with ≡ raises Instantiation at s
IsHead t is.Number = (at : Indicator) (s : State) (with : Indicator → Outcome) → headed at t s with ≡ raises (not_callable t) at s
IsHead t (is.Named i) = (at : Indicator) (s : State) (with : Indicator → Outcome) → headed at t s with ≡ with i

-- an integer is no body
abbrev pub IsNumber : Tree → Bool → Type 0
IsNumber t true = (at : Indicator) (s : State) (then_ : Outcome) → unless_integer at t s then_ ≡ raises (not_callable t) at s
IsNumber t false = (at : Indicator) (s : State) (then_ : Outcome) → unless_integer at t s then_ ≡ then_

-- the cells have these terms
pub record AreParts {C : Type 0} (t : Terms C) (p : Parts) (cells : Cell × Cell) : Type 0 where
  pub head : IsBuilt t cells.0
  pub body : IsBuilt t cells.1
  pub head_is : built t cells.0 ≡ p.head
  pub body_is : built t cells.1 ≡ p.body

-- the cells have the head and the body of a rule, or the term is a fact
abbrev pub AreSides : {C : Type 0} → Terms C → Tree → Option (Cell × Cell) → Type 0
AreSides t tree found = MatchOption found (parts_of tree ≡ fact tree) (λ p. (IsBuilt t p.0 × IsBuilt t p.1) × (parts_of tree ≡ rule (built t p.0) (built t p.1)))
