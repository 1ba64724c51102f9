-- Balls, and the numbers of `halt`.
use Rattle.std.specs.Prelude.{◌≡◌}
use Rattle.prolog_terms.specs.Tree.{Tree}
use Rattle.prolog_terms.specs.declared.fault.Fault.TheVariants.{Instantiation}
use Rattle.prolog_terms.specs.declared.entry.Indicator.{Indicator}
use Rattle.std.specs.Prelude.{codes}
use Rattle.wam_machine.specs.States.{Setting, State, raises, over}
use Rattle.wam_machine.specs.Machine.{throwing, raise_it, halting, halt_with, not_integer}
use Rattle.wam_machine.specs.declared.run.RunEnd.TheVariants.{Halted}
use Rattle.wam_machine.specs.declared.balls.Thrown.{Thrown}
use Rattle.wam_machine.specs.declared.balls.Thrown.TheVariants as is
use Rattle.wam_machine.specs.declared.balls.Code.{Code}
use Rattle.wam_machine.specs.declared.balls.Code.TheVariants as code

abbrev pub throw_one : Indicator
throw_one = record { name = codes "throw"; arity = 1 }

-- what `throw` does with a term
abbrev pub IsThrown : Tree → Thrown → Type 0
IsThrown t is.Unbound = (s : State) → throwing t s ≡ raises Instantiation throw_one s
IsThrown t (is.Ball ball) = (s : State) → throwing t s ≡ raise_it ball s

-- what `halt` does with a term
abbrev pub IsCode : Tree → Code → Type 0
IsCode t code.Unbound = (x : Setting) (s : State) → halting x t s ≡ raises Instantiation halt_with s
IsCode t (code.Number z) = (x : Setting) (s : State) → halting x t s ≡ over x s (Halted z)
IsCode t code.Other = (x : Setting) (s : State) → halting x t s ≡ raises (not_integer t) halt_with s
