-- What a text may define is called as a procedure, and nothing else is.
use Rattle.std.specs.Prelude.{◌≡◌, ◌≢◌, true, false, Some}
use Rattle.prolog_terms.specs.Tree.{Tree, HasArities}
use Rattle.prolog_terms.specs.Indicators.{indicator_of}
use Rattle.prolog_terms.specs.declared.entry.Indicator.{Indicator}
use Rattle.wam_machine.specs.Control.{control_of, User}
use Rattle.wam_machine.specs.Reserved.{is_reserved}

-- a goal whose name and arity are not reserved is the call of the procedure of that name and arity
abbrev pub DefinedAreCalled : Type 0
DefinedAreCalled = (goal : Tree) (i : Indicator) → indicator_of goal ≡ Some i → is_reserved i ≡ false → control_of goal ≡ Some (User i)

-- a goal whose name and arity are reserved is none: it is done in another way
abbrev pub ReservedAreDone : Type 0
ReservedAreDone = (goal : Tree) (i : Indicator) → HasArities goal → indicator_of goal ≡ Some i → is_reserved i ≡ true → control_of goal ≢ Some (User i)
