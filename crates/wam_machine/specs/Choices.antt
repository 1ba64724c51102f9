-- What is seen of the stack.
use Rattle.std.specs.Prelude.{◌≡◌, List, [], Option, Some, None, true, false}
use Rattle.wam_machine.specs.Terms.{Turn, OfCall, OfRight, OfRepeat, OfNot, OfCatch, OfFindall, Saved, HasNewest, HasCatch}
use Rattle.wam_machine.specs.declared.choices.Newest.{Newest}
use Rattle.wam_machine.specs.declared.choices.Newest.TheVariants.{Nothing, Open, Mark, Catch}
use Rattle.wam_machine.specs.declared.terms.Call.{Call}

-- what the newest moment is
abbrev pub IsNewest : {C : Type 0} → List (Saved C) → Newest → Type 0
IsNewest stack Nothing = stack ≡ []
IsNewest stack Open = HasNewest stack true × HasCatch stack false
IsNewest stack Mark = HasNewest stack false × HasCatch stack false
IsNewest stack Catch = HasNewest stack false × HasCatch stack true

-- the call with the cursor of the moment's call, where it is one
abbrev pub IsCallOf : {C : Type 0} → Turn C → Option (Call C) → Type 0
IsCallOf (OfCall left) None = ⊥
IsCallOf (OfCall left) (Some call) = left.cursor ≡ call.cursor
IsCallOf (OfRight goal cut) None = Unit {0}
IsCallOf (OfRight goal cut) (Some call) = ⊥
IsCallOf OfRepeat None = Unit {0}
IsCallOf OfRepeat (Some call) = ⊥
IsCallOf OfNot None = Unit {0}
IsCallOf OfNot (Some call) = ⊥
IsCallOf (OfCatch c r) None = Unit {0}
IsCallOf (OfCatch c r) (Some call) = ⊥
IsCallOf (OfFindall l f) None = Unit {0}
IsCallOf (OfFindall l f) (Some call) = ⊥
