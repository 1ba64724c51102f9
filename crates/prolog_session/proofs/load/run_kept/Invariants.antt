use Rattle.std.proofs.Common.{◌≡◌, take}
use Rattle.prolog_session.specs.Load.{goals, Loads}
use Rattle.prolog_session.specs.Bases.{sizes_of, loaded_in}
use Rattle.prolog_session.proofs.load.run_kept.Given as goal

abbrev pub invariant-loop-goal : goal.invariant-loop-goal
invariant-loop-goal g l = (l.base ≡ record l.fn.load.base { entries = l.base.entries })
    × Loads (sizes_of l.fn.load.base) l.fn.steps (loaded_in l.fn.load.base l.fn.load.runs) (goals l.fn.load.ops (take l.goal-index l.fn.load.kept)) (loaded_in l.base l.runs)
    × (l.ops ≡ l.fn.load.ops)
