use Rattle.std.proofs.Common.{◌≡◌, drop}
use Rattle.std.specs.Prelude.{filter}
use Rattle.prolog_session.specs.Output.{is_of_load, load_runs_after}
use Rattle.prolog_session.proofs.texts.put_load.Given as goal

abbrev pub invariant-loop-run : goal.invariant-loop-run
invariant-loop-run l = load_runs_after l.ops l.text.items (filter is_of_load (drop l.run-index l.runs)) ≡ load_runs_after l.ops l.fn.text.items (filter is_of_load l.runs)
