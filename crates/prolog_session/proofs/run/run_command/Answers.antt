use Rattle.std.proofs.Common.{sym, subst}
use Rattle.prolog_session.specs.Bases.{sizes_of}
use Rattle.prolog_session.specs.Runs.{AreRunsBehind}
use Rattle.prolog_session.proofs.Ran.{runs_after, runs_alone}
use Rattle.prolog_session.proofs.run.run_command.Goals as goal

pub returns-in-None-clause-runs : goal.returns-in-None-clause-runs
returns-in-None-clause-runs g c =
    let alone = runs_alone (sizes_of c.args.load.base) c.args.load.ops c.args.load.runs c.args.load.base.entries c.args.command c.not_run.result.journal c.in-None.is c.not_run.ensures.journal in
    subst (AreRunsBehind (sizes_of c.args.load.base) c.args.load.ops c.args.load.runs c.args.load.base.entries c.args.command c.not_run.result.journal) (sym c.not_run.ensures.runs) alone

pub returns-clause-runs : goal.returns-clause-runs
returns-clause-runs g c =
    runs_after c.args.load.ops c.args.load.base c.renumbered.result c.in_ok-ran.ran.base c.args.command _ c.in_ok-ran.ran.run c.args.load.runs c.push.new.self _ c.renumbered.ensures c.in-Some.is
    c.in_ok-ran.ensures.run c.in_ok-push.ensures c.into_entries.ensures
