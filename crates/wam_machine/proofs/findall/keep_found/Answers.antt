use Rattle.std.proofs.Common.{refl}
use Rattle.wam_machine.specs.Terms.{built}
use Rattle.wam_machine.specs.declared.state.Machine.{Machine}
use Rattle.wam_machine.specs.declared.state.Mode.TheVariants.{Failing as IsFailing}
use Rattle.wam_machine.proofs.Gathered.{acts-found}
use Rattle.wam_machine.proofs.findall.keep_found.Goals as goal

pub returns-clause-acts : goal.returns-clause-acts
returns-clause-acts g c =
    let m = c.args.machine.now in
    let n : Machine _ = record m { mode = IsFailing; terms = c.add_found.new.terms } in
    acts-found m n c.args.height c.in_ok-copy.copy (built m.terms c.args.template) c.in_ok-add_found.ensures.terms refl c.in_ok-add_found.ensures.said c.in_ok-copy.ensures
