use Rattle.std.proofs.Common.{◌++◌, ◌∷◌, [], subst, ap}
use Rattle.std.specs.Prelude.{All}
use Rattle.wam_machine.specs.Terms.{Left, IsEntered, said, call_now}
use Rattle.wam_machine.specs.Cursors.{Begins, AreNamed}
use Rattle.wam_machine.specs.View.{calls}
use Rattle.wam_machine.specs.declared.state.Machine.{Machine}
use Rattle.wam_machine.proofs.Begins.{begins_before}
use Rattle.wam_machine.proofs.Kept.{all_last, kept_on, last_out, kept_without}
use Rattle.wam_machine.proofs.Tried.{use_kept, call-same, attempted}
use Rattle.wam_machine.proofs.procedures.attempt.Goals as goal

pub give_up-requires-clause-out : goal.give_up-requires-clause-out
give_up-requires-clause-out g c =
    last_out g.B.Base.group (g.B.Base.serves c.fetch.new.base) _ _ (call_now c.args.machine.now.terms c.args.call)
    (kept_on g.B.Base.group (g.B.Base.serves c.args.base.now) _ _ (g.B.Base.serves c.fetch.new.base) _ c.requires.kept c.in-Err.ensures.others c.in-Err.ensures.out)

pub returns-in-Err-clause-kept : goal.returns-in-Err-clause-kept
returns-in-Err-clause-kept g c =
    kept_without g.B.Base.group (g.B.Base.serves c.fetch.new.base) _ _ (g.B.Base.serves c.give_up.new.base) _ (call_now c.args.machine.now.terms c.args.call)
    (kept_on g.B.Base.group (g.B.Base.serves c.args.base.now) _ _ (g.B.Base.serves c.fetch.new.base) _ c.requires.kept c.in-Err.ensures.others c.in-Err.ensures.out)
    c.give_up.ensures.others c.give_up.ensures.out

pub enter-requires-clause-goal : goal.enter-requires-clause-goal
enter-requires-clause-goal g c = (c.keep.ensures.cells c.args.call.goal c.requires.cells.0).0

pub enter-requires-clause-used : goal.enter-requires-clause-used
enter-requires-clause-used g c = use_kept c.args.machine.now.terms c.keep.new.machine.terms c.keep.ensures.cells c.args.call.used c.requires.cells.1

pub returns-in_ok-met-in-Ok-clause-attempted : goal.returns-in_ok-met-in-Ok-clause-attempted
returns-in_ok-met-in-Ok-clause-attempted g c j b =
    let m = c.args.machine.now in
    let k = c.keep.new.machine in
    let left = call_now m.terms c.args.call in
    let n : Machine _ = record k { terms = c.enter.new.terms } in
    let between : Begins (g.B.Base.view c.fetch.new.base) j = begins_before _ _ j c.keep.ensures.seen.grows b in
    let named : All (AreNamed g.B.Base.rest g.B.Base.looked_at j) (calls m ++ left ∷ []) = c.requires.named j (begins_before _ _ j c.fetch.ensures.seen.grows between) in
    record {
      clause = c.in-Ok.clause;
      clause_is = c.in-Ok.ensures.clause j between;
      tried = attempted g.B.Base.rest g.B.Base.looked_at j left c.args.name c.in-Ok.clause m k n c.height-cut.result c.in_ok-met-in-Ok.met
          (all_last (AreNamed g.B.Base.rest g.B.Base.looked_at j) (calls m) left named)
          c.keep.ensures.said (c.in_ok-keep-in-Ok.ensures.stack j b) c.height-cut.ensures
          (subst (λ (l : Left _). IsEntered l.used l.goal c.in-Ok.clause c.height-cut.result (said k.terms) (said c.enter.new.terms) c.in_ok-met-in-Ok.met)
          (call-same m.terms k.terms c.args.call c.keep.ensures.cells c.requires.cells) c.in_ok-met-in-Ok.ensures.entered)
          (ap (λ (x : Machine _). let y : Machine _ = record x { terms = c.enter.new.terms } in y) c.in_ok-keep-in-Ok.ensures.same);
    }
