use Rattle.std.proofs.Common.{subst}
use Rattle.prolog_session.specs.Bases.{HasProcedure}
use Rattle.prolog_session.proofs.Placing.{may_be_added, adds_done, adds_full}
use Rattle.prolog_session.proofs.load.add_clause.Goals as goal

pub add-requires : goal.add-requires
add-requires g c =
    let h = subst (HasProcedure c.args.base.now c.procedure.new.base c.args.indicator.now) c.in-Some.is c.in_ok-procedure.ensures in
    may_be_added c.args.base.now _ c.args.indicator.now _ _ c.requires.load h c.requires.indicator c.requires.clause

pub returns-in-Done : goal.returns-in-Done
returns-in-Done g c =
    let h = subst (HasProcedure c.args.base.now c.procedure.new.base c.args.indicator.now) c.in-Some.is c.in_ok-procedure.ensures in
    let a = c.in-Done.ensures in
    adds_done c.args.base.now c.procedure.new.base c.add.new.self c.args.indicator.now _ _ _ c.requires.load h a.becomes a.out a.added

pub returns-in-Full : goal.returns-in-Full
returns-in-Full g c =
    let h = subst (HasProcedure c.args.base.now c.procedure.new.base c.args.indicator.now) c.in-Some.is c.in_ok-procedure.ensures in
    let a = c.in-Full.ensures in
    adds_full c.args.base.now c.procedure.new.base c.add.new.self c.args.indicator.now _ _ _ _ _ h a.becomes a.out a.added
