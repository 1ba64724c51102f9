use Rattle.std.proofs.Common.{sym, ◌∙◌}
use Rattle.prolog_session.proofs.Plains.{same_after}
use Rattle.prolog_session.proofs.Dynamics.{fixed_told}
use Rattle.prolog_session.proofs.load.is_fixed.Goals as goal

pub returns-clause-base : goal.returns-clause-base
returns-clause-base c = let f = c.find.ensures in same_after _ _ f.becomes f.seen f.out

pub returns-clause-fixed : goal.returns-clause-fixed
returns-clause-fixed c =
    let f = c.find.ensures in
    c.is_static.ensures ∙ fixed_told _ _ c.args.indicator.now _ f.becomes f.seen f.out f.found (sym c.is_reserved.ensures ∙ c.if-is_reserved.false)
