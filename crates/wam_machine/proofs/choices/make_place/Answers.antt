use Rattle.std.proofs.Common.{arith}
use Rattle.wam_machine.specs.Terms.{HasPlace}
use Rattle.wam_machine.proofs.Marked.{terms-unsaved, said-unsaved, cells-choices}
use Rattle.wam_machine.proofs.choices.make_place.Goals as goal

pub returns-in_err-reserve-clause-terms : goal.returns-in_err-reserve-clause-terms
returns-in_err-reserve-clause-terms g c = terms-unsaved c.args.terms.now c.requires.terms c.reserve.new.self c.reserve.ensures.items

pub returns-in_err-reserve-clause-said : goal.returns-in_err-reserve-clause-said
returns-in_err-reserve-clause-said g c = said-unsaved c.args.terms.now c.requires.terms c.reserve.new.self c.reserve.ensures.items

pub returns-in_err-reserve-clause-cells : goal.returns-in_err-reserve-clause-cells
returns-in_err-reserve-clause-cells g c = cells-choices c.args.terms.now c.reserve.new.self

pub returns-clause-terms : goal.returns-clause-terms
returns-clause-terms g c = terms-unsaved c.args.terms.now c.requires.terms c.reserve.new.self c.reserve.ensures.items

pub returns-clause-said : goal.returns-clause-said
returns-clause-said g c = said-unsaved c.args.terms.now c.requires.terms c.reserve.new.self c.reserve.ensures.items

pub returns-clause-cells : goal.returns-clause-cells
returns-clause-cells g c = cells-choices c.args.terms.now c.reserve.new.self

pub returns-clause-place : goal.returns-clause-place
unfolding HasPlace
returns-clause-place g c = let e = c.in_ok-reserve.ensures.ok in omega (arith, e)
