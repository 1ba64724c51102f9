use Rattle.std.proofs.Common.{arith}
use Rattle.wam_machine.specs.Terms.{HasPlace}
use Rattle.wam_machine.proofs.Marked.{terms-save, said-save, cells-choices}
use Rattle.wam_machine.proofs.choices.save.Goals as goal

pub push_reserved-requires : goal.push_reserved-requires
unfolding HasPlace
push_reserved-requires g c = c.requires.place

pub returns-clause-terms : goal.returns-clause-terms
returns-clause-terms g c =
    let t = c.args.terms.now in
    let a = c.len-frames.ensures in
    let b = t.frames.ok.0 in
    let mark = c.mark-mark in
    terms-save t c.requires.terms c.push_reserved.new.self c.args.what c.requires.turn mark.result mark.ensures.can mark.ensures.same c.len-frames.result (omega (arith, a, b)) c.push_reserved.ensures.items

pub returns-clause-said : goal.returns-clause-said
returns-clause-said g c =
    let t = c.args.terms.now in
    let a = c.len-frames.ensures in
    let b = t.frames.ok.0 in
    let mark = c.mark-mark in
    said-save t c.requires.terms c.push_reserved.new.self c.args.what c.requires.turn mark.result mark.ensures.can mark.ensures.same c.len-frames.result (omega (arith, a, b)) c.push_reserved.ensures.items

pub returns-clause-cells : goal.returns-clause-cells
returns-clause-cells g c = cells-choices c.args.terms.now c.push_reserved.new.self
