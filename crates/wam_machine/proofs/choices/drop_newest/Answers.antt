use Rattle.std.proofs.Common.{length, ap, refl, arith}
use Rattle.wam_machine.specs.Terms.{said, saved_of}
use Rattle.wam_machine.proofs.Marked.{none_there, stack-none, terms-dropped, said-dropped, stack-dropped, dropped-call, dropped-right, dropped-again, dropped-not, dropped-catch, dropped-findall}
use Rattle.wam_machine.proofs.choices.drop_newest.Goals as goal

pub returns-in-Clauses-clause-terms : goal.returns-in-Clauses-clause-terms
returns-in-Clauses-clause-terms g c = terms-dropped c.args.terms.now c.in_ok-what.field-0 c.pop.new.self c.in_ok-what.ensures.items

pub returns-in-Clauses-clause-said : goal.returns-in-Clauses-clause-said
returns-in-Clauses-clause-said g c = said-dropped c.args.terms.now c.in_ok-what.field-0 c.pop.new.self c.in_ok-what.ensures.items

pub returns-in-Clauses-clause-dropped : goal.returns-in-Clauses-clause-dropped
returns-in-Clauses-clause-dropped g c =
    let t = c.args.terms.now in
    (saved_of t.names t.store t.frames.items c.in_ok-what.field-0, (stack-dropped t c.in_ok-what.field-0 c.pop.new.self c.in_ok-what.ensures.items, dropped-call _ _ c.in-Clauses.call c.in-Clauses.is))

pub returns-in-Right-clause-terms : goal.returns-in-Right-clause-terms
returns-in-Right-clause-terms g c = terms-dropped c.args.terms.now c.in_ok-what.field-0 c.pop.new.self c.in_ok-what.ensures.items

pub returns-in-Right-clause-said : goal.returns-in-Right-clause-said
returns-in-Right-clause-said g c = said-dropped c.args.terms.now c.in_ok-what.field-0 c.pop.new.self c.in_ok-what.ensures.items

pub returns-in-Right-clause-dropped : goal.returns-in-Right-clause-dropped
returns-in-Right-clause-dropped g c =
    let t = c.args.terms.now in
    (saved_of t.names t.store t.frames.items c.in_ok-what.field-0, (stack-dropped t c.in_ok-what.field-0 c.pop.new.self c.in_ok-what.ensures.items, dropped-right _ _ _ _ c.in-Right.is))

pub returns-in-Again-clause-terms : goal.returns-in-Again-clause-terms
returns-in-Again-clause-terms g c = terms-dropped c.args.terms.now c.in_ok-what.field-0 c.pop.new.self c.in_ok-what.ensures.items

pub returns-in-Again-clause-said : goal.returns-in-Again-clause-said
returns-in-Again-clause-said g c = said-dropped c.args.terms.now c.in_ok-what.field-0 c.pop.new.self c.in_ok-what.ensures.items

pub returns-in-Again-clause-dropped : goal.returns-in-Again-clause-dropped
returns-in-Again-clause-dropped g c =
    let t = c.args.terms.now in
    (saved_of t.names t.store t.frames.items c.in_ok-what.field-0, (stack-dropped t c.in_ok-what.field-0 c.pop.new.self c.in_ok-what.ensures.items, dropped-again _ _ c.in-Again.is))

pub returns-in-NotMark-clause-terms : goal.returns-in-NotMark-clause-terms
returns-in-NotMark-clause-terms g c = terms-dropped c.args.terms.now c.in_ok-what.field-0 c.pop.new.self c.in_ok-what.ensures.items

pub returns-in-NotMark-clause-said : goal.returns-in-NotMark-clause-said
returns-in-NotMark-clause-said g c = said-dropped c.args.terms.now c.in_ok-what.field-0 c.pop.new.self c.in_ok-what.ensures.items

pub returns-in-NotMark-clause-dropped : goal.returns-in-NotMark-clause-dropped
returns-in-NotMark-clause-dropped g c =
    let t = c.args.terms.now in
    (saved_of t.names t.store t.frames.items c.in_ok-what.field-0, (stack-dropped t c.in_ok-what.field-0 c.pop.new.self c.in_ok-what.ensures.items, dropped-not _ _ c.in-NotMark.is))

pub returns-in-CatchMark-clause-terms : goal.returns-in-CatchMark-clause-terms
returns-in-CatchMark-clause-terms g c = terms-dropped c.args.terms.now c.in_ok-what.field-0 c.pop.new.self c.in_ok-what.ensures.items

pub returns-in-CatchMark-clause-said : goal.returns-in-CatchMark-clause-said
returns-in-CatchMark-clause-said g c = said-dropped c.args.terms.now c.in_ok-what.field-0 c.pop.new.self c.in_ok-what.ensures.items

pub returns-in-CatchMark-clause-dropped : goal.returns-in-CatchMark-clause-dropped
returns-in-CatchMark-clause-dropped g c =
    let t = c.args.terms.now in
    (saved_of t.names t.store t.frames.items c.in_ok-what.field-0, (stack-dropped t c.in_ok-what.field-0 c.pop.new.self c.in_ok-what.ensures.items, dropped-catch _ _ _ _ c.in-CatchMark.is))

pub returns-in-FindallMark-clause-terms : goal.returns-in-FindallMark-clause-terms
returns-in-FindallMark-clause-terms g c = terms-dropped c.args.terms.now c.in_ok-what.field-0 c.pop.new.self c.in_ok-what.ensures.items

pub returns-in-FindallMark-clause-said : goal.returns-in-FindallMark-clause-said
returns-in-FindallMark-clause-said g c = said-dropped c.args.terms.now c.in_ok-what.field-0 c.pop.new.self c.in_ok-what.ensures.items

pub returns-in-FindallMark-clause-dropped : goal.returns-in-FindallMark-clause-dropped
returns-in-FindallMark-clause-dropped g c =
    let t = c.args.terms.now in
    (saved_of t.names t.store t.frames.items c.in_ok-what.field-0, (stack-dropped t c.in_ok-what.field-0 c.pop.new.self c.in_ok-what.ensures.items, dropped-findall _ _ _ _ c.in-FindallMark.is))

pub returns-in_err-what-clause-said : goal.returns-in_err-what-clause-said
unfolding said
returns-in_err-what-clause-said g c = refl

pub returns-in_err-what-clause-dropped : goal.returns-in_err-what-clause-dropped
returns-in_err-what-clause-dropped g c =
    let t = c.args.terms.now in
    let a = t.choices.ok.0 in
    let b = c.in_err-what.ensures.cases.0 in
    let none = stack-none t (none_there t.choices.items (omega (arith, a, b))) in
    let e = ap length none in
    let some = c.requires.some in
    absurd (omega (arith, e, some))
