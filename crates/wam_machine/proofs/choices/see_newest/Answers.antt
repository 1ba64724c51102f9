use Rattle.wam_machine.proofs.Tops.{top-none, top-mark, top-findall, top-catch, top-open}
use Rattle.wam_machine.proofs.choices.see_newest.Goals as goal

pub returns-in-None : goal.returns-in-None
returns-in-None g c = top-none c.args.terms.now c.deref.result.now c.deref.ensures.value c.in-None.ensures.value

pub returns-in-NotMark : goal.returns-in-NotMark
returns-in-NotMark g c = top-mark c.args.terms.now c.deref.result.now c.deref.ensures.value c.in-Some.choice.now c.in-Some.ensures.value c.in-NotMark.is

pub returns-in-CatchMark : goal.returns-in-CatchMark
returns-in-CatchMark g c = top-catch c.args.terms.now c.deref.result.now c.deref.ensures.value c.in-Some.choice.now _ _ c.in-Some.ensures.value c.in-CatchMark.is

pub returns-in_default : goal.returns-in_default
returns-in_default g c = top-open c.args.terms.now c.deref.result.now c.deref.ensures.value c.in-Some.choice.now c.in-Some.ensures.value c.in_default.not-NotMark (λ a r e. c.in_default.not-CatchMark a r e) (λ a f e. c.in_default.not-FindallMark a f e)

pub returns-in-FindallMark : goal.returns-in-FindallMark
returns-in-FindallMark g c = top-findall c.args.terms.now c.deref.result.now c.deref.ensures.value c.in-Some.choice.now _ _ c.in-Some.ensures.value c.in-FindallMark.is
