use Rattle.std.proofs.Common.{arith, drop}
use Rattle.prolog_session.proofs.Digits.{too_many}
use Rattle.prolog_session.proofs.words.steps.Goals as goal

pub returns-then-value-gt-MAX_STEPS-clause-number : goal.returns-then-value-gt-MAX_STEPS-clause-number
returns-then-value-gt-MAX_STEPS-clause-number c = too_many c.args.word.now c.loop-byte.value (drop c.loop-byte.byte-index c.args.word.now) (omega arith) c.loop-byte.invariant.value
