use Rattle.std.proofs.Common.{sym, ◌∙◌}
use Rattle.prolog_reader.specs.Steps.{state_of}
use Rattle.prolog_reader.proofs.Runs.{two}
use Rattle.prolog_reader.proofs.parser.read.Goals as goal

pub tokens-preserved : goal.tokens-preserved
tokens-preserved c =
    let r = rw c.in-Two.is at c.in_ok-step.ensures in
    sym (two c.args.ops.now c.args.tokens.now c.tokens.at c.index-tokens-at.result (state_of c.tokens.parser) (state_of c.step.new.self) c.tokens-test.true c.index-tokens-at.is r)
    ∙ c.tokens.invariant
