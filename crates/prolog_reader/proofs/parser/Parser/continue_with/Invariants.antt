use Rattle.std.proofs.Common.{◌≡◌, length}
use Rattle.prolog_reader.specs.Grammar as grammar
use Rattle.prolog_reader.proofs.parser.Parser.continue_with.Given as goal

abbrev pub invariant-frames : goal.invariant-frames
invariant-frames l =
    grammar.continued l.ops l.priority l.most l.self.frames l.self.terms l.self.variables l.token
    ≡ grammar.continued l.ops l.fn.priority l.fn.most l.fn.self.frames l.fn.self.terms l.fn.self.variables l.token

abbrev pub decreases-frames : goal.decreases-frames
decreases-frames l = length l.self.frames
