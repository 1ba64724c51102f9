use Rattle.std.proofs.Common.{◌≡◌, length}
use Rattle.prolog_reader.specs.Grammar as grammar
use Rattle.prolog_reader.proofs.parser.Parser.close_all.Given as goal

abbrev pub invariant-frames : goal.invariant-frames
invariant-frames l =
    grammar.closing l.self.frames l.self.terms l.self.variables ≡ grammar.closing l.fn.self.frames l.fn.self.terms l.fn.self.variables

abbrev pub decreases-frames : goal.decreases-frames
decreases-frames l = length l.self.frames
