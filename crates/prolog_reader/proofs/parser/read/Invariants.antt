use Rattle.std.proofs.Common.{◌≡◌, ◌-◌, false, drop, length}
use Rattle.prolog_reader.specs.Grammar as grammar
use Rattle.prolog_reader.specs.Steps.{state_of}
use Rattle.prolog_reader.proofs.parser.read.Given as goal

abbrev pub invariant-tokens : goal.invariant-tokens
invariant-tokens l = grammar.run l.ops false (state_of l.parser) (drop l.at l.tokens) ≡ grammar.read l.ops l.tokens

abbrev pub decreases-tokens : goal.decreases-tokens
decreases-tokens l = length l.tokens - l.at
