use Rattle.std.proofs.Common.{◌≡◌, drop}
use Rattle.prolog_reader.specs.Grammar as grammar
use Rattle.prolog_reader.proofs.parser.Parser.push_codes.Given as goal

abbrev pub invariant-codes : goal.invariant-codes
invariant-codes l = record {
  terms : grammar.pushed_codes (drop l.b-index l.text) l.self.terms ≡ grammar.pushed_codes l.text l.fn.self.terms;
  frames : l.self.frames ≡ l.fn.self.frames;
  variables : l.self.variables ≡ l.fn.self.variables;
}
