use Rattle.std.proofs.Common.{◌≡◌, ◌-◌}
use Rattle.prolog_reader.specs.Grammar as grammar
use Rattle.prolog_reader.proofs.parser.Parser.cells.Given as goal

abbrev pub invariant-cells : goal.invariant-cells
invariant-cells l = record {
  terms : grammar.cells (l.count - l.counter) l.self.terms ≡ grammar.cells l.count l.fn.self.terms;
  frames : l.self.frames ≡ l.fn.self.frames;
  variables : l.self.variables ≡ l.fn.self.variables;
  mode : l.self.mode ≡ l.fn.self.mode;
}
