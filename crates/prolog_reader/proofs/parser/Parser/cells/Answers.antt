use Rattle.std.proofs.Common.{◌≡◌, ◌-◌, ◌+◌, ap, sym, ◌∙◌}
use Rattle.std.specs.Prelude.{codes}
use Rattle.prolog_reader.specs.Grammar.{cells, made}
use Rattle.prolog_reader.proofs.Snoc.{cells-more}
use Rattle.prolog_reader.proofs.parser.Parser.cells.Goals as goal

pub cells-preserved : goal.cells-preserved
cells-preserved c =
    let e : c.push.new.self ≡ made (codes ".") 2 c.cells.self.terms = c.in_ok-push.ensures ∙ ap (λ f. made f 2 c.cells.self.terms) c.in_ok-of.ensures in
    record {
      terms = ap (cells (c.args.count - (c.cells.counter + 1))) e ∙ sym (cells-more c.args.count c.cells.counter c.cells.self.terms c.cells-test.true) ∙ c.cells.invariant.terms;
      frames = c.cells.invariant.frames;
      variables = c.cells.invariant.variables;
      mode = c.cells.invariant.mode;
    }
