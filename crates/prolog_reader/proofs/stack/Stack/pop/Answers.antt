use Rattle.std.proofs.Common.{sym, ◌∙◌}
use Rattle.prolog_reader.proofs.Snoc.{pop-newest}
use Rattle.prolog_reader.proofs.stack.Stack.pop.Goals as goal

pub returns : goal.returns
returns g c =
    pop-newest c.args.self.now c.self.inside.items.items c.pop.new.self.items c.pop.result c.self.view_is c.pop.ensures.items
    (λ e. let g = rw e at c.pop.ensures.cases in sym c.pop.new.self.ok.0 ∙ g.1)
