use Rattle.std.proofs.Common.{ap, ◌∙◌}
use Rattle.prolog_reader.specs.Grammar.{pushed}
use Rattle.prolog_reader.proofs.Snoc.{stack-push}
use Rattle.prolog_reader.proofs.built.Built.push.Goals as goal

pub returns : goal.returns
returns c = stack-push c.self.inside.nodes.items c.push.new.self.items c.args.node c.in_ok-push.ensures.items ∙ ap (pushed c.args.node) c.self.view_is
