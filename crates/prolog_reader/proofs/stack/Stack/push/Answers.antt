use Rattle.std.proofs.Common.{◌∷◌, ap, ◌∙◌}
use Rattle.prolog_reader.proofs.Snoc.{push-newest}
use Rattle.prolog_reader.proofs.stack.Stack.push.Goals as goal

pub returns : goal.returns
returns g c = push-newest c.self.inside.items.items c.push.new.self.items c.args.item c.in_ok-push.ensures.items ∙ ap (λ x. c.args.item ∷ x) c.self.view_is
