use Rattle.std.proofs.Common.{ap, ◌∙◌}
use Rattle.call_patterns.specs.Codes.{fnv}
use Rattle.call_patterns.proofs.coding.functor_code.Goals as goal

pub returns : goal.returns
unfolding fnv
returns c = c.mixed.ensures ∙ ap (λ h. fnv h c.args.text.now) c.mixed-start.ensures
