use Rattle.std.proofs.Common.{ap, ◌∙◌}
use Rattle.prolog_terms.specs.Operators as spec
use Rattle.prolog_terms.proofs.Declares.{put}
use Rattle.prolog_terms.proofs.ops.Operators.define.Goals as goal

pub returns-clause-ok : goal.returns-clause-ok
returns-clause-ok c =
    put c.args.priority c.args.kind c.args.name c.bytes.result.now c.args.self.now c.self.inside.definitions.entries c.insert.new.self.entries c.defined-definitions.result
    c.self.view_is c.bytes.ensures (c.defined-definitions.ensures ∙ ap (λ d. spec.defined c.args.kind c.args.priority d) c.definitions_of.ensures) c.in_ok-insert.ensures.entries
