use Rattle.std.proofs.Common.{◌≡◌, None, ap₂, sym, subst, ◌∙◌, rules}
use Rattle.prolog_terms.specs.Operators.{declared, refusal, IsTable, after}
use Rattle.prolog_terms.proofs.Declares.{changes_alone}
use Rattle.prolog_terms.proofs.ops.Ops.declare.Goals as goal

pub invariant_of-self-2 : goal.invariant_of-self-2
invariant_of-self-2 c =
    let accepted : refusal c.args.priority c.args.kind c.args.name.now c.args.self.now ≡ None = search rules in
    subst IsTable (sym (c.in_ok-define.ensures.ok ∙ ap₂ (λ n t. declared c.args.priority c.args.kind n t) c.in_ok-name.ensures.cases c.self.view_is))
    (after c.args.priority c.args.kind c.args.name.now c.requires accepted (subst IsTable c.self.view_is c.self.invariant))

pub returns-clause-alone : goal.returns-clause-alone
returns-clause-alone c =
    changes_alone c.args.priority c.args.kind c.args.name.now c.args.self.now c.define.new.self
    (c.in_ok-define.ensures.ok ∙ ap₂ (λ n t. declared c.args.priority c.args.kind n t) c.in_ok-name.ensures.cases c.self.view_is)
