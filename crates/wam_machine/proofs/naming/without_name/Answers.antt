use Rattle.std.proofs.Common.{sym, ap, ◌∙◌}
use Rattle.std.proofs.lemmas.Result.{IfOk-weaker}
use Rattle.term_store.specs.Terms.{text}
use Rattle.wam_machine.specs.Naming.{without_name}
use Rattle.wam_machine.specs.Terms.{built}
use Rattle.wam_machine.proofs.GoalSeen.{seen-cell, seen-leaf, seen-view}
use Rattle.wam_machine.proofs.NamedTerms.{bound-leaf}
use Rattle.wam_machine.proofs.naming.without_name.Goals as goal

pub look-requires : goal.look-requires
look-requires g c = seen-cell c.args.terms.now c.args.arity c.requires.arity

pub returns-in-Variable : goal.returns-in-Variable
returns-in-Variable g c =
    let t = c.args.terms.now in
    sym (ap (without_name (built t c.args.name)) (seen-leaf t c.args.arity c.requires.arity _ (c.in-Variable.ensures.term t.names)))

pub returns-in_default : goal.returns-in_default
returns-in_default g c =
    let t = c.args.terms.now in
    IfOk-weaker c.not_of_type.result _ _
    (λ n e. e ∙ sym (bound-leaf (text t.names) (built t) c.look.result (built t c.args.name) (built t c.args.arity) (seen-view t c.args.arity c.look.result (c.look.ensures.term t.names))
    (λ k h. c.in_default.not-Variable k h)))
    c.not_of_type.ensures
