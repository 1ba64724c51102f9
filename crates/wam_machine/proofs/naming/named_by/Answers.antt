use Rattle.std.proofs.Common.{sym, ap, ◌∙◌, arith, codes}
use Rattle.std.proofs.lemmas.Result.{IfOk-weaker}
use Rattle.term_store.specs.Terms.{text}
use Rattle.term_store.specs.declared.cell.Cell.TheVariants.{Variable}
use Rattle.wam_machine.specs.Naming.{naming_of}
use Rattle.wam_machine.specs.Terms.{built}
use Rattle.wam_machine.proofs.GoalSeen.{seen-cell, seen-leaf, seen-compound, seen-parts, seen-view}
use Rattle.wam_machine.proofs.GoalParts.{tested-text}
use Rattle.wam_machine.proofs.NamedTerms.{naming-pair, naming-other, naming-none, naming-leaf}
use Rattle.wam_machine.proofs.naming.named_by.Goals as goal

pub look-requires : goal.look-requires
look-requires g c = seen-cell c.args.terms.now c.args.named c.requires.named

pub text-requires : goal.text-requires
text-requires g c =
    (seen-parts c.args.terms.now c.args.named c.requires.named c.in-Compound.functor c.in-Compound.arguments c.requires.terms c.known.ensures c.in-Compound.ensures.looks).name

pub returns-in-Variable : goal.returns-in-Variable
returns-in-Variable g c =
    let t = c.args.terms.now in
    sym (ap naming_of (seen-leaf t c.args.named c.requires.named _ (c.in-Variable.ensures.term t.names)))

pub by_name-requires-clause-name : goal.by_name-requires-clause-name
by_name-requires-clause-name g c =
    let low = c.in-len2.len_at_least in
    (seen-parts c.args.terms.now c.args.named c.requires.named c.in-Compound.functor c.in-Compound.arguments c.requires.terms c.known.ensures c.in-Compound.ensures.looks).args 0 _ (omega (arith, low))

pub by_name-requires-clause-arity : goal.by_name-requires-clause-arity
by_name-requires-clause-arity g c =
    let low = c.in-len2.len_at_least in
    (seen-parts c.args.terms.now c.args.named c.requires.named c.in-Compound.functor c.in-Compound.arguments c.requires.terms c.known.ensures c.in-Compound.ensures.looks).args 1 _ (omega (arith, low))

pub returns-then-eq : goal.returns-then-eq
returns-then-eq g c =
    let t = c.args.terms.now in
    IfOk-weaker c.by_name.result _ _
    (λ n e. e ∙ sym (naming-pair (built t) (built t c.args.named) (text t.names c.in-Compound.functor) c.in-Compound.arguments.now (Variable 0) c.in-len2.len_at_least c.in-len2.len_below
    (seen-compound t c.args.named c.requires.named c.in-Compound.functor c.in-Compound.arguments.now (c.in-Compound.ensures.term t.names))
    (tested-text t.names c.in-Compound.functor c.text.result.now _ (codes "/") _ _ c.text.ensures c.eq.ensures c.as_slice.ensures c.if-eq.true)))
    c.by_name.ensures

pub returns-else-eq : goal.returns-else-eq
returns-else-eq g c =
    let t = c.args.terms.now in
    IfOk-weaker c.not_of_type-in-len2.result _ _
    (λ n e. e ∙ sym (naming-other (built t) (built t c.args.named) (text t.names c.in-Compound.functor) c.in-Compound.arguments.now (Variable 0) c.in-len2.len_at_least c.in-len2.len_below
    (seen-compound t c.args.named c.requires.named c.in-Compound.functor c.in-Compound.arguments.now (c.in-Compound.ensures.term t.names))
    (tested-text t.names c.in-Compound.functor c.text.result.now _ (codes "/") _ _ c.text.ensures c.eq.ensures c.as_slice.ensures c.if-eq.false)))
    c.not_of_type-in-len2.ensures

pub returns-in_default : goal.returns-in_default
returns-in_default g c =
    let t = c.args.terms.now in
    IfOk-weaker c.not_of_type-in_default.result _ _
    (λ n e. e ∙ sym (naming-leaf (text t.names) (built t) c.look.result (built t c.args.named) (seen-view t c.args.named c.look.result (c.look.ensures.term t.names))
    (λ k h. c.in_default.not-Variable k h) (λ f args h. c.in_default.not-Compound f args h)))
    c.not_of_type-in_default.ensures

pub returns-in-len3-up : goal.returns-in-len3-up
returns-in-len3-up g c =
    let t = c.args.terms.now in
    let many = c.in-len3-up.len_at_least in
    IfOk-weaker c.not_of_type-in-len3-up.result _ _ (λ n e. e ∙ sym (naming-none (built t) (built t c.args.named) (text t.names c.in-Compound.functor) c.in-Compound.arguments.now (seen-compound t c.args.named c.requires.named c.in-Compound.functor c.in-Compound.arguments.now (c.in-Compound.ensures.term t.names)) (λ p q. omega (arith, q, many)))) c.not_of_type-in-len3-up.ensures

pub returns-in_default-arguments : goal.returns-in_default-arguments
returns-in_default-arguments g c =
    let t = c.args.terms.now in
    let few = c.in_default-arguments.len_below in
    IfOk-weaker c.not_of_type.result _ _ (λ n e. e ∙ sym (naming-none (built t) (built t c.args.named) (text t.names c.in-Compound.functor) c.in-Compound.arguments.now (seen-compound t c.args.named c.requires.named c.in-Compound.functor c.in-Compound.arguments.now (c.in-Compound.ensures.term t.names)) (λ p q. omega (arith, p, few)))) c.not_of_type.ensures
