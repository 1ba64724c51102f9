use Rattle.std.proofs.Common.{sym, ap, ◌∙◌, ℕ, List, codes}
use Rattle.prolog_terms.specs.Tree.{Tree}
use Rattle.prolog_terms.specs.declared.fault.Fault.TheVariants.{Domain}
use Rattle.wam_machine.specs.Terms.{IsBuilt, built}
use Rattle.wam_machine.specs.declared.naming.Naming.TheVariants.{NamesNone}
use Rattle.wam_machine.proofs.NamedTerms.{arity-negative}
use Rattle.wam_machine.proofs.naming.with_count.Goals as goal

pub read_back-requires-clause-valid : goal.read_back-requires-clause-valid
unfolding IsBuilt
read_back-requires-clause-valid g c = c.requires.arity

pub returns-then-count-lt0 : goal.returns-then-count-lt0
unfolding built
returns-then-count-lt0 g c =
    ap (λ (n : List ℕ). NamesNone (Domain n c.in_ok-culprit.culprit)) c.in_ok-domain.ensures
    ∙ ap (λ (u : Tree). NamesNone (Domain (codes "not_less_than_zero") u)) c.in_ok-culprit.ensures
    ∙ sym (arity-negative c.args.name.now c.args.count c.ranges.count (built c.args.terms.now c.args.arity) c.requires.count c.if-count-lt0.true)
