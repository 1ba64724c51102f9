use Rattle.std.proofs.Common.{ap, ◌∙◌, ℕ, List}
use Rattle.prolog_terms.specs.Tree.{Tree}
use Rattle.prolog_terms.specs.declared.fault.Fault.TheVariants.{OfType}
use Rattle.wam_machine.specs.Terms.{IsBuilt, built}
use Rattle.wam_machine.specs.declared.naming.Naming.TheVariants.{NamesNone}
use Rattle.wam_machine.proofs.naming.not_of_type.Goals as goal

pub read_back-requires-clause-valid : goal.read_back-requires-clause-valid
unfolding IsBuilt
read_back-requires-clause-valid g c = c.requires.cell

pub returns : goal.returns
unfolding built
returns g c =
    ap (λ (n : List ℕ). NamesNone (OfType n c.in_ok-culprit.culprit)) c.in_ok-of.ensures
    ∙ ap (λ (u : Tree). NamesNone (OfType c.args.type_name.now u)) c.in_ok-culprit.ensures
