use Rattle.std.proofs.Common.{◌∙◌, ap, ℕ, List, ◌∷◌, []}
use Rattle.std.proofs.lemmas.Result.{IfOk-weaker}
use Rattle.prolog_terms.specs.Tree.{Tree}
use Rattle.prolog_terms.specs.Faults.{fault_tree}
use Rattle.prolog_terms.specs.declared.fault.Fault.TheVariants.{OfType}
use Rattle.wam_machine.specs.Terms.{IsBuilt, built}
use Rattle.wam_machine.proofs.errors.uncallable.Goals as goal

pub read_back-requires-clause-valid : goal.read_back-requires-clause-valid
unfolding IsBuilt
read_back-requires-clause-valid g c = c.requires.goal

pub returns : goal.returns
unfolding built
returns g c =
    IfOk-weaker c.fault_term.result _ _ (λ t h. h ∙ (ap (λ (n : List ℕ). fault_tree (OfType n c.in_ok-culprit.culprit) c.args.at.now) c.in_ok-callable.ensures
    ∙ ap (λ (u : Tree). fault_tree (OfType (99 ∷ 97 ∷ 108 ∷ 108 ∷ 97 ∷ 98 ∷ 108 ∷ 101 ∷ []) u) c.args.at.now) c.in_ok-culprit.ensures)) c.fault_term.ensures
