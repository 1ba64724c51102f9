use Rattle.std.proofs.Common.{◌∙◌, ap, ℕ, List, ◌∷◌, []}
use Rattle.std.proofs.lemmas.Result.{IfOk-weaker}
use Rattle.prolog_terms.specs.Tree.{Tree}
use Rattle.prolog_terms.specs.Faults.{fault_tree}
use Rattle.prolog_terms.specs.declared.fault.Fault.TheVariants.{OfType}
use Rattle.wam_machine.specs.Machine.{not_integer}
use Rattle.wam_machine.specs.Terms.{IsBuilt, built}
use Rattle.wam_machine.proofs.errors.no_integer.Goals as goal

pub read_back-requires-clause-valid : goal.read_back-requires-clause-valid
unfolding IsBuilt
read_back-requires-clause-valid g c = c.requires.code

pub returns : goal.returns
unfolding built
returns g c =
    IfOk-weaker c.fault_term.result _ _ (λ t h. h ∙ (ap (λ (n : List ℕ). fault_tree (OfType n c.in_ok-culprit.culprit) c.in_ok-halt.halt) c.in_ok-integer.ensures
    ∙ ap (λ (u : Tree). fault_tree (OfType (105 ∷ 110 ∷ 116 ∷ 101 ∷ 103 ∷ 101 ∷ 114 ∷ []) u) c.in_ok-halt.halt) c.in_ok-culprit.ensures
    ∙ ap (fault_tree (not_integer (built c.args.terms.now c.args.code))) c.in_ok-halt.ensures)) c.fault_term.ensures
