use Rattle.prolog_terms.specs.Faults.{error_tree}
use Rattle.prolog_terms.proofs.fault.put_error.Goals as goal

pub returns-in_ok-put_named-in-Representation-clause-nodes : goal.returns-in_ok-put_named-in-Representation-clause-nodes
unfolding error_tree
returns-in_ok-put_named-in-Representation-clause-nodes c = rw (c.in-Representation.is) c.in_ok-put_named-in-Representation.ensures

pub returns-in_ok-put_named-in-Evaluation-clause-nodes : goal.returns-in_ok-put_named-in-Evaluation-clause-nodes
unfolding error_tree
returns-in_ok-put_named-in-Evaluation-clause-nodes c = rw (c.in-Evaluation.is) c.in_ok-put_named-in-Evaluation.ensures
