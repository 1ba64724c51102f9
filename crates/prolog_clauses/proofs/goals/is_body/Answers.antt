use Rattle.std.proofs.Common.{length, drop, length-drop, sym, ap, ◌∙◌, subst, arith}
use Rattle.std.proofs.lemmas.List.{drop-drop, drop_all, take_rest}
use Rattle.prolog_terms.specs.Clauses as terms
use Rattle.prolog_terms.specs.Flat.{tree}
use Rattle.prolog_clauses.specs.Flat.{goal_len}
use Rattle.prolog_clauses.proofs.Bodies.{Left, left_all, left_next, left_refused, left_end}
use Rattle.prolog_clauses.proofs.goals.is_body.Goals as goal

pub goals-init : goal.goals-init
goals-init c = record { within = omega arith; left = left_all c.args.nodes.now c.requires }

pub returns-in-None : goal.returns-in-None
returns-in-None c =
    let ns = c.args.nodes.now in
    let h = c.in-None.ensures.value in
    sym (left_refused (drop c.goals.at ns) (terms.is_body (tree ns)) c.goals.invariant.left (omega (arith, length-drop c.goals.at ns, c.goals-test.true)) (ap goal_len (sym (take_rest ns c.goals.at)) ∙ sym h))

pub goals-preserved : goal.goals-preserved
goals-preserved c =
    let ns = c.args.nodes.now in
    let h = c.in-Some.ensures.value in
    let k = c.in-Some.ensures.within in
    record {
      within = omega (arith, ap length (take_rest ns c.goals.at), length-drop c.goals.at ns, c.goals-test.true, k);
      left = subst (λ l. Left l (terms.is_body (tree ns))) (drop-drop c.in-Some.len c.goals.at ns) (left_next (drop c.goals.at ns) (terms.is_body (tree ns)) c.in-Some.len c.goals.invariant.left (ap goal_len (sym (take_rest ns c.goals.at)) ∙ sym h));
    }

pub returns : goal.returns
returns c =
    let ns = c.args.nodes.now in
    sym (left_end (terms.is_body (tree ns)) (subst (λ l. Left l (terms.is_body (tree ns))) (drop_all c.goals.at ns c.goals-test.false) c.goals.invariant.left))
