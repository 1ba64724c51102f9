use Rattle.std.proofs.Common.{◌≡◌, ℕ, ◌-◌, List, length, take, drop, sym, ap, ◌∙◌, subst}
use Rattle.std.specs.Prelude.{IfOk}
use Rattle.std.proofs.lemmas.List.{take_rest}
use Rattle.prolog_terms.specs.Flat.{tree, HasPrefixOrder}
use Rattle.prolog_terms.specs.declared.node.Node.{Node}
use Rattle.prolog_clauses.specs.Flat.{span}
use Rattle.prolog_clauses.specs.Formed.{rule, of_parts}
use Rattle.prolog_clauses.proofs.Rules.{split_rule}
use Rattle.prolog_clauses.proofs.clause.rule.Goals as goal

front_is : (ns : List Node) (mid : ℕ) (front : List Node) → mid ≡ span 1 (take (length ns - 1) (drop 1 ns)) → front ≡ take mid (take (length ns - 1) (drop 1 ns)) → front ≡ take (span 1 (drop 1 ns)) (drop 1 ns)
front_is ns mid front m e = e ∙ (ap (take mid) (take_rest ns 1) ∙ ap (λ k. take k (drop 1 ns)) (m ∙ ap (span 1) (take_rest ns 1)))

back_is : (ns : List Node) (mid : ℕ) (back : List Node) → mid ≡ span 1 (take (length ns - 1) (drop 1 ns)) → back ≡ drop mid (take (length ns - 1) (drop 1 ns)) → back ≡ drop (span 1 (drop 1 ns)) (drop 1 ns)
back_is ns mid back m e = e ∙ (ap (drop mid) (take_rest ns 1) ∙ ap (λ k. drop k (drop 1 ns)) (m ∙ ap (span 1) (take_rest ns 1)))

pub of_parts-requires-clause-head : goal.of_parts-requires-clause-head
of_parts-requires-clause-head c =
    subst HasPrefixOrder (sym (front_is c.args.nodes.now c.tree_len.result c.split_at.result.0.now c.tree_len.ensures.value c.split_at.ensures.front)) (split_rule c.args.nodes.now c.requires.term c.requires.rule).head

pub of_parts-requires-clause-body : goal.of_parts-requires-clause-body
of_parts-requires-clause-body c =
    subst HasPrefixOrder (sym (back_is c.args.nodes.now c.tree_len.result c.split_at.result.1.now c.tree_len.ensures.value c.split_at.ensures.back)) (split_rule c.args.nodes.now c.requires.term c.requires.rule).body

pub returns : goal.returns
returns c =
    let ns = c.args.nodes.now in
    let front = front_is ns c.tree_len.result c.split_at.result.0.now c.tree_len.ensures.value c.split_at.ensures.front in
    let back = back_is ns c.tree_len.result c.split_at.result.1.now c.tree_len.ensures.value c.split_at.ensures.back in
    let parts = ap (λ l. rule (tree l) (tree c.split_at.result.1.now)) front ∙ (ap (λ l. rule (tree (take (span 1 (drop 1 ns)) (drop 1 ns))) (tree l)) back ∙ sym (split_rule ns c.requires.term c.requires.rule).parts) in
    subst (λ p. IfOk c.of_parts.result (λ x. x ≡ of_parts p)) parts c.of_parts.ensures
