use Rattle.std.proofs.Common.{◌≡◌, length, sym, ap, ◌∙◌}
use Rattle.prolog_terms.specs.Flat.{tree}
use Rattle.prolog_clauses.specs.Formed.{rule, number_in}
use Rattle.prolog_clauses.specs.Renaming.{renamed}
use Rattle.prolog_clauses.proofs.Numberings.{head_items, body_items, last_items, same_tree, renamed_arities}
use Rattle.prolog_clauses.proofs.clause.numbered.Goals as goal

pub term_of-requires : goal.term_of-requires
term_of-requires c =
    let hs = c.args.head.now in
    let bs = c.args.body.now in
    let n = number_in (rule (tree hs) (tree bs)) in
    (renamed n (tree hs), (renamed_arities n (tree hs) c.requires.head.arities, head_items hs bs c.new-numbers.result c.in_ok-head.head.items c.requires.head c.new-numbers.ensures c.in_ok-head.ensures.nodes))

pub term_of-requires-2 : goal.term_of-requires-2
term_of-requires-2 c =
    let hs = c.args.head.now in
    let bs = c.args.body.now in
    let n = number_in (rule (tree hs) (tree bs)) in (
      renamed n (tree bs),
      (
        renamed_arities n (tree bs) c.requires.body.arities,
        body_items hs bs c.new-numbers.result c.all_numbered.new.self c.in_ok-body.body.items c.requires.head c.requires.body c.new-numbers.ensures c.in_ok-head.ensures.met c.in_ok-body.ensures.nodes,
      ),
    )

pub returns : goal.returns
returns c =
    let hs = c.args.head.now in
    let bs = c.args.body.now in
    let n = number_in (rule (tree hs) (tree bs)) in
    let head : c.term_of.result ≡ renamed n (tree hs) =
    same_tree c.term_of.result (renamed n (tree hs)) (c.term_of.ensures ∙ sym (head_items hs bs c.new-numbers.result c.in_ok-head.head.items c.requires.head c.new-numbers.ensures c.in_ok-head.ensures.nodes)) in
    let body : c.term_of-2.result ≡ renamed n (tree bs) =
    same_tree c.term_of-2.result (renamed n (tree bs)) (c.term_of-2.ensures
    ∙ sym (body_items hs bs c.new-numbers.result c.all_numbered.new.self c.in_ok-body.body.items c.requires.head c.requires.body c.new-numbers.ensures c.in_ok-head.ensures.met c.in_ok-body.ensures.nodes)) in
    let vars = c.count.ensures ∙ ap length (last_items hs bs c.new-numbers.result c.all_numbered.new.self c.all_numbered-2.new.self c.requires.head c.requires.body c.new-numbers.ensures c.in_ok-head.ensures.met c.in_ok-body.ensures.met) in
    λ i. record { head = head i; body = body i; vars = vars i }
