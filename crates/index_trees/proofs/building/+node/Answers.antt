use Rattle.std.proofs.Common.{false, ◌≢◌, ◌≡◌, ℕ, ◌+◌, ◌-◌, ◌<◌, List, [], ◌∷◌, ◌++◌, length, get_or, eqb, length-append, sym, ap, ◌∙◌, subst, arith}
use Rattle.std.proofs.lemmas.List.{nil_from_length}
use Rattle.std.proofs.lemmas.Bool.{eqb-true, eqb-false}
use Rattle.std.specs.List.{filter}
use Rattle.std.specs.Global.{Vec}
use Rattle.index_trees.specs.Parts.{IsSplit}
use Rattle.index_trees.specs.declared.item.Item.{Item}
use Rattle.index_trees.specs.Items.{has_no_code}
use Rattle.index_trees.specs.Trees.{paired, item_names, Holds}
use Rattle.index_trees.proofs.Standing.{grown, still_long, still_empty, ok_both, ok_weaker}
use Rattle.call_patterns.specs.Size.{empty_leaf}
use Rattle.index_trees.specs.Levels.{level_words}
use Rattle.index_trees.proofs.Sums.{size_child, size_none, size_of_leaf, size_done}
use Rattle.index_trees.proofs.Holding.{holds_empty, holds_leaf, holds_more, holds_node, child_holds_more}
use Rattle.index_trees.proofs.building.+node.Goals as goal

pub returns-then-is_empty-clause-stands : goal.returns-then-is_empty-clause-stands
returns-then-is_empty-clause-stands t c =
    let e : c.args.items.now ≡ [] = nil_from_length c.args.items.now (eqb-true (length c.args.items.now) 0 (sym c.is_empty.ensures ∙ c.if-is_empty.true)) in
    subst (λ (xs : List Item). Holds c.args.out.now.items empty_leaf c.args.level c.args.left xs) (sym e) (holds_empty c.args.out.now.items c.args.level c.args.left c.requires.header c.requires.empty)

pub returns-then-left-eq0-clause-stands : goal.returns-then-left-eq0-clause-stands
returns-then-left-eq0-clause-stands t c =
    ok_both c.leaf.result (λ at. at ≡ length c.args.out.now.items) (λ _. c.leaf.new.out.items ≡ c.args.out.now.items ++ (length c.args.items.now ∷ item_names c.args.items.now))
    (λ at. Holds c.leaf.new.out.items at c.args.level c.args.left c.args.items.now) c.leaf.ensures.at c.leaf.ensures.words
    (λ at p q. subst (λ (n : ℕ). Holds c.leaf.new.out.items n c.args.level c.args.left c.args.items.now) (sym p)
    (subst (λ (n : ℕ). Holds c.leaf.new.out.items (length c.args.out.now.items) c.args.level n c.args.items.now) (sym c.if-left-eq0.true)
    (holds_leaf c.args.out.now.items c.leaf.new.out.items c.args.level c.args.items.now c.requires.header q)))

pub loop-child-preserved : goal.loop-child-preserved
loop-child-preserved t c =
    let i = c.loop-child.invariant in
    let g = c.in_ok-at.ensures.grows in
    record {
      grows = grown c.args.out.now.items c.loop-child.out.items c.node-in-loop-child.new.out.items i.grows.0 g.0 i.grows.1 g.1;
      header = still_long c.loop-child.out.items c.node-in-loop-child.new.out.items g.0 g.1 i.header;
      empty = still_empty c.loop-child.out.items c.node-in-loop-child.new.out.items g.0 g.1 i.header i.empty;
      rest = holds_more c.loop-child.out.items c.node-in-loop-child.new.out.items g.0 c.in_ok-rest.rest (c.args.level + 1) (c.args.left - 1) (filter (has_no_code c.args.level) c.args.items.now) i.header g.1 i.rest;
      size = size_child (length c.args.out.now.items) (length c.loop-child.out.items) (length c.node-in-loop-child.new.out.items) (c.args.left - 1) c.args.level c.loop-child.child-index
          (level_words (c.args.left - 1) (c.args.level + 1) (filter (has_no_code c.args.level) c.args.items.now)) c.args.items.now c.deref-in-loop-child.result.now
          c.in_ok-parts.parts.codes.items c.deref-child-items.result.now c.in_ok-parts.parts.rest.items c.child-item.result
          (subst (λ (ch : List (Vec Item)). IsSplit c.args.level c.args.items.now c.in_ok-parts.parts.codes.items ch c.in_ok-parts.parts.rest.items) (sym c.deref-child-items.ensures.value) c.in_ok-parts.ensures)
          c.loop-child-test.true c.child-item.is c.deref-in-loop-child.ensures.value i.size c.in_ok-at.ensures.size;
      many = ap length c.in_ok-push.ensures.items ∙ omega (arith, length-append c.loop-child.children.items (c.in_ok-at.at ∷ []), i.many);
      each = λ k d lt.
          subst (λ (xs : List ℕ). Holds c.node-in-loop-child.new.out.items (get_or xs k 0) (c.args.level + 1) (c.args.left - 1) (get_or c.deref-child-items.result.now k d).items)
          (sym c.in_ok-push.ensures.items)
          (child_holds_more c.loop-child.out.items c.node-in-loop-child.new.out.items g.0 c.loop-child.children.items c.in_ok-at.at (c.args.level + 1) (c.args.left - 1) c.loop-child.child-index
          c.deref-child-items.result.now c.child-item.result c.deref-in-loop-child.result.now i.header i.many c.loop-child-test.true g.1 c.child-item.is c.deref-in-loop-child.ensures.value c.in_ok-at.ensures.stands i.each k d lt);
    }

pub returns-clause-grows : goal.returns-clause-grows
returns-clause-grows t c =
    let more : List ℕ = length c.deref-2.result.now ∷ c.in_ok-rest.rest ∷ paired c.deref-2.result.now c.deref-3.result.now in
    ok_weaker c.inner.result (λ _. c.inner.new.out.items ≡ c.loop-child.out.items ++ (length c.deref-2.result.now ∷ c.in_ok-rest.rest ∷ paired c.deref-2.result.now c.deref-3.result.now)) (λ _. (x : List ℕ) × (c.inner.new.out.items ≡ c.args.out.now.items ++ x))
    c.inner.ensures.words (λ _ e. grown c.args.out.now.items c.loop-child.out.items c.inner.new.out.items c.loop-child.invariant.grows.0 (length c.deref-2.result.now ∷ c.in_ok-rest.rest ∷ paired c.deref-2.result.now c.deref-3.result.now) c.loop-child.invariant.grows.1 e)

pub returns-clause-stands : goal.returns-clause-stands
returns-clause-stands t c =
    let i = c.loop-child.invariant in
    let lists = c.deref-child-items.result.now in
    let first = subst (λ (cs : List ℕ). IsSplit c.args.level c.args.items.now cs c.in_ok-parts.parts.children.items c.in_ok-parts.parts.rest.items) (sym c.deref-2.ensures.value) c.in_ok-parts.ensures in
    let split = subst (λ (ch : List (Vec Item)). IsSplit c.args.level c.args.items.now c.deref-2.result.now ch c.in_ok-parts.parts.rest.items) (sym c.deref-child-items.ensures.value) first in
    let many : length c.deref-3.result.now ≡ length c.deref-2.result.now = omega (arith, ap length c.deref-3.ensures.value, i.many, split.many, c.loop-child-test.false, c.loop-child.auto.child-index-end) in
    let ats = c.deref-3.ensures.value in
    ok_both c.inner.result (λ at. at ≡ length c.loop-child.out.items) (λ _. c.inner.new.out.items ≡ c.loop-child.out.items ++ (length c.deref-2.result.now ∷ c.in_ok-rest.rest ∷ paired c.deref-2.result.now c.deref-3.result.now))
    (λ at. Holds c.inner.new.out.items at c.args.level c.args.left c.args.items.now) c.inner.ensures.at c.inner.ensures.words
    (λ at p q. subst (λ (n : ℕ). Holds c.inner.new.out.items n c.args.level c.args.left c.args.items.now) (sym p)
    (holds_node c.loop-child.out.items c.inner.new.out.items c.in_ok-rest.rest c.args.level c.args.left c.deref-2.result.now c.deref-3.result.now c.args.items.now
    c.deref-child-items.result.now c.in_ok-parts.parts.rest.items i.header c.if-left-eq0.false many q split
    (subst (λ (xs : List Item). Holds c.loop-child.out.items c.in_ok-rest.rest (c.args.level + 1) (c.args.left - 1) xs) (sym split.none) i.rest)
    (λ k d lt. subst (λ (xs : List ℕ). Holds c.loop-child.out.items (get_or xs k 0) (c.args.level + 1) (c.args.left - 1) (get_or c.deref-child-items.result.now k d).items) (sym ats)
    (i.each k d (omega (arith, split.many, c.loop-child-test.false))))))

some_items : (items : List Item) → eqb (length items) 0 ≡ false → 0 < length items
some_items items e = let ne = eqb-false (length items) 0 e in let ne0 : length items ≢ 0 = ne in omega arith

pub returns-then-is_empty-clause-size : goal.returns-then-is_empty-clause-size
returns-then-is_empty-clause-size t c =
    let e : c.args.items.now ≡ [] = nil_from_length c.args.items.now (eqb-true (length c.args.items.now) 0 (sym c.is_empty.ensures ∙ c.if-is_empty.true)) in
    let z : level_words c.args.left c.args.level c.args.items.now ≡ 0 = ap (level_words c.args.left c.args.level) e ∙ size_none c.args.left c.args.level in
    omega arith

pub returns-then-left-eq0-clause-size : goal.returns-then-left-eq0-clause-size
returns-then-left-eq0-clause-size t c =
    ok_weaker c.leaf.result (λ _. c.leaf.new.out.items ≡ c.args.out.now.items ++ (length c.args.items.now ∷ item_names c.args.items.now))
    (λ _. length c.leaf.new.out.items ≡ length c.args.out.now.items + level_words c.args.left c.args.level c.args.items.now) c.leaf.ensures.words
    (λ _ e. size_of_leaf c.args.left c.args.level c.args.out.now.items c.leaf.new.out.items c.args.items.now c.if-left-eq0.true (some_items c.args.items.now (sym c.is_empty.ensures ∙ c.if-is_empty.false)) e)

pub returns-clause-size : goal.returns-clause-size
returns-clause-size t c =
    let i = c.loop-child.invariant in
    let first = subst (λ (cs : List ℕ). IsSplit c.args.level c.args.items.now cs c.in_ok-parts.parts.children.items c.in_ok-parts.parts.rest.items) (sym c.deref-2.ensures.value) c.in_ok-parts.ensures in
    let split = subst (λ (ch : List (Vec Item)). IsSplit c.args.level c.args.items.now c.deref-2.result.now ch c.in_ok-parts.parts.rest.items) (sym c.deref-child-items.ensures.value) first in
    let many : length c.deref-3.result.now ≡ length c.deref-2.result.now = omega (arith, ap length c.deref-3.ensures.value, i.many, split.many, c.loop-child-test.false, c.loop-child.auto.child-index-end) in
    ok_weaker c.inner.result (λ _. c.inner.new.out.items ≡ c.loop-child.out.items ++ (length c.deref-2.result.now ∷ c.in_ok-rest.rest ∷ paired c.deref-2.result.now c.deref-3.result.now))
    (λ _. length c.inner.new.out.items ≡ length c.args.out.now.items + level_words c.args.left c.args.level c.args.items.now) c.inner.ensures.words
    (λ _ e. size_done (length c.args.out.now.items) c.in_ok-rest.rest c.args.left c.args.level c.loop-child.child-index c.loop-child.out.items c.inner.new.out.items c.args.items.now
    c.deref-2.result.now c.deref-3.result.now c.deref-child-items.result.now c.in_ok-parts.parts.rest.items c.if-left-eq0.false
    (some_items c.args.items.now (sym c.is_empty.ensures ∙ c.if-is_empty.false)) split many c.loop-child-test.false i.size e)
