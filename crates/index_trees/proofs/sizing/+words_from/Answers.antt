use Rattle.std.proofs.Common.{false, ◌≡◌, ◌≢◌, ℕ, ◌+◌, ◌-◌, ◌*◌, ◌<◌, ◌≤◌, List, [], length, eqb, sym, ap, ◌∙◌, subst, arith, refl}
use Rattle.std.proofs.lemmas.Bool.{eqb-true, eqb-false}
use Rattle.std.proofs.lemmas.List.{nil_from_length}
use Rattle.std.specs.List.{filter}
use Rattle.std.specs.Global.{Vec}
use Rattle.index_trees.specs.declared.item.Item.{Item}
use Rattle.index_trees.specs.Items.{has_no_code, fits_at}
use Rattle.index_trees.specs.Parts.{IsSplit}
use Rattle.index_trees.specs.Levels.{level_words, codes_of}
use Rattle.index_trees.specs.Limits.{IsSize}
use Rattle.index_trees.proofs.Sums.{size_none, size_leaf, size_node, size_child, total_le, total_all}
use Rattle.index_trees.proofs.Least.{least}
use Rattle.index_trees.proofs.sizing.+words_from.Goals as goal

some_items : (items : List Item) → eqb (length items) 0 ≡ false → 0 < length items
some_items items e = let ne : length items ≢ 0 = eqb-false (length items) 0 e in omega arith

pub returns-then-is_empty : goal.returns-then-is_empty
returns-then-is_empty t c =
    let e : c.args.items.now ≡ [] = nil_from_length c.args.items.now (eqb-true (length c.args.items.now) 0 (sym c.is_empty.ensures ∙ c.if-is_empty.true)) in
    let z : level_words c.args.left c.args.level c.args.items.now ≡ 0 = ap (level_words c.args.left c.args.level) e ∙ size_none c.args.left c.args.level in
    (sym z, omega arith)

pub returns-then-left-eq0 : goal.returns-then-left-eq0
returns-then-left-eq0 t c =
    let e : level_words c.args.left c.args.level c.args.items.now ≡ 1 + length c.args.items.now =
    ap (λ n. level_words n c.args.level c.args.items.now) c.if-left-eq0.true ∙ size_leaf c.args.level c.args.items.now (some_items c.args.items.now (sym c.is_empty.ensures ∙ c.if-is_empty.false)) in
    subst (λ (n : ℕ). IsSize n c.args.limit c.within.result) (sym e) c.within.ensures

pub returns-in-TooMany : goal.returns-in-TooMany
returns-in-TooMany t c =
    let l = least c.args.left c.args.level c.args.items.now c.if-left-eq0.false (some_items c.args.items.now (sym c.is_empty.ensures ∙ c.if-is_empty.false)) in
    omega (arith, c.in-TooMany.ensures, l)

pub returns-in-Above : goal.returns-in-Above
returns-in-Above t c =
    let node = size_node c.args.left c.args.level c.args.items.now c.if-left-eq0.false (some_items c.args.items.now (sym c.is_empty.ensures ∙ c.if-is_empty.false)) in
    let split : IsSplit c.args.level c.args.items.now c.in-Within.parts.codes.items c.in-Within.parts.children.items c.in-Within.parts.rest.items = c.in-Within.ensures.0 in
    let count = ap length split.are in
    let rest = ap (level_words (c.args.left - 1) (c.args.level + 1)) (c.deref.ensures.value ∙ split.none) in
    omega (arith, c.len.ensures, c.in-Above.ensures)

pub returns-in-Above-words_from : goal.returns-in-Above-words_from
returns-in-Above-words_from t c =
    let i = c.loop-child.invariant in
    let node = size_node c.args.left c.args.level c.args.items.now c.if-left-eq0.false (some_items c.args.items.now (sym c.is_empty.ensures ∙ c.if-is_empty.false)) in
    let split = subst (λ (ch : List (Vec Item)). IsSplit c.args.level c.args.items.now c.in-Within.parts.codes.items ch c.in-Within.parts.rest.items) (sym c.deref-child-items.ensures.value) c.in-Within.ensures.0 in
    let base : ℕ = 2 + 2 * length (codes_of c.args.level c.args.items.now) in
    let kept : ℕ = level_words (c.args.left - 1) (c.args.level + 1) c.deref-in-loop-child.result.now in
    let more = size_child (2 + 2 * length (codes_of c.args.level c.args.items.now)) c.loop-child.total (c.loop-child.total + level_words (c.args.left - 1) (c.args.level + 1) c.deref-in-loop-child.result.now)
    (c.args.left - 1) c.args.level c.loop-child.child-index (level_words (c.args.left - 1) (c.args.level + 1) (filter (has_no_code c.args.level) c.args.items.now)) c.args.items.now
    c.deref-in-loop-child.result.now c.in-Within.parts.codes.items c.deref-child-items.result.now c.in-Within.parts.rest.items c.child-item.result split
    c.loop-child-test.true c.child-item.is c.deref-in-loop-child.ensures.value i.size (refl) in
    let le = total_le (λ x. level_words (c.args.left - 1) (c.args.level + 1) (filter (fits_at c.args.level x) c.args.items.now)) (codes_of c.args.level c.args.items.now) (c.loop-child.child-index + 1) in
    omega (arith, c.in-Above-words_from.ensures, i.within)

pub loop-child-preserved : goal.loop-child-preserved
loop-child-preserved t c =
    let i = c.loop-child.invariant in
    let split = subst (λ (ch : List (Vec Item)). IsSplit c.args.level c.args.items.now c.in-Within.parts.codes.items ch c.in-Within.parts.rest.items) (sym c.deref-child-items.ensures.value) c.in-Within.ensures.0 in
    let got = c.in-Words-words_from.ensures in
    record {
      within = omega (arith, got.0, got.1, i.within);
      size = size_child (2 + 2 * length (codes_of c.args.level c.args.items.now)) c.loop-child.total (c.loop-child.total + c.in-Words-words_from.words)
          (c.args.left - 1) c.args.level c.loop-child.child-index (level_words (c.args.left - 1) (c.args.level + 1) (filter (has_no_code c.args.level) c.args.items.now)) c.args.items.now
          c.deref-in-loop-child.result.now c.in-Within.parts.codes.items c.deref-child-items.result.now c.in-Within.parts.rest.items c.child-item.result split
          c.loop-child-test.true c.child-item.is c.deref-in-loop-child.ensures.value i.size (ap (λ n. c.loop-child.total + n) got.0);
    }

pub returns : goal.returns
returns t c =
    let i = c.loop-child.invariant in
    let node = size_node c.args.left c.args.level c.args.items.now c.if-left-eq0.false (some_items c.args.items.now (sym c.is_empty.ensures ∙ c.if-is_empty.false)) in
    let split = subst (λ (ch : List (Vec Item)). IsSplit c.args.level c.args.items.now c.in-Within.parts.codes.items ch c.in-Within.parts.rest.items) (sym c.deref-child-items.ensures.value) c.in-Within.ensures.0 in
    let past : length (codes_of c.args.level c.args.items.now) ≤ c.loop-child.child-index = omega (arith, ap length split.are, split.many, c.loop-child-test.false) in
    let all = total_all (λ x. level_words (c.args.left - 1) (c.args.level + 1) (filter (fits_at c.args.level x) c.args.items.now)) (codes_of c.args.level c.args.items.now) c.loop-child.child-index past in
    let same : c.loop-child.total ≡ level_words c.args.left c.args.level c.args.items.now = omega (arith, i.size) in
    (same, omega (arith, i.within))
