use Rattle.call_patterns.specs.Size.{empty_leaf}
use Rattle.std.proofs.Common.{◌≡◌, ◌<◌, length, ap, ◌∙◌, arith, length-append}
use Rattle.std.proofs.Math.ListN.{set}
use Rattle.std.proofs.lemmas.List.{length-set}
use Rattle.call_patterns.specs.Rows.{bucket}
use Rattle.call_patterns.specs.Patterns.{positions}
use Rattle.index_trees.specs.Levels.{level_words}
use Rattle.index_trees.proofs.Imaging.{rows_back, closed}
use Rattle.index_trees.proofs.Rowed.{placed, size_is}
use Rattle.index_trees.proofs.making.build.Goals as goal

pub returns-clause-buckets : goal.returns-clause-buckets
returns-clause-buckets c cs many =
    let items = placed c.args.pattern c.args.rows.now c.places_of.result c.deref.result.now c.places_of.ensures (c.deref.ensures.value ∙ c.in_ok-items.ensures) in
    let grows = c.in_ok-root.ensures.grows in
    let long : empty_leaf < length c.node.new.out.items = omega (arith, ap length grows.1, length-append c.in_ok-words.words.items grows.0, ap length c.in_ok-words.ensures) in
    closed c.node.new.out.items c.close.new.words.items (length c.node.new.out.items) c.in_ok-root.root c.args.pattern.count c.deref.result.now cs
    (bucket c.args.rows.now (positions c.args.pattern) cs) long c.close.ensures.words c.close.ensures.small c.in_ok-root.ensures.stands many
    (rows_back c.args.pattern c.args.rows.now c.deref.result.now cs c.requires.pattern many items)

pub returns-clause-size : goal.returns-clause-size
returns-clause-size c =
    let items = placed c.args.pattern c.args.rows.now c.places_of.result c.deref.result.now c.places_of.ensures (c.deref.ensures.value ∙ c.in_ok-items.ensures) in
    let out = c.node.new.out.items in
    let len : length c.close.new.words.items ≡ length out =
    ap length c.close.ensures.words ∙ length-set (set out 6 (length out)) 7 c.in_ok-root.root ∙ length-set out 6 (length out) in
    let words = ap (level_words c.args.pattern.count 0) items in
    let nine = ap length c.in_ok-words.ensures in
    let whole = size_is c.args.pattern c.args.rows.now c.requires.pattern in
    omega (arith, c.in_ok-root.ensures.size, len, words, nine, whole)
