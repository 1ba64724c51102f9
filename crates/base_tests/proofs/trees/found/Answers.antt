use Rattle.call_patterns.specs.Size.{empty_leaf}
use Rattle.std.proofs.Common.{◌≡◌, ◌<◌, ℕ, List, length, arith, sym, subst, refl}
use Rattle.call_patterns.specs.Patterns.{positions}
use Rattle.call_patterns.specs.Rows.{bucket}
use Rattle.index_trees.specs.Reading.{HasBucket, IsBucketOf}
use Rattle.index_trees.proofs.Found.{may_probe}
use Rattle.base_tests.proofs.trees.found.Goals as goal

pub probe-bucket-requires : goal.probe-bucket-requires
probe-bucket-requires c = λ ws may.
    let many : length c.args.codes.now ≡ c.args.pattern.count = omega (arith, c.if-codes-pattern.false) in
    let long : empty_leaf < length c.in_ok-words.words.items = omega (arith, c.in_ok-words.ensures.size) in
    subst (λ (xs : List ℕ). HasBucket xs c.args.codes.now) (sym may)
    (may_probe c.in_ok-words.words.items c.args.codes.now (bucket c.args.rows.now (positions c.args.pattern) c.args.codes.now) long (c.in_ok-words.ensures.buckets c.args.codes.now many))

pub loop-k-init : goal.loop-k-init
loop-k-init c = record { codes = c.args.codes.now; leads = c.probe-bucket.ensures.bucket c.probe-bucket.new.words.items refl }

pub loop-k-preserved : goal.loop-k-preserved
loop-k-preserved c =
    let same = c.bucket_word.ensures.narrows c.bucket_word.new.words.items refl in
    subst (λ (ws : List ℕ). IsBucketOf ws c.probe-bucket.result) (sym same) c.loop-k.invariant
