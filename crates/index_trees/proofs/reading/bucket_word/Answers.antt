use Rattle.std.proofs.Common.{◌+◌, ◌<◌, ◌^◌, arith}
use Rattle.index_trees.proofs.Searching.{bucket_within}
use Rattle.index_trees.proofs.reading.bucket_word.Goals as goal

pub overflow_add-bucket : goal.overflow_add-bucket
overflow_add-bucket g c =
    let some = c.requires.some in
    let w = bucket_within some.0 c.args.bucket.now (c.requires.bucket some.0 some.1) in
    let lt : c.args.bucket.now.at + c.args.k < 2 ^ 64 = omega (arith, c.requires.below) in record { fits = lt }

pub word-requires : goal.word-requires
word-requires g c ws may =
    let w = bucket_within ws c.args.bucket.now (c.requires.bucket ws may) in
    omega (arith, c.requires.below)
