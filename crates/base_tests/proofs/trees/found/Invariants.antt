use Rattle.index_trees.specs.Reading.{IsBucketOf}
use Rattle.base_tests.proofs.trees.found.Given as goal

abbrev pub invariant-loop-k : goal.invariant-loop-k
invariant-loop-k l = IsBucketOf l.words.items l.bucket
