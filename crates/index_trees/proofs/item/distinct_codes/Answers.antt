use Rattle.std.proofs.Common.{ℕ}
use Rattle.std.proofs.lemmas.List.Filters.{dedup_is}
use Rattle.std.proofs.lemmas.List.Kept.{Contains-dedup_nat, Contains-from_dedup}
use Rattle.std.proofs.lemmas.List.Sorted.{Contains-permutation, IsPermutation-sym}
use Rattle.std.proofs.lemmas.Map.Keys.{IsStrictlyIncreasing-dedup}
use Rattle.std.proofs.Common.{List, eqb}
use Rattle.std.specs.List.{dedup, filter_map, Contains}
use Rattle.std.specs.Option.{IfSome}
use Rattle.index_trees.specs.declared.item.Item.{Item}
use Rattle.index_trees.specs.Items.{code_at}
use Rattle.index_trees.proofs.Codes.{codes_are}
use Rattle.index_trees.proofs.Rising.{rising_lt}
use Rattle.index_trees.proofs.Coded.{all_codes_there, weaker}
use Rattle.index_trees.proofs.item.distinct_codes.Goals as goal

pub returns-clause-ascending : goal.returns-clause-ascending
returns-clause-ascending c =
    let is = dedup_is _ _ _ c.dedup.ensures.filtered in
    rw is (IsStrictlyIncreasing-dedup _ c.sort_unstable.ensures.sorted)

pub returns-clause-complete : goal.returns-clause-complete
returns-clause-complete c =
    let is = dedup_is _ _ _ c.dedup.ensures.filtered in
    let all = all_codes_there c.args.level c.args.items.now in
    let P : List ℕ → Item → Type 0 = λ xs it. IfSome (code_at c.args.level it) (λ n. Contains xs n) in
    rw is (weaker c.args.level c.args.items.now (filter_map (code_at c.args.level) c.args.items.now) (dedup eqb c.sort_unstable.new.self.items)
    (λ n h. let k = rw (← c.in_ok-codes.ensures) at h in Contains-dedup_nat _ n (Contains-permutation _ _ n c.sort_unstable.ensures.permutation k)) all)

pub returns-clause-are : goal.returns-clause-are
returns-clause-are c =
    let is = dedup_is _ _ _ c.dedup.ensures.filtered in
    let moved = c.sort_unstable.ensures.permutation in
    let codes = dedup eqb c.sort_unstable.new.self.items in
    rw is (codes_are c.args.level c.args.items.now (dedup eqb c.sort_unstable.new.self.items)
    (rising_lt (dedup eqb c.sort_unstable.new.self.items) (IsStrictlyIncreasing-dedup _ c.sort_unstable.ensures.sorted))
    (λ x h. Contains-dedup_nat _ x (Contains-permutation _ _ x moved (rw (← c.in_ok-codes.ensures) at h)))
    (λ x h. let k = Contains-permutation _ _ x (IsPermutation-sym _ _ moved) (Contains-from_dedup _ _ x h) in rw c.in_ok-codes.ensures at k))
