use Rattle.std.proofs.Common.{◌∷◌, [], get_or, sym, ap, ◌∙◌}
use Rattle.call_patterns.specs.Patterns.{places}
use Rattle.call_patterns.proofs.Positioned.{place_at}
use Rattle.index_trees.proofs.Imaging.{three_is}
use Rattle.index_trees.proofs.making.places_of.Goals as goal

pub returns : goal.returns
returns c =
    ap (λ n. n ∷ (get_or c.args.pattern.at 1 (record { 0 = 0 })).0 ∷ (get_or c.args.pattern.at 2 (record { 0 = 0 })).0 ∷ []) (place_at c.args.pattern.at 0)
    ∙ ap (λ n. get_or (places c.args.pattern) 0 0 ∷ n ∷ (get_or c.args.pattern.at 2 (record { 0 = 0 })).0 ∷ []) (place_at c.args.pattern.at 1)
    ∙ ap (λ n. get_or (places c.args.pattern) 0 0 ∷ get_or (places c.args.pattern) 1 0 ∷ n ∷ []) (place_at c.args.pattern.at 2)
    ∙ sym (three_is (places c.args.pattern) c.requires.three)
