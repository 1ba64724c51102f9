-- What a test of a head at one position says of the whole.
use Rattle.std.proofs.Common.{◌≡◌, ℕ, ◌+◌, ◌<◌, List, ◌&&◌, Bool, Option, Some, slice_get, sym, ap, ◌∙◌}
use Rattle.std.specs.Prelude.{IsTrue, option_and_then, option_map}
use Rattle.std.proofs.lemmas.Option.{slice_get-map}
use Rattle.prolog_terms.specs.Tree.{Tree}
use Rattle.prolog_terms.specs.Flat.{nodes, are_trees}
use Rattle.prolog_terms.specs.declared.node.Node.{Node}
use Rattle.call_patterns.specs.Keys.{key, key_at, keys_agree, subterm_at}
use Rattle.call_patterns.specs.Places.{tree_at}
use Rattle.call_patterns.specs.Calls.{goal_keys, key_of}
use Rattle.call_patterns.specs.declared.key.Key as Call
use Rattle.call_patterns.specs.NodeKey.{rest_agrees}
use Rattle.call_patterns.proofs.NodeKeys.{one_key, place_is, position_key}

pub tested_at : (t : Tree) (ns : List Node) (names : List (List ℕ)) (at : List (Option Call.Key)) (p a : ℕ) (k : Option Call.Key) (b : Bool)
    → ns ≡ nodes t → IsTrue (are_trees 1 ns) → p < 40
    → slice_get at p ≡ Some k → tree_at ns a ≡ option_and_then (λ t. subterm_at t p) (tree_at ns 0)
    → b ≡ keys_agree (option_and_then key (tree_at ns a)) (option_map (key_of names) k)
    → rest_agrees t (goal_keys names at) p ≡ (b && rest_agrees t (goal_keys names at) (p + 1))
tested_at t ns names at p a k b e trees h s place is =
    let here : option_and_then key (tree_at ns a) ≡ key_at t p = sym (place_is ns a trees) ∙ position_key t ns p a e trees place in
    one_key t (goal_keys names at) p (option_map (key_of names) k) h (slice_get-map (option_map (key_of names)) at p ∙ ap (option_map (option_map (key_of names))) s)
    ∙ ap (λ c. c && rest_agrees t (goal_keys names at) (p + 1)) (sym (is ∙ ap (λ o. keys_agree o (option_map (key_of names) k)) here))
