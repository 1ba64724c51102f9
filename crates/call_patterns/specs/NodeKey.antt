-- The key that a node shows.
use Rattle.std.specs.Prelude.{◌≡◌, ℕ, ◌-◌, Option, Some, None, Bool, List, map, drop, slice_get, option_and_then}
use Rattle.std.specs.Cmp.Lexicographic.{pointwise}
use Rattle.prolog_terms.specs.Tree.{Tree}
use Rattle.prolog_terms.specs.Flat.{nodes}
use Rattle.journals.specs.Numbers.{numbers_from}
use Rattle.call_patterns.specs.Keys.{Key, integer_key, atom_key, functor_key, key_at, keys, keys_agree}
use Rattle.prolog_terms.specs.declared.node.Node.{Node}
use Rattle.prolog_terms.specs.declared.node.Node.TheVariants.{Var, Int, Atom, Functor}

abbrev pub node_key : Node → Option Key
node_key (Var n) = None
node_key (Int z) = Some (integer_key z)
node_key (Atom a) = Some (atom_key a)
node_key (Functor f n) = Some (functor_key f n)

-- the key of the node at a place
abbrev pub place_key : List Node → ℕ → Option Key
place_key ns k = option_and_then node_key (slice_get ns k)

-- the places of the goal's 40 positions among its nodes; where it has no such position, a place past them
abbrev pub ArePlaces : Tree → List ℕ → Type 0
ArePlaces goal places = map (place_key (nodes goal)) places ≡ keys goal

-- from this position on, the keys agree
unfoldable pub rest_agrees : Tree → List (Option Key) → ℕ → Bool
rest_agrees head goal p = pointwise keys_agree (map (key_at head) (numbers_from p (40 - p))) (drop p goal)
