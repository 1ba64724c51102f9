-- The key of the term at a place is that of its first node.
use Rattle.std.proofs.Common.{◌≡◌, ℕ, suc, zero, ◌+◌, ◌≤◌, List, [], ◌∷◌, length, drop, refl, sym, ap, ◌∙◌, arith, Option, Some, None, slice_get, true, Bool, drop_of_length-le}
use Rattle.std.specs.Prelude.{IsTrue, option_and_then}
use Rattle.std.proofs.lemmas.Option.{slice_get-map}
use Rattle.std.proofs.lemmas.List.{map-append, length-map}
use Rattle.std.proofs.Common.{◌++◌, map}
use Rattle.journals.specs.Numbers.{numbers_from}
use Rattle.std.proofs.Common.{append-nil}
use Rattle.std.specs.Prelude.{option_map}
use Rattle.prolog_terms.specs.Flat.{nodes, forest-nodes}
use Rattle.call_patterns.specs.Keys.{subterm_at}
use Rattle.prolog_terms.specs.Tree.{Tree}
use Rattle.prolog_terms.specs.Flat.{forest, are_trees}
use Rattle.call_patterns.specs.Keys.{Key, key, keys_agree, functor_key}
use Rattle.prolog_terms.specs.declared.node.Node.{Node}
use Rattle.prolog_terms.specs.declared.node.Node.TheVariants.{Var, Int, Atom, Functor}
use Rattle.call_patterns.specs.Places.{tree_at, trees_at, first_tree}
use Rattle.call_patterns.proofs.Walking.{tree-end, drop-at}
use Rattle.call_patterns.proofs.Enough.{enough}
use Rattle.std.proofs.Common.{◌<◌, ◌-◌, ◌&&◌}
use Rattle.call_patterns.specs.Keys.{keys, key_at, could_match}
use Rattle.call_patterns.specs.NodeKey.{node_key, place_key, ArePlaces, rest_agrees}

pub key_at_node : (ns : List Node) (k : ℕ) (n : Node) → IsTrue (are_trees 1 ns) → slice_get ns k ≡ Some n → option_and_then key (tree_at ns k) ≡ node_key n
unfolding tree_at trees_at
key_at_node ns k n h s = ap (λ l. option_and_then key (first_tree (forest l))) (drop-at ns k n s) ∙ go n s
  where
    go : (n : Node) → slice_get ns k ≡ Some n → option_and_then key (first_tree (forest (n ∷ drop (k + 1) ns))) ≡ node_key n
    go (Var n) s = refl
    go (Int n) s = refl
    go (Atom n) s = refl
    go (Functor f n) s = ap (λ m. Some (functor_key f m)) (enough ns 1 k f n h s)

pub key_past : (ns : List Node) (k : ℕ) → length ns ≤ k → option_and_then key (tree_at ns k) ≡ None
key_past ns k h = ap (option_and_then key) (tree-end ns k h)

pub agree_none : (o : Option Key) → keys_agree o None ≡ true
agree_none None = refl
agree_none (Some a) = refl

nothing_there : (ns : List Node) (k : ℕ) → slice_get ns k ≡ None → length ns ≤ k
nothing_there [] k h = omega arith
nothing_there (n ∷ ns) zero h = absurd (cc)
nothing_there (n ∷ ns) (suc k) h = let le : length ns ≤ k = nothing_there ns k h in omega arith

pub agree_past : (ns : List Node) (k : ℕ) (o : Option Key) → slice_get ns k ≡ None → keys_agree (option_and_then key (tree_at ns k)) o ≡ true
agree_past ns k o h = ap (λ a. keys_agree a o) (key_past ns k (nothing_there ns k h)) ∙ either o
  where
    either : (o : Option Key) → keys_agree None o ≡ true
    either None = refl
    either (Some a) = refl

pub whole : (t : Tree) (goal : List (Option Key)) → could_match t goal ≡ rest_agrees t goal 0
unfolding could_match rest_agrees keys
whole t goal = refl

pub one_key : (t : Tree) (goal : List (Option Key)) (p : ℕ) (k : Option Key) → p < 40 → slice_get goal p ≡ Some k
    → rest_agrees t goal p ≡ (keys_agree (key_at t p) k && rest_agrees t goal (p + 1))
unfolding rest_agrees
one_key t goal p k h s =
    let e : 40 - p ≡ suc (40 - (p + 1)) = omega arith in
    rw (e, cut goal p k s) refl
  where
    cut : (xs : List (Option Key)) (i : ℕ) (x : Option Key) → slice_get xs i ≡ Some x → drop i xs ≡ x ∷ drop (i + 1) xs
    cut [] i x s = absurd (cc)
    cut (y ∷ ys) zero x s = let e : y ≡ x = cc in ap (λ k. k ∷ ys) e
    cut (y ∷ ys) (suc i) x s = cut ys i x s ∙ ap (λ k. x ∷ drop k (y ∷ ys)) (let e : suc (i + 1) ≡ suc i + 1 = omega arith in e)

pub no_key_left : (t : Tree) (goal : List (Option Key)) (p : ℕ) → 40 ≤ p → length goal ≡ 40 → rest_agrees t goal p ≡ true
unfolding rest_agrees
no_key_left t goal p h l =
    let e : 40 - p ≡ 0 = omega arith in
    let le : length goal ≤ p = omega arith in
    rw (e, drop_of_length-le goal le) refl

head_here : (t : Tree) (ns : List Node) → ns ≡ nodes t → tree_at ns 0 ≡ Some t
unfolding tree_at
head_here t ns e = ap (λ l. first_tree (forest l)) (e ∙ sym (append-nil (nodes t))) ∙ ap first_tree (forest-nodes t [])

agree_any : (b : Option Key) → keys_agree None b ≡ true
agree_any None = refl
agree_any (Some a) = refl

-- a place's key is that of the term that begins there
pub place_is : (ns : List Node) (a : ℕ) → IsTrue (are_trees 1 ns) → place_key ns a ≡ option_and_then key (tree_at ns a)
place_is ns a h = go (slice_get ns a) refl
  where
    go : (o : Option Node) → slice_get ns a ≡ o → option_and_then node_key o ≡ option_and_then key (tree_at ns a)
    go None e = sym (key_past ns a (nothing_there ns a e))
    go (Some n) e = sym (key_at_node ns a n h e)

-- the place of a position shows the key there
pub position_key : (t : Tree) (ns : List Node) (p a : ℕ) → ns ≡ nodes t → IsTrue (are_trees 1 ns)
    → tree_at ns a ≡ option_and_then (λ t. subterm_at t p) (tree_at ns 0) → place_key ns a ≡ key_at t p
position_key t ns p a e h is = place_is ns a h ∙ ap (option_and_then key) (is ∙ ap (option_and_then (λ t. subterm_at t p)) (head_here t ns e))

pub numbers_from-last : (k n : ℕ) → numbers_from k (n + 1) ≡ numbers_from k n ++ (k + n) ∷ []
numbers_from-last k zero = let z : k ≡ k + 0 = omega arith in ap (λ m. m ∷ []) z
numbers_from-last k (suc n) =
    let e : suc n + 1 ≡ suc (n + 1) = omega arith in
    let f : k + 1 + n ≡ k + suc n = omega arith in
    rw (e, numbers_from-last (k + 1) n, f) refl

pub length-numbers : (k n : ℕ) → length (numbers_from k n) ≡ n
length-numbers k zero = refl
length-numbers k (suc n) = ap suc (length-numbers (k + 1) n)

-- one place more
pub one_place : (t : Tree) (ns : List Node) (places : List ℕ) (p a : ℕ) → ns ≡ nodes t → IsTrue (are_trees 1 ns)
    → tree_at ns a ≡ option_and_then (λ t. subterm_at t p) (tree_at ns 0)
    → map (place_key ns) places ≡ map (key_at t) (numbers_from 0 p) → map (place_key ns) (places ++ a ∷ []) ≡ map (key_at t) (numbers_from 0 (p + 1))
one_place t ns places p a e h is before =
    map-append (place_key ns) places (a ∷ [])
    ∙ ap (λ l. l ++ place_key ns a ∷ []) before
    ∙ ap (λ k. map (key_at t) (numbers_from 0 p) ++ k ∷ []) (position_key t ns p a e h is)
    ∙ sym (ap (map (key_at t)) (numbers_from-last 0 p) ∙ map-append (key_at t) (numbers_from 0 p) ((0 + p) ∷ []) ∙ ap (λ n. map (key_at t) (numbers_from 0 p) ++ key_at t n ∷ []) (let z : 0 + p ≡ p = omega arith in z))

-- all places
pub all_places : (t : Tree) (places : List ℕ) → map (place_key (nodes t)) places ≡ map (key_at t) (numbers_from 0 40) → ArePlaces t places
unfolding ArePlaces keys
all_places t places e = e

pub places_long : (t : Tree) (places : List ℕ) → ArePlaces t places → length places ≡ 40
unfolding ArePlaces keys
places_long t places e = sym (length-map places (place_key (nodes t))) ∙ ap length e ∙ length-map (numbers_from 0 40) (key_at t) ∙ length-numbers 0 40

-- the key of the goal at a position
pub goal_key : (t : Tree) (places : List ℕ) (p k : ℕ) → ArePlaces t places → slice_get places p ≡ Some k → slice_get (keys t) p ≡ Some (place_key (nodes t) k)
unfolding ArePlaces
goal_key t places p k e s = ap (λ l. slice_get l p) (sym e) ∙ slice_get-map (place_key (nodes t)) places p ∙ ap (option_map (place_key (nodes t))) s

pub length-keys : (t : Tree) → length (keys t) ≡ 40
unfolding keys
length-keys t = length-map (numbers_from 0 40) (key_at t) ∙ length-numbers 0 40

-- what a test at one position says of the whole
pub tested : (head goal : Tree) (hs gs : List Node) (places : List ℕ) (p k : ℕ) (b : Bool) → hs ≡ nodes head → gs ≡ nodes goal → p < 40 → ArePlaces goal places
    → slice_get places p ≡ Some k → b ≡ keys_agree (option_and_then key (option_and_then (λ t. subterm_at t p) (tree_at hs 0))) (place_key gs k)
    → rest_agrees head (keys goal) p ≡ (b && rest_agrees head (keys goal) (p + 1))
tested head goal hs gs places p k b he ge h are s is =
    one_key head (keys goal) p (place_key (nodes goal) k) h (goal_key goal places p k are s)
    ∙ ap (λ c. c && rest_agrees head (keys goal) (p + 1))
    (sym (is ∙ ap (λ o. keys_agree (option_and_then key (option_and_then (λ t. subterm_at t p) o)) (place_key gs k)) (head_here head hs he) ∙ ap (λ ns. keys_agree (key_at head p) (place_key ns k)) ge))
