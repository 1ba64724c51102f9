-- One step of a walk past terms.
use Rattle.std.proofs.Common.{◌≡◌, ℕ, zero, suc, ◌+◌, ◌-◌, ◌<◌, ◌≤◌, List, [], ◌∷◌, length, drop, refl, sym, ap, ◌∙◌, arith, Some, slice_get, drop_of_length-le}
use Rattle.prolog_terms.specs.Tree.{Tree, Trees, none, more}
use Rattle.prolog_terms.specs.Flat.{forest, past, first}
use Rattle.prolog_terms.specs.declared.node.Node.{Node}
use Rattle.prolog_terms.specs.declared.node.Node.TheVariants.{Var, Int, Atom, Functor}
use Rattle.std.specs.Prelude.{None, Option, option_and_then, ◌%◌, ◌/◌, ◌≢◌}
use Rattle.call_patterns.specs.Keys.{argument, arguments, subterm_at, inner}
use Rattle.call_patterns.specs.Places.{trees_at, tree_at, first_tree, argument_of}
use Rattle.call_patterns.specs.Wanted.{wanted_of}

past-none : (n : ℕ) → past n none ≡ none
past-none zero = refl
past-none (suc n) = refl

past-past : (a b : ℕ) (ts : Trees) → past a (past b ts) ≡ past (b + a) ts
past-past a zero ts = ap (λ n. past n ts) (omega arith)
past-past a (suc b) none = past-none a ∙ sym (past-none (suc b + a))
past-past a (suc b) (more t ts) = past-past a b ts ∙ ap (λ n. past n (more t ts)) (let e : suc (b + a) ≡ suc b + a = omega arith in e)

pub drop-at : (ns : List Node) (i : ℕ) (n : Node) → slice_get ns i ≡ Some n → drop i ns ≡ n ∷ drop (i + 1) ns
drop-at [] i n h = absurd (cc)
drop-at (m ∷ ns) zero n h = let e : m ≡ n = cc in ap (λ k. k ∷ ns) e
drop-at (m ∷ ns) (suc i) n h = drop-at ns i n h ∙ ap (λ k. n ∷ drop k (m ∷ ns)) (let e : suc (i + 1) ≡ suc i + 1 = omega arith in e)

pub walk_step : (ns : List Node) (i w : ℕ) (n : Node) → slice_get ns i ≡ Some n → 0 < w
    → past (w - 1 + wanted_of n) (trees_at ns (i + 1)) ≡ past w (trees_at ns i)
unfolding trees_at
walk_step ns i w n h low = rw (drop-at ns i n h) (go n w low)
  where
    go : (n : Node) (w : ℕ) → 0 < w → past (w - 1 + wanted_of n) (forest (drop (i + 1) ns)) ≡ past w (forest (n ∷ drop (i + 1) ns))
    go n zero low = absurd (omega arith)
    go (Var k) (suc w) low = ap (λ m. past m (forest (drop (i + 1) ns))) (let e : suc w - 1 + 0 ≡ w = omega arith in e)
    go (Int k) (suc w) low = ap (λ m. past m (forest (drop (i + 1) ns))) (let e : suc w - 1 + 0 ≡ w = omega arith in e)
    go (Atom k) (suc w) low = ap (λ m. past m (forest (drop (i + 1) ns))) (let e : suc w - 1 + 0 ≡ w = omega arith in e)
    go (Functor f k) (suc w) low = ap (λ m. past m (forest (drop (i + 1) ns))) (let e : suc w - 1 + k ≡ k + w = omega arith in e) ∙ sym (past-past w k (forest (drop (i + 1) ns)))

pub walk_end : (ns : List Node) (i w : ℕ) → length ns ≤ i → past w (trees_at ns i) ≡ trees_at ns i
unfolding trees_at
walk_end ns i w h = rw (drop_of_length-le ns h) (past-none w)

argument-first : (n i : ℕ) (ts : Trees) → i < n → argument (first n ts) i ≡ first_tree (past i ts)
argument-first zero i ts h = absurd (omega arith)
argument-first (suc n) zero none h = refl
argument-first (suc n) (suc i) none h = refl
argument-first (suc n) zero (more t ts) h = refl
argument-first (suc n) (suc i) (more t ts) h = let le : i < n = omega arith in argument-first n i ts le

argument-beyond : (n i : ℕ) (ts : Trees) → n ≤ i → argument (first n ts) i ≡ None
argument-beyond zero i ts h = refl
argument-beyond (suc n) zero ts h = absurd (omega arith)
argument-beyond (suc n) (suc i) none h = refl
argument-beyond (suc n) (suc i) (more t ts) h = let le : n ≤ i = omega arith in argument-beyond n i ts le

-- the arguments of the term at a place
arguments-at : (ns : List Node) (k : ℕ) (n : Node) (i : ℕ) → slice_get ns k ≡ Some n
    → argument_of ns k i ≡ argument (first (wanted_of n) (trees_at ns (k + 1))) i
unfolding argument_of tree_at trees_at
arguments-at ns k n i h = rw (drop-at ns k n h) (go n)
  where
    go : (n : Node) → option_and_then (λ t. argument (arguments t) i) (first_tree (forest (n ∷ drop (k + 1) ns))) ≡ argument (first (wanted_of n) (forest (drop (k + 1) ns))) i
    go (Var n) = refl
    go (Int n) = refl
    go (Atom n) = refl
    go (Functor f n) = refl

pub tree-end : (ns : List Node) (k : ℕ) → length ns ≤ k → tree_at ns k ≡ None
unfolding tree_at
tree-end ns k h = rw (drop_of_length-le ns h) refl

pub argument-end : (ns : List Node) (k i : ℕ) → length ns ≤ k → tree_at ns (length ns) ≡ argument_of ns k i
unfolding argument_of
argument-end ns k i h = tree-end ns (length ns) (omega arith) ∙ sym (ap (option_and_then (λ t. argument (arguments t) i)) (tree-end ns k h))

pub argument-none : (ns : List Node) (k i : ℕ) (n : Node) → slice_get ns k ≡ Some n → wanted_of n ≤ i → tree_at ns (length ns) ≡ argument_of ns k i
argument-none ns k i n h le = tree-end ns (length ns) (omega arith) ∙ sym (arguments-at ns k n i h ∙ argument-beyond (wanted_of n) i (trees_at ns (k + 1)) le)

tree-first : (ns : List Node) (j : ℕ) → tree_at ns j ≡ first_tree (trees_at ns j)
unfolding tree_at trees_at
tree-first ns j = refl

past-one : (i : ℕ) (ts : Trees) → past 1 (past i ts) ≡ past (i + 1) ts
past-one i ts = past-past 1 i ts

pub one_more : (i : ℕ) (us ts vs : Trees) → us ≡ past i ts → vs ≡ past 1 us → vs ≡ past (i + 1) ts
one_more i us ts vs p q = q ∙ ap (past 1) p ∙ past-one i ts

pub argument-some : (ns : List Node) (k i j : ℕ) (n : Node) → slice_get ns k ≡ Some n → i < wanted_of n → trees_at ns j ≡ past i (trees_at ns (k + 1))
    → tree_at ns j ≡ argument_of ns k i
argument-some ns k i j n h le e =
    tree-first ns j ∙ ap first_tree e ∙ sym (arguments-at ns k n i h ∙ argument-first (wanted_of n) i (trees_at ns (k + 1)) le)

to_inner : (o : Option Tree) (p i j : ℕ) → p % 5 ≡ j → option_and_then (λ t. subterm_at t p) o ≡ option_and_then (inner j) (option_and_then (λ t. argument (arguments t) (p / 5)) o)
to_inner None p i j e = refl
to_inner (Some t) p i j e = ap (λ k. option_and_then (inner k) (argument (arguments t) (p / 5))) e

inner_zero : (o : Option Tree) → option_and_then (inner 0) o ≡ o
inner_zero None = refl
inner_zero (Some t) = refl

inner_suc : (o : Option Tree) (j : ℕ) → option_and_then (inner (suc j)) o ≡ option_and_then (λ t. argument (arguments t) j) o
inner_suc None j = refl
inner_suc (Some t) j = refl

pub outer_place : (ns : List Node) (p a : ℕ) → p % 5 ≡ 0 → tree_at ns a ≡ argument_of ns 0 (p / 5) → tree_at ns a ≡ option_and_then (λ t. subterm_at t p) (tree_at ns 0)
unfolding argument_of
outer_place ns p a z e = e ∙ sym (to_inner (tree_at ns 0) p 0 0 z ∙ inner_zero _)

pub inner_place : (ns : List Node) (p a b : ℕ) → p % 5 ≢ 0 → tree_at ns a ≡ argument_of ns 0 (p / 5) → tree_at ns b ≡ argument_of ns a (p % 5 - 1)
    → tree_at ns b ≡ option_and_then (λ t. subterm_at t p) (tree_at ns 0)
unfolding argument_of
inner_place ns p a b nz e d =
    let s : p % 5 ≡ suc (p % 5 - 1) = omega arith in
    d ∙ ap (option_and_then (λ t. argument (arguments t) (p % 5 - 1))) e ∙ sym (to_inner (tree_at ns 0) p 0 (suc (p % 5 - 1)) s ∙ inner_suc _ (p % 5 - 1))
