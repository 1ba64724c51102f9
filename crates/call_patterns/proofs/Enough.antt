-- Behind a functor stand as many terms as it has arguments.
use Rattle.std.proofs.Common.{◌≡◌, ℕ, zero, suc, ◌+◌, ◌-◌, ◌≤◌, List, [], ◌∷◌, drop, arith, Some, slice_get, subst, ◌&&◌}
use Rattle.std.specs.Prelude.{IsTrue, nat_lt, nat_le}
use Rattle.std.proofs.lemmas.Bool.{and_parts}
use Rattle.prolog_terms.specs.Tree.{count}
use Rattle.prolog_terms.specs.Flat.{forest, first, are_trees, are_forest, count-first}
use Rattle.prolog_terms.specs.declared.node.Node.{Node}
use Rattle.prolog_terms.specs.declared.node.Node.TheVariants.{Var, Int, Atom, Functor}
use Rattle.call_patterns.specs.Places.{trees_at}
use Rattle.call_patterns.specs.Wanted.{wanted_of}

later : (w : ℕ) (m : Node) (ns : List Node) → IsTrue (are_trees w (m ∷ ns)) → IsTrue (are_trees (w - 1 + wanted_of m) ns)
later w (Var n) ns h = subst (λ k. IsTrue (are_trees k ns)) (let e : w - 1 ≡ w - 1 + 0 = omega arith in e) (and_parts (nat_lt 0 w) (are_trees (w - 1) ns) h).1
later w (Int z) ns h = subst (λ k. IsTrue (are_trees k ns)) (let e : w - 1 ≡ w - 1 + 0 = omega arith in e) (and_parts (nat_lt 0 w) (are_trees (w - 1) ns) h).1
later w (Atom a) ns h = subst (λ k. IsTrue (are_trees k ns)) (let e : w - 1 ≡ w - 1 + 0 = omega arith in e) (and_parts (nat_lt 0 w) (are_trees (w - 1) ns) h).1
later w (Functor f n) ns h = (and_parts (nat_lt 0 w && (nat_lt 0 n && nat_le n 255)) (are_trees (w - 1 + n) ns) h).1

pub enough : (ns : List Node) (w k : ℕ) (f : List ℕ) (n : ℕ) → IsTrue (are_trees w ns) → slice_get ns k ≡ Some (Functor f n) → count (first n (trees_at ns (k + 1))) ≡ n
unfolding trees_at
enough [] w k f n h s = absurd (cc)
enough (m ∷ ns) w zero f n h s =
    let is : m ≡ Functor f n = cc in
    let t : IsTrue (are_trees (w - 1 + n) ns) = later w (Functor f n) ns (subst (λ x. IsTrue (are_trees w (x ∷ ns))) is h) in
    let c = (are_forest (w - 1 + n) ns t).counted in
    count-first n (forest ns) (let le : n ≤ count (forest ns) = omega (arith, c) in le)
enough (m ∷ ns) w (suc k) f n h s =
    let e : suc (k + 1) ≡ suc k + 1 = omega arith in
    subst (λ j. count (first n (forest (drop j (m ∷ ns)))) ≡ n) e (enough ns (w - 1 + wanted_of m) k f n (later w m ns h) s)
