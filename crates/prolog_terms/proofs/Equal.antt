-- `==` of nodes and of terms is equality.
use Rattle.std.proofs.Common.{◌≡◌, true, refl, sym, ap, subst, eqb}
use Rattle.std.specs.Cmp.Lexicographic.{pointwise, bytes_decides}
use Rattle.std.proofs.lemmas.Bool.{true≢false}
use Rattle.std.proofs.lemmas.Bool.{and_parts, and_from, eqb-true, eq-eqb}
use Rattle.std.proofs.lemmas.Bool.Decides.{Decides-int_eq}
use Rattle.prolog_terms.specs.declared.node.Node.{Node}
use Rattle.prolog_terms.specs.declared.node.Node.TheVariants.{Var, Int, Atom, Functor}
use Rattle.prolog_terms.specs.contracts.node.NodePartialEq.TheImpl.{eq-value}

reflexive : (x : Node) → eq-value.it x x ≡ true
reflexive (Var n) = eq-eqb n n refl
reflexive (Int z) = (Decides-int_eq z z).1 refl
reflexive (Atom a) = (bytes_decides a a).1 refl
reflexive (Functor f n) = and_from (pointwise eqb f f) (eqb n n) ((bytes_decides f f).1 refl) (eq-eqb n n refl)

same : (x y : Node) → eq-value.it x y ≡ true → x ≡ y
same (Var n) (Var m) h = ap Var (eqb-true n m h)
same (Int z) (Int w) h = ap Int ((Decides-int_eq z w).0 h)
same (Atom a) (Atom b) h = ap Atom ((bytes_decides a b).0 h)
same (Functor f n) (Functor g m) h =
    let p = and_parts (pointwise eqb f g) (eqb n m) h in
    let names : f ≡ g = (bytes_decides f g).0 p.0 in
    let arities : n ≡ m = eqb-true n m p.1 in
    cc
same _ _ h = absurd (true≢false (sym h))

pub eq-decides : (x y : Node) → (eq-value.it x y ≡ true → x ≡ y) × (x ≡ y → eq-value.it x y ≡ true)
eq-decides x y = (same x y, λ e. subst (λ z. eq-value.it x z ≡ true) e (reflexive x))
