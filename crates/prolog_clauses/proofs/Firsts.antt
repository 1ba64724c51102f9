-- A tree, by the first of its nodes.
use Rattle.std.proofs.Common.{◌≡◌, ℕ, ℤ, List, [], ◌∷◌, ◌⊎◌, inl, inr, get_or, drop, codes, refl, sym, ap, subst, ◌∙◌}
use Rattle.prolog_terms.specs.Tree.{Tree, atom}
use Rattle.prolog_terms.specs.Flat.{tree, HasPrefixOrder}
use Rattle.prolog_terms.specs.declared.node.Node.{Node}
use Rattle.prolog_terms.specs.declared.node.Node.TheVariants.{Var, Int, Atom, Functor}
use Rattle.prolog_terms.specs.declared.ops.OpKind.{OpKind}
use Rattle.prolog_clauses.specs.declared.operators.Declaring.TheVariants.{Raises}
use Rattle.prolog_clauses.specs.Declarations.{by_elements, type_error}

pub begins : (ns : List Node) (n : Node) → HasPrefixOrder ns → n ≡ get_or ns 0 n → ns ≡ n ∷ drop 1 ns
begins [] n h e = absurd (cc (h.spelled))
begins (m ∷ ns) n h e = ap (λ x. x ∷ ns) (sym e)

pub atom_first : (ns : List Node) (n : Node) (a : List ℕ) → HasPrefixOrder ns → n ≡ get_or ns 0 n → n ≡ Atom a → tree ns ≡ atom a
atom_first ns n a h e f = ap tree (begins ns n h e ∙ ap (λ x. x ∷ drop 1 ns) f)

-- a node that is no atom
abbrev pub IsNoAtom : Node → Type 0
IsNoAtom n = ((x : ℕ) × (n ≡ Var x)) ⊎ (((x : ℤ) × (n ≡ Int x)) ⊎ ((f : List ℕ) × (k : ℕ) × (n ≡ Functor f k)))

element_error : (p : ℕ) (k : OpKind) (n : Node) (ns : List Node) (ts : List Tree) → IsNoAtom n → by_elements p k (tree (n ∷ ns) ∷ ts) ≡ Raises (type_error (codes "atom") (tree (n ∷ ns)))
element_error p k n ns ts h =
    elim h [
      | inl v ↦ subst (λ m. by_elements p k (tree (m ∷ ns) ∷ ts) ≡ Raises (type_error (codes "atom") (tree (m ∷ ns)))) (sym v.1) refl
      | inr r ↦ elim r [
        | inl z ↦ subst (λ m. by_elements p k (tree (m ∷ ns) ∷ ts) ≡ Raises (type_error (codes "atom") (tree (m ∷ ns)))) (sym z.1) refl
        | inr f ↦ subst (λ m. by_elements p k (tree (m ∷ ns) ∷ ts) ≡ Raises (type_error (codes "atom") (tree (m ∷ ns)))) (sym f.2) refl
      ]
    ]

pub no_atom : (p : ℕ) (k : OpKind) (ns : List Node) (n : Node) (ts : List Tree) → HasPrefixOrder ns → n ≡ get_or ns 0 n → IsNoAtom n → by_elements p k (tree ns ∷ ts) ≡ Raises (type_error (codes "atom") (tree ns))
no_atom p k ns n ts h e f =
    subst (λ l. by_elements p k (tree l ∷ ts) ≡ Raises (type_error (codes "atom") (tree l))) (sym (begins ns n h e)) (element_error p k n (drop 1 ns) ts f)
