-- Two pairs of terms are made one in turn: the first pair, and then what the second stands for by that.
use Rattle.std.proofs.Common.{◌≡◌, ℕ, ◌≤◌, List, Option, Some, None, sym, ap, ap₂, ◌∙◌, arith}
use Rattle.std.specs.Prelude.{option_map, option_and_then}
use Rattle.prolog_terms.specs.Tree.{Tree}
use Rattle.prolog_terms.specs.Faults.{two}
use Rattle.prolog_terms.specs.Substitutions.{substituted}
use Rattle.term_unifier.specs.Unifier.{Unifies, IsMostGeneral, IsUnifier, unifier}
use Rattle.term_unifier.proofs.Trees.{more-first, more-rest, compound-arguments, substituted-after, substituted-same, was_variable}
use Rattle.term_unifier.proofs.Known.{unifier-IsUnifier, known-some, known-none}

module _ (f : List ℕ) (a b c d : Tree) where
  -- what makes the whole one makes both pairs one
  pub parts-unified : (r : ℕ → Tree) → Unifies r (two f a c) (two f b d) → Unifies r a b × Unifies r c d
  parts-unified r e = (more-first (compound-arguments e), more-first (more-rest (compound-arguments e)))

  whole-unified : (r : ℕ → Tree) → Unifies r a b → Unifies r c d → Unifies r (two f a c) (two f b d)
  whole-unified r p q = ap₂ (λ (x y : Tree). two f x y) p q

  module _ (m : ℕ → Tree) (h : IsMostGeneral m a b) where
    -- a unifier of the first pair goes through the most general one
    through : (r : ℕ → Tree) → Unifies r a b → (t : Tree) → substituted r (substituted m t) ≡ substituted r t
    through r e t = substituted-after r m t ∙ substituted-same (λ v. substituted r (m v)) r (h.factors r e) t

    pub rest-unified : (r : ℕ → Tree) → Unifies r (two f a c) (two f b d) → Unifies r (substituted m c) (substituted m d)
    rest-unified r e = let p = parts-unified r e in through r p.0 c ∙ p.1 ∙ sym (through r p.0 d)

    pub joined : (n : ℕ → Tree) → IsMostGeneral n (substituted m c) (substituted m d) → IsMostGeneral (λ v. substituted n (m v)) (two f a c) (two f b d)
    joined n k = record {
      unifies = whole-unified (λ v. substituted n (m v))
          (sym (substituted-after n m a) ∙ ap (substituted n) h.unifies ∙ substituted-after n m b)
          (sym (substituted-after n m c) ∙ k.unifies ∙ substituted-after n m d);
      factors = λ r e v.
          substituted-after r n (m v) ∙ substituted-same (λ w. substituted r (n w)) r (k.factors r (rest-unified r e)) (m v) ∙ h.factors r (parts-unified r e).0 v;
      older = λ v w e.
          let u = was_variable n w (m v) e in
          let x : u.0 ≤ v = h.older v u.0 u.1 in
          let y : w ≤ u.0 = k.older u.0 w (ap (substituted n) (sym u.1) ∙ e) in
          omega (arith, x, y);
    }

    pub second-turn : unifier (two f a c) (two f b d) ≡ option_map (λ n v. substituted n (m v)) (unifier (substituted m c) (substituted m d))
    second-turn = go (unifier (substituted m c) (substituted m d)) (unifier-IsUnifier (substituted m c) (substituted m d))
      where
        go : (o : Option (ℕ → Tree)) → IsUnifier (substituted m c) (substituted m d) o → unifier (two f a c) (two f b d) ≡ option_map (λ n v. substituted n (m v)) o
        go (Some n) k = known-some _ _ _ (joined n k)
        go None k = known-none _ _ (λ r e. k r (rest-unified r e))

  pub in_turn : unifier (two f a c) (two f b d) ≡ option_and_then (λ m. option_map (λ n v. substituted n (m v)) (unifier (substituted m c) (substituted m d))) (unifier a b)
  in_turn = go (unifier a b) (unifier-IsUnifier a b)
    where
      go : (o : Option (ℕ → Tree)) → IsUnifier a b o
          → unifier (two f a c) (two f b d) ≡ option_and_then (λ m. option_map (λ n v. substituted n (m v)) (unifier (substituted m c) (substituted m d))) o
      go (Some m) h = second-turn m h
      go None h = known-none _ _ (λ r e. h r (parts-unified r e).0)
