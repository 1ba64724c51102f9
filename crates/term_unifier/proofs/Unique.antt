-- Two most general unifiers of the same terms are the same.
use Rattle.std.proofs.Common.{◌≡◌, ℕ, ◌≤◌, true, sym, ◌∙◌, ap, arith}
use Rattle.std.proofs.Math.Path.{fun_ext}
use Rattle.prolog_terms.specs.Tree.{Tree, variable}
use Rattle.prolog_terms.specs.Substitutions.{substituted, occurs}
use Rattle.term_unifier.specs.Unifier.{IsMostGeneral}
use Rattle.term_unifier.proofs.Trees.{kept-inside, was_variable, substituted-same_inside, substituted-variable}

between : {m n : ℕ} → m ≤ n → n ≤ m → m ≡ n
between a b = omega arith

module _ (a b : Tree) (s r : ℕ → Tree) (ms : IsMostGeneral s a b) (mr : IsMostGeneral r a b) where
  -- a variable that stands in what s gives is kept by r
  fixed : (v w : ℕ) → occurs w (s v) ≡ true → r w ≡ variable w
  fixed v w i = go (was_variable s w (r w) back)
    where
      back : substituted s (r w) ≡ variable w
      back = mr.factors s ms.unifies w ∙ kept-inside s w (s v) (ms.factors s ms.unifies v) i

      same : (u : ℕ) → r w ≡ variable u → u ≡ w
      same u e = between (mr.older w u e) (ms.older u w (ap (substituted s) (sym e) ∙ back))

      go : (u : ℕ) × (r w ≡ variable u) → r w ≡ variable w
      go (u, e) = e ∙ ap variable (same u e)

  pub mgu-one : (v : ℕ) → s v ≡ r v
  mgu-one v = sym (substituted-same_inside r variable (s v) (fixed v) ∙ substituted-variable (s v)) ∙ ms.factors r mr.unifies v

  pub mgu-one_function : s ≡ r
  mgu-one_function = fun_ext mgu-one
