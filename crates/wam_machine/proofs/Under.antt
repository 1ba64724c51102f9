-- What cells stand for once two terms were made one.
use Rattle.std.proofs.Common.{◌≡◌, ℕ, refl, sym, subst, Option}
use Rattle.prolog_terms.specs.Tree.{Tree}
use Rattle.term_store.specs.Shape.{Shape}
use Rattle.term_store.specs.declared.cell.Cell.{Cell}
use Rattle.term_store.specs.Terms.{IsUnified, HaveNoUnifier}
use Rattle.term_store.proofs.Laws.{unified-term}
use Rattle.term_unifier.specs.Unifier.{unifier}
use Rattle.term_unifier.proofs.Known.{known-some, known-none}
use Rattle.wam_machine.specs.declared.terms.Terms.{Terms}
use Rattle.wam_machine.specs.Terms.{built, IsBuilt, KeepsCells, KeepsBound}
use Rattle.wam_machine.proofs.Grown.{Grows, has_term-grown}

module _ {C : Type 0} (t : Terms C) (u : Shape) (a b : Cell) where
  pub bound-unified : Grows t.names t.names t.store u → u.compounds ≡ t.store.compounds → IsUnified t.names t.store u a b
      → KeepsBound (unifier (built t a) (built t b)) t (record t { store = u })
  unfolding built IsBuilt
  bound-unified g rows e =
      subst (λ (o : Option (ℕ → Tree)). KeepsBound o t (record t { store = u })) (sym (known-some _ _ e.0 e.1))
      (λ c h. (has_term-grown t.names t.names t.store u g c h, unified-term t.names t.store u a b c rows e))

  pub bound-refused : HaveNoUnifier t.names t.store a b → u ≡ t.store → KeepsBound (unifier (built t a) (built t b)) t (record t { store = u })
  unfolding built IsBuilt
  bound-refused h e =
      subst (λ (o : Option (ℕ → Tree)). KeepsBound o t (record t { store = u })) (sym (known-none _ _ h))
      (subst (λ (s : Shape). KeepsCells t (record t { store = s })) (sym e) (λ c k. (k, refl)))
