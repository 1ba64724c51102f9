-- One step of a walk over cells that are still to do.
use Rattle.std.proofs.Common.{◌≡◌, ℕ, ◌+◌, ◌<◌, List, [], ◌∷◌, ◌++◌, length, All, ◌⊎◌, inl, inr, sym, ap, ◌∙◌, arith, subst, slice_index_or, length-append}
use Rattle.std.proofs.lemmas.List.{get_or_append_left, get_or-append-add}
use Rattle.prolog_terms.specs.Tree.{Tree}
use Rattle.term_store.specs.declared.cell.Cell.{Cell}
use Rattle.term_store.specs.Terms.{trees_of}
use Rattle.term_store.specs.Work.{Occurs, OccursIn, size, size_all}

-- a row of cells as more
pub size-append : (f : Cell → Tree) (xs ys : List Cell) → size_all (trees_of f (xs ++ ys)) ≡ size_all (trees_of f xs) + size_all (trees_of f ys)
size-append f [] ys = omega arith
size-append f (c ∷ xs) ys = let h = size-append f xs ys in omega (arith, h)

pub OccursIn-append : (x : ℕ) (f : Cell → Tree) (xs ys : List Cell) → OccursIn x (trees_of f (xs ++ ys)) → OccursIn x (trees_of f xs) ⊎ OccursIn x (trees_of f ys)
OccursIn-append x f [] ys h = inr h
OccursIn-append x f (c ∷ xs) ys h = elim h [ inl a ↦ inl (inl a) | inr b ↦ go (OccursIn-append x f xs ys b) ]
  where
    go : OccursIn x (trees_of f xs) ⊎ OccursIn x (trees_of f ys) → (Occurs x (f c) ⊎ OccursIn x (trees_of f xs)) ⊎ OccursIn x (trees_of f ys)
    go (inl a) = inl (inr a)
    go (inr b) = inr b

pub OccursIn-left : (x : ℕ) (f : Cell → Tree) (xs ys : List Cell) → OccursIn x (trees_of f xs) → OccursIn x (trees_of f (xs ++ ys))
OccursIn-left x f [] ys h = absurd h
OccursIn-left x f (c ∷ xs) ys h = elim h [ inl a ↦ inl a | inr b ↦ inr (OccursIn-left x f xs ys b) ]

pub OccursIn-right : (x : ℕ) (f : Cell → Tree) (xs ys : List Cell) → OccursIn x (trees_of f ys) → OccursIn x (trees_of f (xs ++ ys))
OccursIn-right x f [] ys h = h
OccursIn-right x f (c ∷ xs) ys h = inr (OccursIn-right x f xs ys h)

pub All-front : {A : Type 0} (P : A → Type 0) (old rest more : List A) → old ≡ rest ++ more → All P old → All P rest
All-front P old rest more e h k d low =
    let long : length old ≡ length rest + length more = ap length e ∙ length-append rest more in
    subst P (ap (λ (xs : List _). slice_index_or xs k d) e ∙ get_or_append_left rest more d k low) (h k d (omega arith))

pub All-last : {A : Type 0} (P : A → Type 0) (old rest : List A) (x : A) → old ≡ rest ++ (x ∷ []) → All P old → P x
All-last P old rest x e h =
    let long : length old ≡ length rest + 1 = ap length e ∙ length-append rest (x ∷ []) in
    subst P (ap (λ (xs : List _). slice_index_or xs (length rest + 0) x) e ∙ get_or-append-add rest (x ∷ []) 0 x) (h (length rest + 0) x (omega arith))

module _ (x : ℕ) (f : Cell → Tree) (old rest more new : List Cell) (next : Cell) (popped : old ≡ rest ++ (next ∷ [])) (pushed : new ≡ rest ++ more) where
  pub occurs-forth : (Occurs x (f next) → OccursIn x (trees_of f more)) → OccursIn x (trees_of f old) → OccursIn x (trees_of f new)
  occurs-forth a h = subst (λ (cs : List Cell). OccursIn x (trees_of f cs)) (sym pushed)
      (elim (OccursIn-append x f rest (next ∷ []) (subst (λ (cs : List Cell). OccursIn x (trees_of f cs)) popped h)) [
        | inl l ↦ OccursIn-left x f rest more l
        | inr r ↦ OccursIn-right x f rest more (elim r [ inl here ↦ a here | inr none ↦ absurd none ])
      ])

  pub occurs-back : (OccursIn x (trees_of f more) → Occurs x (f next)) → OccursIn x (trees_of f new) → OccursIn x (trees_of f old)
  occurs-back b h = subst (λ (cs : List Cell). OccursIn x (trees_of f cs)) (sym popped)
      (elim (OccursIn-append x f rest more (subst (λ (cs : List Cell). OccursIn x (trees_of f cs)) pushed h)) [
        | inl l ↦ OccursIn-left x f rest (next ∷ []) l
        | inr r ↦ OccursIn-right x f rest (next ∷ []) (inl (b r))
      ])

  pub size-step : size_all (trees_of f more) < size (f next) → size_all (trees_of f new) < size_all (trees_of f old)
  size-step low =
      let a = ap (λ (cs : List Cell). size_all (trees_of f cs)) popped ∙ size-append f rest (next ∷ []) in
      let b = ap (λ (cs : List Cell). size_all (trees_of f cs)) pushed ∙ size-append f rest more in
      omega (arith, a, b, low)

pub occurs-same : (x : ℕ) (t u : Tree) → t ≡ u → Occurs x t → Occurs x u
occurs-same x t u e h = subst (Occurs x) e h
