-- Terms that are made in the store.
use Rattle.std.proofs.Common.{◌≡◌, ℕ, suc, ◌<◌, ◌≤◌, List, [], ◌∷◌, ◌++◌, length, All, refl, sym, ap, ap₂, ◌∙◌, arith, subst, length-append, Some, slice_get}
use Rattle.std.specs.Cmp.Lexicographic.{pointwise}
use Rattle.std.specs.Prelude.{nat_eq}
use Rattle.indexmap.specs.IndexSet.{insert_key}
use Rattle.prolog_terms.specs.Tree.{Tree, compound, more}
use Rattle.prolog_terms.specs.Substitutions.{substituted, all_substituted}
use Rattle.term_store.specs.declared.cell.Cell.{Cell}
use Rattle.term_store.specs.declared.cell.Cell.TheVariants.{Compound}
use Rattle.term_store.specs.Shape.{Shape}
use Rattle.term_store.specs.Terms.{text, raw, meaning, term_of, trees_of, HasTerm, IsCell, IsNamed, IsShape}
use Rattle.term_store.specs.Later.{AreDistinct}
use Rattle.term_store.proofs.Laws.{later-itself, longer-itself, longer-length, later-compound, named-compound, are_named-more, raw-new}
use Rattle.wam_machine.specs.declared.terms.Terms.{Terms}
use Rattle.wam_machine.specs.Terms.{built, IsBuilt, IsGrown, AreTerms}
use Rattle.wam_machine.proofs.Grown.{Grows, meaning-grown}
use Rattle.wam_machine.proofs.ShownCells.{interned_longer, text_low}
use Rattle.wam_machine.proofs.SeenCells.{text_read}
use Rattle.wam_machine.proofs.Told.{grown-later}

-- ---- a name more

module _ {C : Type 0} (t : Terms C) (h : AreTerms t) (formed : IsShape t.store) (more : List (List ℕ)) (x : List ℕ) (e : more ≡ insert_key (pointwise nat_eq) t.names x) where
  grows-named : Grows t.names more t.store t.store
  grows-named = record { formed = formed; named = h.named; later = later-itself t.store; longer = interned_longer t.names more x e }

  pub word-grown : AreDistinct more → IsGrown t (record t { names = more })
  word-grown distinct =
      grown-later t more t.store h grows-named refl refl distinct
      (are_named-more (length t.names) (length more) t.store (longer-length t.names more (interned_longer t.names more x e)) h.named)

pub word-inside : (names : List (List ℕ)) (n : ℕ) (x : List ℕ) → slice_get names n ≡ Some x → n < length names
word-inside = text_low

pub word-text : (names : List (List ℕ)) (n : ℕ) (x : List ℕ) → slice_get names n ≡ Some x → text names n ≡ x
word-text = text_read

-- ---- a compound more

trees-substituted : (m : ℕ → Tree) (f : Cell → Tree) (cs : List Cell) → all_substituted m (trees_of f cs) ≡ trees_of (λ c. substituted m (f c)) cs
trees-substituted m f [] = refl
trees-substituted m f (c ∷ cs) = ap (more (substituted m (f c))) (trees-substituted m f cs)

pub trees-same : (P : Cell → Type 0) (f g : Cell → Tree) (cs : List Cell) → ((c : Cell) → P c → g c ≡ f c) → All P cs → trees_of g cs ≡ trees_of f cs
trees-same P f g [] e h = refl
trees-same P f g (c ∷ cs) e h = ap₂ more (e c (h 0 c (omega arith))) (trees-same P f g cs e (λ k d lt. h (suc k) d (omega arith)))

module _ {C : Type 0} (t : Terms C) (h : AreTerms t) (formed : IsShape t.store) (f : ℕ) (cs : List Cell) (low : f < length t.names) (valid : All (IsBuilt t) cs) where
  abbrev wider : Shape
  wider = record t.store { compounds = t.store.compounds ++ (f, cs) ∷ [] }

  pub cells-valid : All (IsCell t.store) cs
  unfolding IsBuilt
  cells-valid = λ k d lt. (valid k d lt).0

  names-valid : All (IsNamed (length t.names)) cs
  unfolding IsBuilt
  names-valid = λ k d lt. (valid k d lt).1

  has-valid : All (HasTerm (length t.names) t.store) cs
  unfolding IsBuilt
  has-valid = valid

  grows-compound : Grows t.names t.names t.store wider
  grows-compound = record { formed = formed; named = h.named; later = later-compound t.store (f, cs); longer = longer-itself t.names }

  module _ (u : Shape) (is : u ≡ wider) where
    pub compound-grown : IsGrown t (record t { store = u })
    compound-grown =
        subst (λ (s : Shape). IsGrown t (record t { store = s })) (sym is)
        (grown-later t t.names wider h grows-compound refl refl h.distinct (named-compound (length t.names) t.store f cs h.named low names-valid))

    module _ (c : Cell) (here : c ≡ Compound (length t.store.compounds)) where
      pub compound-built : IsBuilt (record t { store = u }) c
      unfolding IsBuilt
      compound-built =
          subst (λ (s : Shape). HasTerm (length t.names) s c) (sym is)
          (subst (λ (d : Cell). HasTerm (length t.names) wider d) (sym here) (let e = length-append t.store.compounds ((f, cs) ∷ []) in omega (arith, e), tt))

      made : 1 ≤ length cs → length cs ≤ 255 → term_of t.names wider (Compound (length t.store.compounds)) ≡ compound (text t.names f) (trees_of (term_of t.names t.store) cs)
      made some few =
          ap (substituted (meaning t.names wider)) (raw-new t.store t.names f cs formed some few cells-valid)
          ∙ ap (compound (text t.names f)) (trees-substituted (meaning t.names wider) (raw t.names t.store) cs)
          ∙ ap (λ (m : ℕ → Tree). compound (text t.names f) (trees_of (λ d. substituted m (raw t.names t.store d)) cs)) (meaning-grown t.names t.names t.store wider grows-compound refl)

      pub compound-term : 1 ≤ length cs → length cs ≤ 255 → built (record t { store = u }) c ≡ compound (text t.names f) (trees_of (built t) cs)
      unfolding built
      compound-term some few = ap₂ (λ (s : Shape) (d : Cell). term_of t.names s d) is here ∙ made some few
