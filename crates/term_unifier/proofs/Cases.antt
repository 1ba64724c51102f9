-- What the most general unifier is, case by case of the two terms.
use Rattle.std.proofs.Common.{◌≡◌, ℕ, ◌+◌, ◌≤◌, ◌<◌, List, true, false, refl, sym, ◌∙◌, ap, arith, inl, inr}
use Rattle.std.specs.Prelude.{Some, None, ◌≢◌, ◌↔◌, ◌==◌, ◌⊎◌}
use Rattle.std.proofs.lemmas.Bool.{eqb-true}
use Rattle.std.proofs.lemmas.Bool.Decides.{eqb_tells}
use Rattle.prolog_terms.specs.Tree.{Tree, Trees, variable, integer, atom, compound, none, more, count}
use Rattle.prolog_terms.specs.Substitutions.{substituted, all_substituted, occurs}
use Rattle.term_unifier.specs.Unifier.{Unifies, IsMostGeneral, only, unifier}
use Rattle.term_unifier.specs.Laws.{UnifiesEach, IsNoVariable, Symbol, symbol}
use Rattle.term_unifier.proofs.Trees.{variable-injective, more-first, more-rest, occurs_never}
use Rattle.term_unifier.proofs.Solved.{good-IsMostGeneral, one_good, none_good, Some-injective}
use Rattle.term_unifier.proofs.Known.{known-some, known-none, some-IsMostGeneral, unifier-same}

-- ---- decomposition

each_pair : (s : ℕ → Tree) (ts us : Trees) → all_substituted s ts ≡ all_substituted s us → UnifiesEach s ts us
each_pair s none none e = tt
each_pair s none (more u us) e = cc e
each_pair s (more t ts) none e = cc e
each_pair s (more t ts) (more u us) e = (more-first e, each_pair s ts us (more-rest e))

all_pairs : (s : ℕ → Tree) (ts us : Trees) → UnifiesEach s ts us → all_substituted s ts ≡ all_substituted s us
all_pairs s none none h = refl
all_pairs s none (more u us) h = absurd h
all_pairs s (more t ts) none h = absurd h
all_pairs s (more t ts) (more u us) h = cc (h.0, all_pairs s ts us h.1)

pub decomposition : (f : List ℕ) (ts us : Trees) (s : ℕ → Tree) → Unifies s (compound f ts) (compound f us) ↔ UnifiesEach s ts us
decomposition f ts us s = (λ e. each_pair s ts us (inside e), λ h. ap (compound f) (all_pairs s ts us h))
  where
    inside : compound f (all_substituted s ts) ≡ compound f (all_substituted s us) → all_substituted s ts ≡ all_substituted s us
    inside e = cc e

-- ---- elimination

bound_alone : (v : ℕ) (t : Tree) → occurs v t ≡ false → ((w : ℕ) → t ≡ variable w → w ≤ v) → unifier (variable v) t ≡ Some (only v t)
bound_alone v t free old = known-some (variable v) t (only v t) (good-IsMostGeneral (one_good v t free old))

pub elimination : (v : ℕ) (t : Tree) → IsNoVariable t → occurs v t ≡ false → unifier (variable v) t ≡ Some (only v t)
elimination v t h free = bound_alone v t free (λ w e. absurd (h w e))

pub symmetry : (a b : Tree) → unifier a b ≡ unifier b a
symmetry a b = unifier-same a b b a (λ s. (λ e. sym e, λ e. sym e))

pub younger_to_older : (v w : ℕ) → v < w → unifier (variable v) (variable w) ≡ Some (only w (variable v))
younger_to_older v w lt = symmetry (variable v) (variable w) ∙ bound_alone w (variable v) (differ (eqb_tells w v)) (λ u e. older (variable-injective e))
  where
    differ : ((w == v) ≡ true) × (w ≡ v) ⊎ ((w == v) ≡ false) × (w ≢ v) → (w == v) ≡ false
    differ (inl (d, same)) = absurd (omega arith)
    differ (inr (d, other)) = d

    older : {u : ℕ} → v ≡ u → u ≤ w
    older e = omega arith

pub identity : (t : Tree) → unifier t t ≡ Some variable
identity t = known-some t t variable (good-IsMostGeneral (none_good t t refl))

-- ---- no unifier

pub occurs_check : (v : ℕ) (t : Tree) → occurs v t ≡ true → t ≢ variable v → unifier (variable v) t ≡ None
occurs_check v (variable w) e other = absurd (other (ap variable (sym (eqb-true v w e))))
occurs_check v (integer z) e other = cc e
occurs_check v (atom a) e other = cc e
occurs_check v (compound f ts) e other = known-none (variable v) (compound f ts) (λ r. occurs_never r v f ts e)

count-all_substituted : (s : ℕ → Tree) (ts : Trees) → count (all_substituted s ts) ≡ count ts
count-all_substituted s none = refl
count-all_substituted s (more t ts) = ap (λ n. n + 1) (count-all_substituted s ts)

symbol-substituted : (s : ℕ → Tree) (t : Tree) (x : Symbol) → symbol t ≡ Some x → symbol (substituted s t) ≡ Some x
symbol-substituted s (variable v) x e = cc e
symbol-substituted s (integer z) x e = e
symbol-substituted s (atom a) x e = e
symbol-substituted s (compound f ts) x e = rw (count-all_substituted s ts) e

pub clash : (a b : Tree) (x y : Symbol) → symbol a ≡ Some x → symbol b ≡ Some y → x ≢ y → unifier a b ≡ None
clash a b x y ea eb other =
    known-none a b (λ r e. other (Some-injective (sym (symbol-substituted r a x ea) ∙ (ap symbol e ∙ symbol-substituted r b y eb))))

-- ---- a second time

pub idempotence : (a b : Tree) (s : ℕ → Tree) → unifier a b ≡ Some s → (v : ℕ) → substituted s (s v) ≡ s v
idempotence a b s e = let g : IsMostGeneral s a b = some-IsMostGeneral a b s e in g.factors s g.unifies
