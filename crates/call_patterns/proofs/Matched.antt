-- A head and a goal that are made one have the same keys where both have one.
use Rattle.std.proofs.Common.{◌≡◌, ℕ, zero, suc, true, List, [], ◌∷◌, map, Option, Some, None, refl, sym, ap, ap₂, ◌∙◌}
use Rattle.std.specs.Prelude.{◌+◌, ◌/◌, ◌%◌, ◌&&◌, option_and_then}
use Rattle.std.proofs.lemmas.Bool.Decides.{Decides-int_eq, Decides-eqb}
use Rattle.std.specs.Cmp.Lexicographic.{pointwise, pointwise_decides}
use Rattle.prolog_terms.specs.Tree.{Tree, Trees, variable, integer, atom, compound, none, more, count}
use Rattle.prolog_terms.specs.Substitutions.{substituted, all_substituted}
use Rattle.journals.specs.Numbers.{numbers_from}
use Rattle.call_patterns.specs.Keys.{Key, integer_key, atom_key, functor_key, key, arguments, argument, inner, subterm_at, key_at, keys, same_key, keys_agree, could_match}
use Rattle.call_patterns.specs.Matching.{OneTermsMatch}

-- ---- a key stays under a substitution

count-substituted : (s : ℕ → Tree) (ts : Trees) → count (all_substituted s ts) ≡ count ts
count-substituted s none = refl
count-substituted s (more t ts) = ap (λ n. n + 1) (count-substituted s ts)

key-stays : (s : ℕ → Tree) (t : Tree) (k : Key) → key t ≡ Some k → key (substituted s t) ≡ Some k
key-stays s (variable n) k e = absurd (cc)
key-stays s (integer z) k e = e
key-stays s (atom a) k e = e
key-stays s (compound f ts) k e = ap (λ n. Some (functor_key f n)) (count-substituted s ts) ∙ e

argument-stays : (s : ℕ → Tree) (ts : Trees) (i : ℕ) (a : Tree) → argument ts i ≡ Some a → argument (all_substituted s ts) i ≡ Some (substituted s a)
argument-stays s none i a e = absurd (cc)
argument-stays s (more t ts) zero a e = let same : t ≡ a = cc in ap (λ u. Some (substituted s u)) same
argument-stays s (more t ts) (suc i) a e = argument-stays s ts i a e

arguments-stay : (s : ℕ → Tree) (t : Tree) (i : ℕ) (a : Tree) → argument (arguments t) i ≡ Some a → argument (arguments (substituted s t)) i ≡ Some (substituted s a)
arguments-stay s (variable n) i a e = absurd (cc)
arguments-stay s (integer z) i a e = absurd (cc)
arguments-stay s (atom b) i a e = absurd (cc)
arguments-stay s (compound f ts) i a e = argument-stays s ts i a e

inner-stays : (s : ℕ → Tree) (j : ℕ) (t a : Tree) → inner j t ≡ Some a → inner j (substituted s t) ≡ Some (substituted s a)
inner-stays s zero t a e = let same : t ≡ a = cc in ap (λ u. Some (substituted s u)) same
inner-stays s (suc j) t a e = arguments-stay s t j a e

key_at-stays : (s : ℕ → Tree) (t : Tree) (p : ℕ) (k : Key) → key_at t p ≡ Some k → key_at (substituted s t) p ≡ Some k
key_at-stays s t p k e = outer (argument (arguments t) (p / 5)) refl
  where
    within : (a b : Tree) → argument (arguments t) (p / 5) ≡ Some a → inner (p % 5) a ≡ Some b → key b ≡ Some k → key_at (substituted s t) p ≡ Some k
    within a b at is has =
        ap (λ (o : Option Tree). option_and_then key (option_and_then (inner (p % 5)) o)) (arguments-stay s t (p / 5) a at)
        ∙ ap (option_and_then key) (inner-stays s (p % 5) a b is) ∙ key-stays s b k has

    below : (a : Tree) (o : Option Tree) → argument (arguments t) (p / 5) ≡ Some a → inner (p % 5) a ≡ o → key_at (substituted s t) p ≡ Some k
    below a None at is =
        absurd (let z : None ≡ Some k = sym (ap (λ (o : Option Tree). option_and_then key (option_and_then (inner (p % 5)) o)) at ∙ ap (option_and_then key) is) ∙ e in cc)
    below a (Some b) at is =
        within a b at is (sym (ap (λ (o : Option Tree). option_and_then key (option_and_then (inner (p % 5)) o)) at ∙ ap (option_and_then key) is) ∙ e)

    outer : (o : Option Tree) → argument (arguments t) (p / 5) ≡ o → key_at (substituted s t) p ≡ Some k
    outer None at = absurd (let z : None ≡ Some k = sym (ap (λ (o : Option Tree). option_and_then key (option_and_then (inner (p % 5)) o)) at) ∙ e in cc)
    outer (Some a) at = below a (inner (p % 5) a) at refl

-- ---- so the keys of terms that are made one agree

same-itself : (k : Key) → same_key k k ≡ true
same-itself (integer_key z) = (Decides-int_eq z z).1 refl
same-itself (atom_key a) = (pointwise_decides Decides-eqb a a).1 refl
same-itself (functor_key f n) = ap₂ (λ a b. a && b) ((pointwise_decides Decides-eqb f f).1 refl) ((Decides-eqb n n).1 refl)

agree-at : (s r : ℕ → Tree) (head goal : Tree) → substituted s head ≡ substituted r goal → (p : ℕ) → keys_agree (key_at head p) (key_at goal p) ≡ true
agree-at s r head goal one p = both (key_at head p) (key_at goal p) refl refl
  where
    both : (a b : Option Key) → key_at head p ≡ a → key_at goal p ≡ b → keys_agree a b ≡ true
    both None b e f = refl
    both (Some a) None e f = refl
    both (Some a) (Some b) e f =
        let same : Some a ≡ Some b = sym (key_at-stays s head p a e) ∙ ap (λ t. key_at t p) one ∙ key_at-stays r goal p b f in
        let is : a ≡ b = cc in
        ap (same_key a) (sym is) ∙ same-itself a

all-agree : (f g : ℕ → Option Key) (ps : List ℕ) → ((p : ℕ) → keys_agree (f p) (g p) ≡ true) → pointwise keys_agree (map f ps) (map g ps) ≡ true
all-agree f g [] h = refl
all-agree f g (p ∷ ps) h = ap₂ (λ a b. a && b) (h p) (all-agree f g ps h)

pub one_terms_match : OneTermsMatch
unfolding could_match keys
one_terms_match s r head goal one = all-agree (key_at head) (key_at goal) (numbers_from 0 40) (agree-at s r head goal one)
