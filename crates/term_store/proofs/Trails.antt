-- The bindings of a trail.
use Rattle.std.proofs.Common.{◌≡◌, ◌≢◌, ℕ, zero, suc, ◌+◌, ◌≤◌, nat_cmp, List, [], ◌∷◌, ◌++◌, length, reverse, drop, Bool, true, false, cond, nat_eq, refl, sym, ap, ap₂, ◌∙◌, arith, subst, None, Some, Option}
use Rattle.std.specs.BTreeMap.{is_at}
use Rattle.std.proofs.lemmas.Grind.{common_steps}
use Rattle.std.proofs.lemmas.List.{reverse-append, length-reverse}
use Rattle.term_store.specs.declared.cell.Cell.{Cell}
use Rattle.term_store.specs.Terms.{lookup}
use Rattle.term_store.specs.Inside.{bindings_in, slot_cell, trailed, AreApart, AreKept}

bindings_in-length : (slots : ℕ → Option Cell) (xs : List ℕ) → length (bindings_in slots xs) ≡ length xs
bindings_in-length slots [] = refl
bindings_in-length slots (x ∷ xs) = ap suc (bindings_in-length slots xs)

pub trailed-length : (slots : ℕ → Option Cell) (trail : List ℕ) → length (trailed slots trail) ≡ length trail
trailed-length slots trail = bindings_in-length slots (reverse trail) ∙ length-reverse trail

bindings_in-same : (ss rs : ℕ → Option Cell) (xs : List ℕ) → ((y : ℕ) → rs y ≡ ss y) → bindings_in rs xs ≡ bindings_in ss xs
bindings_in-same ss rs [] e = refl
bindings_in-same ss rs (y ∷ xs) e =
    ap₂ (λ (c : Option Cell) (bs : List (ℕ × Cell)). (y, slot_cell c) ∷ bs) (e y) (bindings_in-same ss rs xs e)

pub trailed-same : (ss rs : ℕ → Option Cell) (old new : List ℕ) → ((y : ℕ) → rs y ≡ ss y) → new ≡ old → trailed rs new ≡ trailed ss old
trailed-same ss rs old new e f = bindings_in-same ss rs (reverse new) e ∙ ap (trailed ss) f

pub kept-same : (ss rs : ℕ → Option Cell) (bs cs : List (ℕ × Cell)) → ((y : ℕ) → rs y ≡ ss y) → cs ≡ bs → AreKept ss bs → AreKept rs cs
kept-same ss rs bs cs e f h = record {
  apart = subst AreApart (sym f) h.apart;
  same = λ x. e x ∙ h.same x ∙ ap (λ (ds : List (ℕ × Cell)). lookup ds x) (sym f);
}

-- a variable that a list leaves free is not its first
free-first : (x : ℕ) (b : ℕ × Cell) (bs : List (ℕ × Cell)) → lookup (b ∷ bs) x ≡ None → (x ≢ b.0) × (lookup bs x ≡ None)
free-first x b bs e = go (nat_eq x b.0) refl e
  where
    go : (c : Bool) → nat_eq x b.0 ≡ c → cond c (Some b.1) (lookup bs x) ≡ None → (x ≢ b.0) × (lookup bs x ≡ None)
    go true q k = cc
    go false q k = ((λ same. grind arith), k)

bindings_in-other : (ss rs : ℕ → Option Cell) (x : ℕ) (xs : List ℕ) → ((y : ℕ) → y ≢ x → rs y ≡ ss y)
    → lookup (bindings_in ss xs) x ≡ None → bindings_in rs xs ≡ bindings_in ss xs
bindings_in-other ss rs x [] e h = refl
bindings_in-other ss rs x (y ∷ xs) e h =
    let k = free-first x (y, slot_cell (ss y)) (bindings_in ss xs) h in
    ap₂ (λ (c : Option Cell) (bs : List (ℕ × Cell)). (y, slot_cell c) ∷ bs) (e y (λ same. k.0 (sym same))) (bindings_in-other ss rs x xs e k.1)

pub lookup-first : (x : ℕ) (c : Cell) (bs : List (ℕ × Cell)) (y : ℕ) → y ≡ x → lookup ((x, c) ∷ bs) y ≡ Some c
lookup-first x c bs y e = grind arith

pub lookup-other : (x : ℕ) (c : Cell) (bs : List (ℕ × Cell)) (y : ℕ) → y ≢ x → lookup ((x, c) ∷ bs) y ≡ lookup bs y
lookup-other x c bs y e = grind arith

-- ---- one more, and one less

module _ (ss rs : ℕ → Option Cell) (trail after : List ℕ) (x : ℕ) (c : Cell) (free : lookup (trailed ss trail) x ≡ None)
    (here : rs x ≡ Some c) (others : (y : ℕ) → y ≢ x → rs y ≡ ss y) (pushed : after ≡ trail ++ x ∷ []) where
  pub trailed-more : trailed rs after ≡ (x, c) ∷ trailed ss trail
  trailed-more =
      ap (λ (xs : List ℕ). bindings_in rs xs) (ap reverse pushed ∙ reverse-append trail (x ∷ []))
      ∙ ap₂ (λ (d : Option Cell) (bs : List (ℕ × Cell)). (x, slot_cell d) ∷ bs) here (bindings_in-other ss rs x (reverse trail) others free)

  same_more : AreKept ss (trailed ss trail) → (y : ℕ) (b : Bool) → nat_eq y x ≡ b → rs y ≡ lookup ((x, c) ∷ trailed ss trail) y
  same_more h y true q = let same : y ≡ x = grind arith in ap rs same ∙ here ∙ sym (lookup-first x c (trailed ss trail) y same)
  same_more h y false q = let other : y ≢ x = grind arith in others y other ∙ h.same y ∙ sym (lookup-other x c (trailed ss trail) y other)

  pub kept-more : AreKept ss (trailed ss trail) → AreKept rs (trailed rs after)
  kept-more h = subst (AreKept rs) (sym trailed-more) (record { apart = (free, h.apart); same = λ y. same_more h y (nat_eq y x) refl })

module _ (ss rs : ℕ → Option Cell) (trail after : List ℕ) (x : ℕ) (kept : AreKept ss (trailed ss trail))
    (here : rs x ≡ None) (others : (y : ℕ) → y ≢ x → rs y ≡ ss y) (popped : trail ≡ after ++ x ∷ []) where
  all : trailed ss trail ≡ (x, slot_cell (ss x)) ∷ trailed ss after
  all = ap (λ (xs : List ℕ). bindings_in ss xs) (ap reverse popped ∙ reverse-append after (x ∷ []))

  whole : AreKept ss ((x, slot_cell (ss x)) ∷ trailed ss after)
  whole = subst (AreKept ss) all kept

  rest : trailed rs after ≡ trailed ss after
  rest = bindings_in-other ss rs x (reverse after) others whole.apart.0

  pub trailed-less : trailed rs after ≡ drop 1 (trailed ss trail)
  trailed-less = rest ∙ sym (ap (drop 1) all)

  same_less : (y : ℕ) (b : Bool) → nat_eq y x ≡ b → rs y ≡ lookup (trailed ss after) y
  same_less y true q = let same : y ≡ x = grind arith in ap rs same ∙ here ∙ sym (ap (lookup (trailed ss after)) same ∙ whole.apart.0)
  same_less y false q = let other : y ≢ x = grind arith in others y other ∙ whole.same y ∙ lookup-other x (slot_cell (ss x)) (trailed ss after) y other

  pub kept-less : AreKept rs (trailed rs after)
  kept-less = subst (AreKept rs) (sym rest) (record { apart = whole.apart.1; same = λ y. same_less y (nat_eq y x) refl })

pub apart : (x y : ℕ) → y ≢ x → is_at (nat_cmp x) y ≡ false
apart x y ne = grind (arith, common_steps)

-- ---- fewer and fewer

pub drop-more : {A : Type 0} (n : ℕ) (xs : List A) → drop 1 (drop n xs) ≡ drop (suc n) xs
drop-more zero xs = refl
drop-more (suc n) [] = refl
drop-more (suc n) (x ∷ xs) = drop-more n xs

pub length-less : {A : Type 0} (xs : List A) → 1 ≤ length xs → length (drop 1 xs) + 1 ≡ length xs
length-less [] h = absurd (omega arith)
length-less (x ∷ xs) h = omega arith
