-- Lists and terms as an engine keeps them.
use Rattle.std.proofs.Common.{◌≡◌, ℕ, zero, suc, ◌+◌, ◌-◌, ◌≤◌, ◌⊎◌, List, [], ◌∷◌, ◌++◌, length, take, drop, map, refl, sym, ◌∙◌, ap, arith, inl, inr}
use Rattle.prolog_terms.specs.Tree.{Tree, variable}
use Rattle.prolog_terms.specs.Substitutions.{substituted, renamed}
use Rattle.term_unifier.proofs.Trees.{substituted-after, substituted-same}
use Rattle.wam_machine.specs.States.{Next, Do, ConditionEnd, NotEnd, CatchEnd, FindallEnd, Choice, cut_to, next_under}
use Rattle.wam_machine.specs.Laws.{newest, EngineLaws}

pub newest-append : {A B : Type 0} (f : A → B) (xs ys : List A) (onto : List B) → newest f (xs ++ ys) onto ≡ newest f ys (newest f xs onto)
newest-append f [] ys onto = refl
newest-append f (x ∷ xs) ys onto = newest-append f xs ys (f x ∷ onto)

pub newest-length : {A B : Type 0} (f : A → B) (xs : List A) (onto : List B) → length (newest f xs onto) ≡ length xs + length onto
newest-length f [] onto = omega arith
newest-length f (x ∷ xs) onto = let h : length (newest f xs (f x ∷ onto)) ≡ length xs + length (f x ∷ onto) = newest-length f xs (f x ∷ onto) in omega arith

drop-suc : {B : Type 0} (j : ℕ) (zs : List B) → drop (suc j) zs ≡ drop 1 (drop j zs)
drop-suc zero zs = refl
drop-suc (suc j) [] = refl
drop-suc (suc j) (z ∷ zs) = drop-suc j zs

-- the newest without those that came later
drop-newest : {A B : Type 0} (f : A → B) (xs : List A) (onto : List B) → drop (length xs) (newest f xs onto) ≡ onto
drop-newest f [] onto = refl
drop-newest f (x ∷ xs) onto = drop-suc (length xs) (newest f xs (f x ∷ onto)) ∙ ap (drop 1) (drop-newest f xs (f x ∷ onto))

-- so many fewer than there are
cut_by : {B : Type 0} → ℕ → List B → List B
cut_by h stack = drop (length stack - h) stack

cut-split : {A B : Type 0} (f : A → B) (xs ys : List A) (h : ℕ) → length xs ≡ h → cut_by h (newest f (xs ++ ys) []) ≡ newest f xs []
unfolding cut_by
cut-split {A} {B} f xs ys h e =
    rw (newest-append f xs ys []) (ap (λ k. drop k (newest f ys (newest f xs []))) count ∙ drop-newest f ys (newest f xs []))
  where
    count : length (newest f ys (newest f xs [])) - h ≡ length ys
    count = sized (length (newest f ys (newest f xs []))) (length (newest f xs [])) (length xs) (newest-length f ys (newest f xs [])) (newest-length f xs []) e
      where
        sized : (a b c : ℕ) → a ≡ length ys + b → b ≡ c + 0 → c ≡ h → a - h ≡ length ys
        sized a b c p q r = omega arith

split : {A : Type 0} (xs : List A) (h : ℕ) → take h xs ++ drop h xs ≡ xs
split xs zero = refl
split [] (suc h) = refl
split (x ∷ xs) (suc h) = ap (λ l. x ∷ l) (split xs h)

-- a cut within the stack, or above it
taken-length : {A : Type 0} (xs : List A) (h : ℕ) → (length (take h xs) ≡ h) ⊎ ((take h xs ≡ xs) × (length xs ≤ h))
taken-length xs zero = inl refl
taken-length [] (suc h) = inr (refl, omega arith)
taken-length (x ∷ xs) (suc h) = go (taken-length xs h)
  where
    go : (length (take h xs) ≡ h) ⊎ ((take h xs ≡ xs) × (length xs ≤ h)) → (suc (length (take h xs)) ≡ suc h) ⊎ ((x ∷ take h xs ≡ x ∷ xs) × (suc (length xs) ≤ suc h))
    go (inl e) = inl (ap suc e)
    go (inr (e, l)) = inr (ap (λ l. x ∷ l) e, omega (arith, l))

cut_above : {A B : Type 0} (f : A → B) (xs : List A) (h : ℕ) → length xs ≤ h → cut_by h (newest f xs []) ≡ newest f xs []
unfolding cut_by
cut_above f xs h l = ap (λ k. drop k (newest f xs [])) (none_left (length (newest f xs [])) (newest-length f xs []))
  where
    none_left : (a : ℕ) → a ≡ length xs + 0 → a - h ≡ 0
    none_left a e = omega (arith, l)

pub cut_newest : {C : Type 0} (f : C → Choice) (xs : List C) (h : ℕ) → cut_to h (newest f xs []) ≡ newest f (take h xs) []
unfolding cut_by
cut_newest f xs h = go (taken-length xs h)
  where
    go : (length (take h xs) ≡ h) ⊎ ((take h xs ≡ xs) × (length xs ≤ h)) → cut_by h (newest f xs []) ≡ newest f (take h xs) []
    go (inl e) = ap (λ l. cut_by h (newest f l [])) (sym (split xs h)) ∙ cut-split f (take h xs) (drop h xs) h e
    go (inr (e, l)) = cut_above f xs h l ∙ ap (λ l. newest f l []) (sym e)

next-under : (m b : ℕ → Tree) (n : Next) → next_under m (next_under b n) ≡ next_under (λ v. substituted m (b v)) n
next-under m b (Do g cut) = ap (λ t. Do t cut) (substituted-after m b g)
next-under m b (ConditionEnd h) = refl
next-under m b (NotEnd h) = refl
next-under m b (CatchEnd h) = refl
next-under m b (FindallEnd t h) = ap (λ u. FindallEnd u h) (substituted-after m b t)

under_both : (m b : ℕ → Tree) (ns : List Next) → map (next_under m) (map (next_under b) ns) ≡ map (next_under (λ v. substituted m (b v))) ns
under_both m b [] = refl
under_both m b (n ∷ ns) = ap (λ k. k ∷ map (next_under m) (map (next_under b) ns)) (next-under m b n) ∙ ap (λ l. next_under (λ v. substituted m (b v)) n ∷ l) (under_both m b ns)

pub unbound_same : (b : ℕ → Tree) (from : ℕ) (t : Tree) → ((v : ℕ) → from ≤ v → b v ≡ variable v) → substituted b (renamed from t) ≡ renamed from t
unbound_same b from t h =
    substituted-after b (λ v. variable (from + v)) t ∙ substituted-same (λ v. b (from + v)) (λ v. variable (from + v)) (λ v. h (from + v) (omega arith)) t

pub engine_laws : EngineLaws
engine_laws = record { cut = λ f xs h. cut_newest f xs h; under = under_both; unbound = unbound_same }
