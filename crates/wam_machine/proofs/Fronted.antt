-- Fronts and entries of the base's engine: what is seen after an update that is done, and after one that is refused.
use Rattle.std.proofs.Common.{◌≡◌, ℕ, suc, zero, ◌+◌, ◌-◌, ◌<◌, ◌≤◌, ◌⊎◌, inl, inr, List, [], ◌∷◌, ◌++◌, length, take, refl, sym, ap, ◌∙◌, subst, arith, Bool, true, false, eq-eqb, Option, Some}
use Rattle.std.specs.Prelude.{nat_lt, ◌==◌, ◌&&◌, ◌||◌, cond, slice_get, filter}
use Rattle.std.specs.Option.{option_map_or}
use Rattle.std.proofs.lemmas.List.{length-take, take-take, length-append}
use Rattle.std.proofs.lemmas.Bool.Decides.{nat_tests}
use Rattle.prolog_terms.specs.declared.entry.Entry.{Entry}
use Rattle.prolog_terms.specs.declared.entry.What.{What}
use Rattle.journals.specs.Journal.{Journal}
use Rattle.journal_base.specs.Space.{used, need}
use Rattle.journal_base.specs.View.{View, Looks, Appends, IsSound, entries_by}
use Rattle.journal_base.specs.Updates.{IsFull}
use Rattle.wam_machine.specs.Cursors.{Begins}
use Rattle.wam_machine.specs.States.{Setting, ends_with_own, is_done, is_full}
use Rattle.wam_machine.specs.View.{IsFronted}
use Rattle.wam_machine.proofs.Begins.{begins_before, long, seen_in, own_in, fronted_on}

-- ---- fronts

seen_long : (w : View) (j : Journal) → IsSound w → Begins w j → length (take w.seen j) ≡ w.seen
seen_long w j s b =
    let far = long w j s b in
    let e = length-take w.seen j in
    omega (arith, far, e)

-- ---- an update that is done

one_more : (xs : List Entry) (x : Entry) → xs ≡ xs ++ x ∷ [] → ⊥
one_more xs x e =
    let l : length xs ≡ length (xs ++ x ∷ []) = ap length e in
    let m : length (xs ++ x ∷ []) ≡ length xs + 1 = length-append xs (x ∷ []) in
    omega arith

pub front_rises : (v w : View) (what : What) (j : Journal) → IsSound v → Appends v w what → Begins w j → v.seen < w.seen
front_rises v w what j s a b = go (nat_lt v.seen w.seen) refl
  where
    go : (t : Bool) → nat_lt v.seen w.seen ≡ t → v.seen < w.seen
    go true e = grind (arith, nat_tests)
    go false e =
        let high : w.seen ≤ v.seen = grind (arith, nat_tests) in
        let low = a.grows.front in
        let same : w.seen ≡ v.seen = omega (arith, high, low) in
        let before : entries_by v.number (take v.seen j) ≡ v.own = own_in v j s (begins_before v w j a.grows b) in
        let after : entries_by w.number (take w.seen j) ≡ w.own = own_in w j a.grows.sound b in
        absurd (one_more v.own _ (sym before ∙ ap (λ (n : ℕ). entries_by v.number (take n j)) (sym same) ∙ ap (λ (k : ℕ). entries_by k (take w.seen j)) (sym a.grows.number) ∙ after ∙ a.own))

get_taken : (xs : Journal) (n k : ℕ) → k < n → slice_get (take n xs) k ≡ slice_get xs k
get_taken [] n k h = ap (λ (ys : Journal). slice_get ys k) (nothing n)
  where
    nothing : (n : ℕ) → take {A = Entry} n [] ≡ []
    nothing zero = refl
    nothing (suc n) = refl
get_taken (x ∷ xs) zero k h = absurd (omega arith)
get_taken (x ∷ xs) (suc n) zero h = refl
get_taken (x ∷ xs) (suc n) (suc k) h = get_taken xs n k (omega arith)

pub ends_own : (v w : View) (what : What) (j : Journal) → Appends v w what → Begins w j → ends_with_own w.number (take w.seen j) ≡ true
ends_own v w what j a b =
    let e : Entry = record { by = w.number; what = what } in
    let count : length (take w.seen j) ≡ w.seen = seen_long w j a.grows.sound b in
    let some : 0 < w.seen = a.some_seen in
    let low : w.seen - 1 < w.seen = omega arith in
    let last : slice_get (take w.seen j) (length (take w.seen j) - 1) ≡ Some e =
    ap (λ (n : ℕ). slice_get (take w.seen j) (n - 1)) count ∙ ap (λ (J : Journal). slice_get J (w.seen - 1)) b.same ∙ get_taken b.journal w.seen (w.seen - 1) low ∙ a.last b.journal b.stands in
    ap (λ (o : Option Entry). option_map_or (λ (x : Entry). x.by == w.number) o false) last ∙ eq-eqb w.number w.number refl

both_true : (p q : Bool) → p ≡ true → q ≡ true → (p && q) ≡ true
both_true p q e f = rw (e, f) refl

below_true : (m n : ℕ) → m < n → nat_lt m n ≡ true
below_true m n h = grind (arith, nat_tests)

pub done_seen : (x : Setting) (v w : View) (what : What) (front : ℕ) (j : Journal) → x.engine ≡ w.number → IsSound v → front ≤ v.seen → Appends v w what → Begins w j
    → is_done x front (take w.seen j) ≡ true
done_seen x v w what front j is s low a b =
    let count : length (take w.seen j) ≡ w.seen = seen_long w j a.grows.sound b in
    let rises : v.seen < w.seen = front_rises v w what j s a b in
    both_true (nat_lt front (length (take w.seen j))) (ends_with_own x.engine (take w.seen j)) (below_true front _ (omega (arith, count, rises, low)))
    (ap (λ (k : ℕ). ends_with_own k (take w.seen j)) is ∙ ends_own v w what j a b)

-- ---- an update that is refused

module _ (p : Entry → Bool) where
  first_fails : (x : Entry) (b : Bool) (xs : List Entry) → p x ≡ b → cond b (x ∷ xs) xs ≡ [] → (p x ≡ false) × (xs ≡ [])
  first_fails x true xs e h = absurd cc
  first_fails x false xs e h = (e, h)

  -- no element passes, so the last doesn't
  none_pass : (x : Entry) (xs : List Entry) → filter p (x ∷ xs) ≡ [] → option_map_or p (slice_get (x ∷ xs) (length (x ∷ xs) - 1)) false ≡ false
  none_pass x [] h = (first_fails x (p x) [] refl h).0
  none_pass x (y ∷ ys) h =
      let e : length (x ∷ y ∷ ys) - 1 ≡ suc (length (y ∷ ys) - 1) = omega arith in
      ap (λ (n : ℕ). option_map_or p (slice_get (x ∷ y ∷ ys) n) false) e ∙ none_pass y ys (first_fails x (p x) (filter p (y ∷ ys)) refl h).1

  same_rest : (x : Entry) (b : Bool) (xs ys : List Entry) → cond b (x ∷ xs) xs ≡ cond b (x ∷ ys) ys → xs ≡ ys
  same_rest x true xs ys h = cc
  same_rest x false xs ys h = h

  -- the same elements pass in a front, so the last doesn't
  last_beyond : (xs : List Entry) (k : ℕ) → k < length xs → filter p (take k xs) ≡ filter p xs → option_map_or p (slice_get xs (length xs - 1)) false ≡ false
  last_beyond [] k h e = absurd (omega arith)
  last_beyond (x ∷ xs) zero h e = none_pass x xs (sym e)
  last_beyond (x ∷ []) (suc k) h e = absurd (omega arith)
  last_beyond (x ∷ y ∷ ys) (suc k) h e =
      let n : length (x ∷ y ∷ ys) - 1 ≡ suc (length (y ∷ ys) - 1) = omega arith in
      ap (λ (n : ℕ). option_map_or p (slice_get (x ∷ y ∷ ys) n) false) n ∙ last_beyond (y ∷ ys) k (omega arith) (same_rest x (p x) _ _ e)

pub not_done : (x : Setting) (v w : View) (front : ℕ) (j : Journal) → x.engine ≡ w.number → Looks v w → IsFronted v front → Begins w j → is_done x front (take w.seen j) ≡ false
not_done x v w front j is l f b = go (nat_lt front (length (take w.seen j))) refl
  where
    go : (t : Bool) → nat_lt front (length (take w.seen j)) ≡ t → (t && ends_with_own x.engine (take w.seen j)) ≡ false
    go false e = refl
    go true e =
        let low : front < length (take w.seen j) = grind (arith, nat_tests) in
        let count : length (take w.seen j) ≡ w.seen = seen_long w j l.grows.sound b in
        let le : front ≤ w.seen = omega (arith, count, low) in
        let after : IsFronted w front = fronted_on v w front l f in
        let same : entries_by w.number (take front (take w.seen j)) ≡ entries_by w.number (take w.seen j) =
        ap (entries_by w.number) (take-take front w.seen j le) ∙ after.below j b ∙ sym (own_in w j l.grows.sound b) in
        ap (λ (k : ℕ). ends_with_own k (take w.seen j)) is ∙ last_beyond (λ (y : Entry). y.by == w.number) (take w.seen j) front low same

-- ---- no room

full_test : (words updates u n len u' n' g : ℕ) → u ≡ u' → n ≡ n' → len ≡ g → (words < u' + n') ⊎ (g ≡ updates) → (nat_lt words (u + n) || updates == len) ≡ true
full_test words updates u n len u' n' g a b c (inl h) = let lt : nat_lt words (u + n) ≡ true = below_true words (u + n) (omega (arith, a, b, h)) in rw lt refl
full_test words updates u n len u' n' g a b c (inr h) = either (nat_lt words (u + n)) (updates == len) (eq-eqb updates len (sym h ∙ sym c))
  where
    either : (p q : Bool) → q ≡ true → (p || q) ≡ true
    either true q e = refl
    either false q e = e

pub full_seen : (x : Setting) (w : View) (what : What) (u n g : ℕ) (j : Journal) → x.words ≡ w.words → x.updates ≡ w.updates → IsFull w what u n g → Begins w j → is_full x (take w.seen j) what ≡ true
full_seen x w what u n g j words updates f b =
    let seen = seen_in w (λ J. (used J ≡ u) × (length J ≡ g)) j f.seen b in
    full_test x.words x.updates (used (take w.seen j)) (need what) (length (take w.seen j)) u n g seen.0 f.needs seen.1
    (subst (λ (k : ℕ). (k < u + n) ⊎ (g ≡ x.updates)) (sym words) (subst (λ (k : ℕ). (w.words < u + n) ⊎ (g ≡ k)) (sym updates) f.full))
