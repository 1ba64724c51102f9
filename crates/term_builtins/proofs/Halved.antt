-- A name and arity is found by halves where each row stands before the next one.
use Rattle.std.proofs.Common.{◌≡◌, ℕ, suc, zero, ◌+◌, ◌-◌, ◌/◌, ◌<◌, ◌≤◌, nat_lt, Bool, true, false, ◌&&◌, List, [], ◌∷◌, length, Option, Some, None, Less, Equal, Greater, Ordering, refl, sym, ap, ap₂, ◌∙◌, subst, arith, true≢false, is_eq}
use Rattle.std.proofs.lemmas.Bool.{ltb-true, ltb-false}
use Rattle.std.specs.Option.{option_map}
use Rattle.std.specs.Ordering.{ordering_then, ordering_reverse, nat_cmp}
use Rattle.std.specs.Cmp.{IsTotalOrder, nat_cmp_total, on_total, then_total, alike_right, unsigned_ties}
use Rattle.std.specs.Cmp.Lexicographic.{nat_list_cmp_total, texts_ties}
use Rattle.prolog_terms.specs.Order.{name_order}
use Rattle.term_builtins.specs.declared.table.What.TheVariants.{Unify}
use Rattle.term_builtins.specs.Meanings.{is_less}
use Rattle.term_builtins.specs.Table.{Row, row_order, are_in_order, is_row, place_when, place_in}
use Rattle.term_builtins.specs.Answers.{row_at}

abbrev pub key : List ℕ → ℕ → Row
key name arity = record { name = name; arity = arity; what = Unify }

total : IsTotalOrder row_order
total = then_total (on_total (λ (r : Row). r.name) nat_list_cmp_total) (on_total (λ (r : Row). r.arity) nat_cmp_total)

-- ---- the rows of a list in order

is_before : (o : Ordering) → is_less o ≡ true → o ≡ Less
is_before Less h = refl
is_before Equal h = absurd (true≢false (sym h))
is_before Greater h = absurd (true≢false (sym h))

both_so : (a b : Bool) → (a && b) ≡ true → (a ≡ true) × (b ≡ true)
both_so true b h = (refl, h)
both_so false b h = absurd (true≢false (sym h))

pub sorted : (rows : List Row) (i j : ℕ) → are_in_order rows ≡ true → i < j → j < length rows → row_order (row_at rows i) (row_at rows j) ≡ Less
sorted [] i j h lt low = absurd (omega arith)
sorted (r ∷ []) i j h lt low = absurd (omega arith)
sorted (r ∷ s ∷ rs) i zero h lt low = absurd (omega arith)
sorted (r ∷ s ∷ rs) (suc i) (suc j) h lt low = sorted (s ∷ rs) i j (both_so (is_less (row_order r s)) (are_in_order (s ∷ rs)) h).1 (omega arith) (omega arith)
sorted (r ∷ s ∷ rs) zero (suc zero) h lt low = is_before (row_order r s) (both_so (is_less (row_order r s)) (are_in_order (s ∷ rs)) h).0
sorted (r ∷ s ∷ rs) zero (suc (suc j)) h lt low =
    let w = both_so (is_less (row_order r s)) (are_in_order (s ∷ rs)) h in
    total.trans r s (row_at (s ∷ rs) (suc j)) (is_before (row_order r s) w.0) (sorted (s ∷ rs) zero (suc j) w.1 (omega arith) (omega arith))

-- ---- the place of a name and arity

eq_then : (o p : Ordering) → (is_eq o && is_eq p) ≡ is_eq (ordering_then o p)
eq_then Less p = refl
eq_then Equal p = refl
eq_then Greater p = refl

is_key : (name : List ℕ) (arity : ℕ) (r : Row) → is_row name arity r ≡ is_eq (row_order r (key name arity))
is_key name arity r =
    ap₂ (λ (a b : Bool). a && b) (texts_ties r.name name) (unsigned_ties r.arity arity)
    ∙ eq_then (name_order r.name name) (nat_cmp r.arity arity)

at_place : (rows : List Row) (name : List ℕ) (arity m : ℕ) → m < length rows
    → ((n : ℕ) → n < m → row_order (row_at rows n) (key name arity) ≡ Less)
    → row_order (row_at rows m) (key name arity) ≡ Equal → place_in rows name arity ≡ Some m
at_place [] name arity m low before same = absurd (omega arith)
at_place (r ∷ rs) name arity zero low before same =
    ap (λ (b : Bool). place_when b (place_in rs name arity)) (is_key name arity r ∙ ap is_eq same)
at_place (r ∷ rs) name arity (suc m) low before same =
    ap (λ (b : Bool). place_when b (place_in rs name arity)) (is_key name arity r ∙ ap is_eq (before 0 (omega arith)))
    ∙ ap (λ (o : Option ℕ). option_map suc o) (at_place rs name arity m (omega arith) (λ n lt. before (suc n) (omega arith)) same)

no_place : (rows : List Row) (name : List ℕ) (arity : ℕ)
    → ((n : ℕ) → n < length rows → is_eq (row_order (row_at rows n) (key name arity)) ≡ false) → place_in rows name arity ≡ None
no_place [] name arity other = refl
no_place (r ∷ rs) name arity other =
    ap (λ (b : Bool). place_when b (place_in rs name arity)) (is_key name arity r ∙ other 0 (omega arith))
    ∙ ap (λ (o : Option ℕ). option_map suc o) (no_place rs name arity (λ n lt. other (suc n) (omega arith)))

-- ---- by halves

-- rows below the one place are less, and those from the other on greater
pub record IsBetween (rows : List Row) (name : List ℕ) (arity low high : ℕ) : Type 0 where
  pub order : low ≤ high
  pub within : high ≤ length rows
  pub below : (n : ℕ) → n < low → row_order (row_at rows n) (key name arity) ≡ Less
  pub above : (n : ℕ) → high ≤ n → n < length rows → row_order (row_at rows n) (key name arity) ≡ Greater

module _ (rows : List Row) (name : List ℕ) (arity : ℕ) where
  pub all_between : IsBetween rows name arity 0 (length rows)
  all_between = record {
    order = omega arith;
    within = omega arith;
    below = λ n lt. absurd (omega arith);
    above = λ n le lt. absurd (omega arith);
  }

  module _ (low high : ℕ) (h : IsBetween rows name arity low high) where
    pub middle_within : low < high → low + (high - low) / 2 < length rows
    middle_within lt = let w = h.within in omega (arith, w, lt)

    pub not_there : high ≤ low → place_in rows name arity ≡ None
    not_there end = no_place rows name arity (λ n lt. at n lt (nat_lt n low) refl)
      where
        at : (n : ℕ) → n < length rows → (b : Bool) → nat_lt n low ≡ b → is_eq (row_order (row_at rows n) (key name arity)) ≡ false
        at n lt true q = ap is_eq (h.below n (ltb-true n low q))
        at n lt false q =
            let not_less : low ≤ n = ltb-false n low q in
            let more : high ≤ n = omega (arith, not_less, end) in
            ap is_eq (h.above n more lt)

  module _ (ordered : are_in_order rows ≡ true) (m : ℕ) (inside : m < length rows) where
    pub found : row_order (row_at rows m) (key name arity) ≡ Equal → place_in rows name arity ≡ Some m
    found same =
        at_place rows name arity m inside
        (λ n lt. sym (alike_right total (row_at rows m) (key name arity) (row_at rows n) same) ∙ sorted rows n m ordered lt inside)
        same

    less_before : row_order (row_at rows m) (key name arity) ≡ Less → (n : ℕ) → n < m + 1 → row_order (row_at rows n) (key name arity) ≡ Less
    less_before less n lt = at (nat_lt n m) refl
      where
        at : (b : Bool) → nat_lt n m ≡ b → row_order (row_at rows n) (key name arity) ≡ Less
        at true q = total.trans (row_at rows n) (row_at rows m) (key name arity) (sorted rows n m ordered (ltb-true n m q) inside) less
        at false q =
            let not_less : m ≤ n = ltb-false n m q in
            let same : m ≡ n = omega (arith, not_less, lt) in
            subst (λ (k : ℕ). row_order (row_at rows k) (key name arity) ≡ Less) same less

    greater_after : row_order (row_at rows m) (key name arity) ≡ Greater → (n : ℕ) → m ≤ n → n < length rows → row_order (row_at rows n) (key name arity) ≡ Greater
    greater_after greater n le lt = at (nat_lt m n) refl
      where
        turned : row_order (key name arity) (row_at rows m) ≡ Less
        turned = total.antisymm (key name arity) (row_at rows m) ∙ ap ordering_reverse greater

        at : (b : Bool) → nat_lt m n ≡ b → row_order (row_at rows n) (key name arity) ≡ Greater
        at true q =
            total.antisymm (row_at rows n) (key name arity)
            ∙ ap ordering_reverse (total.trans (key name arity) (row_at rows m) (row_at rows n) turned (sorted rows m n ordered (ltb-true m n q) lt))
        at false q =
            let not_behind : n ≤ m = ltb-false m n q in
            let same : m ≡ n = omega (arith, not_behind, le) in
            subst (λ (k : ℕ). row_order (row_at rows k) (key name arity) ≡ Greater) same greater

    module _ (low high : ℕ) (h : IsBetween rows name arity low high) where
      pub above_middle : m < high → row_order (row_at rows m) (key name arity) ≡ Less → IsBetween rows name arity (m + 1) high
      above_middle lt less = record {
        order = omega (arith, lt);
        within = h.within;
        below = less_before less;
        above = h.above;
      }

      pub below_middle : low ≤ m → row_order (row_at rows m) (key name arity) ≡ Greater → IsBetween rows name arity low m
      below_middle le greater = record {
        order = le;
        within = omega (arith, inside);
        below = h.below;
        above = greater_after greater;
      }
