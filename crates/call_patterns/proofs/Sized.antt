-- The sizes of trees whose rows have codes at each position, by how many rows and codes there are.
use Rattle.std.proofs.Common.{◌≡◌, ◌≢◌, ℕ, suc, ◌+◌, ◌*◌, ◌<◌, ◌≤◌, Bool, true, false, cond, List, [], ◌∷◌, length, Option, Some, None, refl, sym, ap, ◌∙◌, arith, subst, eqb}
use Rattle.std.specs.Prelude.{nat_lt, ◌==◌, if◌then◌else◌}
use Rattle.std.specs.List.{filter}
use Rattle.std.proofs.lemmas.Bool.{eqb-true, eqb-false, eq-eqb, ltb-true, ltb-false}
use Rattle.call_patterns.specs.Size.{insert_code, with_code, codes_at, is_none, has_no_code, total, size_from}
use Rattle.call_patterns.specs.Rows.{code_of, agrees, fits}
use Rattle.call_patterns.specs.Laws.{HaveCodes, AreDistinctAt, words}
use Rattle.call_patterns.specs.declared.row.Row.{Row}

-- ---- sums

abbrev one_if : Bool → ℕ
one_if true = 1
one_if false = 0

total_same : (f g : ℕ → ℕ) (cs : List ℕ) → ((c : ℕ) → f c ≡ g c) → total f cs ≡ total g cs
total_same f g [] h = refl
total_same f g (c ∷ cs) h = let e = h c in let r = total_same f g cs h in omega (arith, e, r)

total_sum : (f g : ℕ → ℕ) (cs : List ℕ) → total (λ c. f c + g c) cs ≡ total f cs + total g cs
total_sum f g [] = refl
total_sum f g (c ∷ cs) = let r = total_sum f g cs in omega (arith, r)

total_zero : (cs : List ℕ) → total (λ c. 0) cs ≡ 0
total_zero [] = refl
total_zero (c ∷ cs) = let r = total_zero cs in omega (arith, r)

total_times : (k : ℕ) (cs : List ℕ) → total (λ c. k) cs ≡ k * length cs
total_times k [] = omega arith
total_times k (c ∷ cs) = let r = total_times k cs in omega (arith, r)

-- ---- how often a code stands in a list

abbrev times : ℕ → List ℕ → ℕ
times d cs = total (λ c. one_if (d == c)) cs

-- ascending, from n on
abbrev RisesFrom : ℕ → List ℕ → Type 0
RisesFrom n [] = Unit {0}
RisesFrom n (x ∷ xs) = (n ≤ x) × RisesFrom (x + 1) xs

insert_rises : (n c : ℕ) (cs : List ℕ) → n ≤ c → RisesFrom n cs → RisesFrom n (insert_code c cs)
insert_rises n c [] le h = (le, tt)
insert_rises n c (x ∷ xs) le h = go (λ low. insert_rises (x + 1) c xs low h.1) (nat_lt c x) refl (nat_lt x c) refl
  where
    go : (x + 1 ≤ c → RisesFrom (x + 1) (insert_code c xs)) → (a : Bool) → nat_lt c x ≡ a → (b : Bool) → nat_lt x c ≡ b → RisesFrom n (if a then c ∷ x ∷ xs else if b then x ∷ insert_code c xs else x ∷ xs)
    go rest true e b f = let lt = ltb-true c x e in (le, (omega (arith, lt), h.1))
    go rest false e true f = let lt = ltb-true x c f in (h.0, rest (omega (arith, lt)))
    go rest false e false f = h

other : (d c : ℕ) → d ≢ c → one_if (d == c) ≡ 0
other d c h = go (eqb d c) refl
  where
    go : (b : Bool) → eqb d c ≡ b → one_if b ≡ 0
    go true e = absurd (h (eqb-true d c e))
    go false e = refl

itself : (d : ℕ) → one_if (d == d) ≡ 1
itself d = ap one_if (eq-eqb d d refl)

times_below : (d n : ℕ) (cs : List ℕ) → RisesFrom n cs → d < n → times d cs ≡ 0
times_below d n [] h lt = refl
times_below d n (x ∷ xs) h lt =
    let apart : d ≢ x = omega (arith, h.0) in
    let o = other d x apart in
    let r = times_below d (x + 1) xs h.1 (omega (arith, h.0)) in
    omega (arith, o, r)

times_put : (n c : ℕ) (cs : List ℕ) → RisesFrom n cs → times c (insert_code c cs) ≡ 1
times_put n c [] h = let i = itself c in omega (arith, i)
times_put n c (x ∷ xs) h = go (times_put (x + 1) c xs h.1) (nat_lt c x) refl (nat_lt x c) refl
  where
    go : times c (insert_code c xs) ≡ 1 → (a : Bool) → nat_lt c x ≡ a → (b : Bool) → nat_lt x c ≡ b → times c (if a then c ∷ x ∷ xs else if b then x ∷ insert_code c xs else x ∷ xs) ≡ 1
    go r true e b f =
        let lt = ltb-true c x e in
        let i = itself c in
        let apart : c ≢ x = omega (arith, lt) in
        let o = other c x apart in
        let z = times_below c (x + 1) xs h.1 (omega (arith, lt)) in
        omega (arith, i, o, z)
    go r false e true f =
        let lt = ltb-true x c f in
        let apart : c ≢ x = omega (arith, lt) in
        let o = other c x apart in
        omega (arith, o, r)
    go r false e false f =
        let a = ltb-false c x e in
        let b = ltb-false x c f in
        let same : x ≡ c = omega (arith, a, b) in
        let i : one_if (c == x) ≡ 1 = subst (λ (y : ℕ). one_if (c == y) ≡ 1) (sym same) (itself c) in
        let z = times_below c (x + 1) xs h.1 (omega (arith, b)) in
        omega (arith, i, z)

times_other : (d c : ℕ) (cs : List ℕ) → d ≢ c → times d (insert_code c cs) ≡ times d cs
times_other d c [] apart = let o = other d c apart in omega (arith, o)
times_other d c (x ∷ xs) apart = go (times_other d c xs apart) (nat_lt c x) (nat_lt x c)
  where
    go : times d (insert_code c xs) ≡ times d xs → (a b : Bool) → times d (if a then c ∷ x ∷ xs else if b then x ∷ insert_code c xs else x ∷ xs) ≡ times d (x ∷ xs)
    go r true b = let o = other d c apart in omega (arith, o)
    go r false true = omega (arith, r)
    go r false false = refl

times_kept : (n d c : ℕ) (cs : List ℕ) → RisesFrom n cs → times d cs ≡ 1 → times d (insert_code c cs) ≡ 1
times_kept n d c cs h once = go (eqb d c) refl
  where
    go : (b : Bool) → eqb d c ≡ b → times d (insert_code c cs) ≡ 1
    go true e = subst (λ (x : ℕ). times x (insert_code c cs) ≡ 1) (sym (eqb-true d c e)) (times_put n c cs h)
    go false e = times_other d c cs (eqb-false d c e) ∙ once

-- ---- rows with codes

-- each row has a code
abbrev pub Coded : ℕ → List Row → Type 0
Coded p [] = Unit {0}
Coded p (row ∷ rows) = ((c : ℕ) × (code_of row p ≡ Some c)) × Coded p rows

coded : (p : ℕ) (rows : List Row) → HaveCodes p rows → Coded p rows
coded p [] h = tt
coded p (row ∷ rows) h = (some (code_of row p) refl (h 0 row (omega arith)), coded p rows (λ i d lt. h (suc i) d (omega arith)))
  where
    some : (o : Option ℕ) → code_of row p ≡ o → is_none (code_of row p) ≡ false → (c : ℕ) × (code_of row p ≡ Some c)
    some None e f = absurd (let z : is_none None ≡ false = sym (ap is_none e) ∙ f in cc)
    some (Some c) e f = (c, e)

none_without : (p : ℕ) (rows : List Row) → Coded p rows → filter (has_no_code p) rows ≡ []
none_without p [] h = refl
none_without p (row ∷ rows) h = ap (λ o. cond (is_none o) (row ∷ filter (has_no_code p) rows) (filter (has_no_code p) rows)) h.0.1 ∙ none_without p rows h.1

kept_coded : (q : ℕ) (t : Row → Bool) (rows : List Row) → Coded q rows → Coded q (filter t rows)
kept_coded q t [] h = tt
kept_coded q t (row ∷ rows) h = go (t row) (kept_coded q t rows h.1)
  where
    go : (b : Bool) → Coded q (filter t rows) → Coded q (cond b (row ∷ filter t rows) (filter t rows))
    go true r = (h.0, r)
    go false r = r

codes_rise : (p : ℕ) (rows : List Row) → RisesFrom 0 (codes_at p rows)
unfolding codes_at
codes_rise p [] = tt
codes_rise p (row ∷ rows) = go (codes_rise p rows) (code_of row p)
  where
    go : RisesFrom 0 (codes_at p rows) → (o : Option ℕ) → RisesFrom 0 (with_code o (codes_at p rows))
    go up None = up
    go up (Some c) = insert_rises 0 c (codes_at p rows) (omega arith) up

-- each row's code stands once in a list
abbrev EachOnce : ℕ → List ℕ → List Row → Type 0
EachOnce p cs [] = Unit {0}
EachOnce p cs (row ∷ rows) = ((c : ℕ) × ((code_of row p ≡ Some c) × (times c cs ≡ 1))) × EachOnce p cs rows

once_more : (p c : ℕ) (cs : List ℕ) (rows : List Row) → RisesFrom 0 cs → EachOnce p cs rows → EachOnce p (insert_code c cs) rows
once_more p c cs [] h e = tt
once_more p c cs (row ∷ rows) h e = ((e.0.0, (e.0.1.0, times_kept 0 e.0.0 c cs h e.0.1.1)), once_more p c cs rows h e.1)

each_once : (p : ℕ) (rows : List Row) → Coded p rows → EachOnce p (codes_at p rows) rows
unfolding codes_at
each_once p [] h = tt
each_once p (row ∷ rows) h =
    let c = h.0.0 in
    let cs = codes_at p rows in
    let up = codes_rise p rows in
    subst (λ (o : Option ℕ). EachOnce p (with_code o cs) (row ∷ rows)) (sym h.0.1)
    ((c, (h.0.1, times_put 0 c cs up)), once_more p c cs rows up (each_once p rows h.1))

length_cond : (b : Bool) (x : Row) (xs : List Row) → length (cond b (x ∷ xs) xs) ≡ one_if b + length xs
length_cond true x xs = omega arith
length_cond false x xs = omega arith

-- each row is counted at its code, once
counted : (p : ℕ) (cs : List ℕ) (rows : List Row) → EachOnce p cs rows → total (λ c. length (filter (fits p c) rows)) cs ≡ length rows
counted p cs [] h = total_zero cs
counted p cs (row ∷ rows) h =
    let split = total_same (λ c. length (filter (fits p c) (row ∷ rows))) (λ c. one_if (fits p c row) + length (filter (fits p c) rows)) cs
    (λ c. length_cond (fits p c row) row (filter (fits p c) rows)) in
    let parts = total_sum (λ c. one_if (fits p c row)) (λ c. length (filter (fits p c) rows)) cs in
    let own : total (λ c. one_if (fits p c row)) cs ≡ 1 = ap (λ o. total (λ c. one_if (agrees c o)) cs) h.0.1.0 ∙ h.0.1.1 in
    let rest = counted p cs rows h.1 in
    omega (arith, split, parts, own, rest)

-- ---- codes with rows

abbrev EachHas : ℕ → List Row → List ℕ → Type 0
EachHas p rows [] = Unit {0}
EachHas p rows (c ∷ cs) = (0 < length (filter (fits p c) rows)) × EachHas p rows cs

has_more : (p : ℕ) (row : Row) (rows : List Row) (cs : List ℕ) → EachHas p rows cs → EachHas p (row ∷ rows) cs
has_more p row rows [] h = tt
has_more p row rows (c ∷ cs) h = let l = length_cond (fits p c row) row (filter (fits p c) rows) in (omega (arith, l, h.0), has_more p row rows cs h.1)

has_put : (p c : ℕ) (rows : List Row) (cs : List ℕ) → 0 < length (filter (fits p c) rows) → EachHas p rows cs → EachHas p rows (insert_code c cs)
has_put p c rows [] some h = (some, tt)
has_put p c rows (x ∷ xs) some h = go (has_put p c rows xs some h.1) (nat_lt c x) (nat_lt x c)
  where
    go : EachHas p rows (insert_code c xs) → (a b : Bool) → EachHas p rows (if a then c ∷ x ∷ xs else if b then x ∷ insert_code c xs else x ∷ xs)
    go r true b = (some, h)
    go r false true = (h.0, r)
    go r false false = h

each_has : (p : ℕ) (rows : List Row) → EachHas p rows (codes_at p rows)
unfolding codes_at
each_has p [] = tt
each_has p (row ∷ rows) = go (code_of row p) refl (has_more p row rows (codes_at p rows) (each_has p rows))
  where
    go : (o : Option ℕ) → code_of row p ≡ o → EachHas p (row ∷ rows) (codes_at p rows) → EachHas p (row ∷ rows) (with_code o (codes_at p rows))
    go None e h = h
    go (Some c) e h =
        let i : one_if (fits p c row) ≡ 1 = ap (λ o. one_if (agrees c o)) e ∙ itself c in
        let l = length_cond (fits p c row) row (filter (fits p c) rows) in
        has_put p c (row ∷ rows) (codes_at p rows) (omega (arith, l, i)) h

-- ---- one position

leaf_size : (rows : List Row) → 0 < length rows → size_from [] rows ≡ 1 + length rows
unfolding size_from
leaf_size [] h = absurd (omega arith)
leaf_size (row ∷ rows) h = refl

leaves : (p : ℕ) (rows : List Row) (cs : List ℕ) → EachHas p rows cs
    → total (λ c. size_from [] (filter (fits p c) rows)) cs ≡ length cs + total (λ c. length (filter (fits p c) rows)) cs
leaves p rows [] h = refl
leaves p rows (c ∷ cs) h =
    let l = leaf_size (filter (fits p c) rows) h.0 in
    let r = leaves p rows cs h.1 in
    omega (arith, l, r)

no_leaf : size_from [] [] ≡ 0
unfolding size_from
no_leaf = refl

node_size : (p : ℕ) (ps : List ℕ) (rows : List Row) → 0 < length rows
    → size_from (p ∷ ps) rows ≡ 2 + 2 * length (codes_at p rows) + size_from ps (filter (has_no_code p) rows) + total (λ c. size_from ps (filter (fits p c) rows)) (codes_at p rows)
unfolding size_from
node_size p ps [] h = absurd (omega arith)
node_size p ps (row ∷ rows) h = refl

pub one_position : (p : ℕ) (rows : List Row) → 0 < length rows → Coded p rows → size_from (p ∷ []) rows ≡ 2 + 3 * length (codes_at p rows) + length rows
one_position p rows some h =
    let cs = codes_at p rows in
    let node = node_size p [] rows some in
    let default : size_from [] (filter (has_no_code p) rows) ≡ 0 = ap (size_from []) (none_without p rows h) ∙ no_leaf in
    let all = leaves p rows cs (each_has p rows) in
    let whole = counted p cs rows (each_once p rows h) in
    omega (arith, node, default, all, whole)

-- ---- two positions

abbrev EachOne : ℕ → List Row → List ℕ → Type 0
EachOne p rows [] = Unit {0}
EachOne p rows (c ∷ cs) = (length (filter (fits p c) rows) ≡ 1) × EachOne p rows cs

as_many : (p : ℕ) (rows : List Row) (cs : List ℕ) → EachHas p rows cs → length cs ≤ total (λ c. length (filter (fits p c) rows)) cs
as_many p rows [] h = omega arith
as_many p rows (c ∷ cs) h = let r = as_many p rows cs h.1 in omega (arith, r, h.0)

each_one : (p : ℕ) (rows : List Row) (cs : List ℕ) → EachHas p rows cs → total (λ c. length (filter (fits p c) rows)) cs ≡ length cs → EachOne p rows cs
each_one p rows [] h e = tt
each_one p rows (c ∷ cs) h e =
    let r = as_many p rows cs h.1 in
    (omega (arith, r, h.0, e), each_one p rows cs h.1 (omega (arith, r, h.0, e)))

one_code : (q : ℕ) (rows : List Row) → length rows ≡ 1 → Coded q rows → length (codes_at q rows) ≡ 1
unfolding codes_at
one_code q [] e h = absurd (omega arith)
one_code q (row ∷ []) e h = ap (λ o. length (with_code o [])) h.0.1
one_code q (row ∷ more ∷ rows) e h = absurd (omega arith)

sixes : (p q : ℕ) (rows : List Row) (cs : List ℕ) → Coded q rows → EachOne p rows cs → total (λ c. size_from (q ∷ []) (filter (fits p c) rows)) cs ≡ 6 * length cs
sixes p q rows [] h e = omega arith
sixes p q rows (c ∷ cs) h e =
    let kept = filter (fits p c) rows in
    let have = kept_coded q (fits p c) rows h in
    let one : size_from (q ∷ []) kept ≡ 2 + 3 * length (codes_at q kept) + length kept = one_position q kept (omega (arith, e.0)) have in
    let code = one_code q kept e.0 have in
    let rest = sixes p q rows cs h e.1 in
    omega (arith, one, code, e.0, rest)

no_node : (q : ℕ) → size_from (q ∷ []) [] ≡ 0
unfolding size_from
no_node q = refl

pub two_positions : (p q : ℕ) (rows : List Row) → 0 < length rows → Coded p rows → Coded q rows → length (codes_at p rows) ≡ length rows
    → size_from (p ∷ q ∷ []) rows ≡ 2 + 8 * length rows
two_positions p q rows some h k distinct =
    let cs = codes_at p rows in
    let node = node_size p (q ∷ []) rows some in
    let default : size_from (q ∷ []) (filter (has_no_code p) rows) ≡ 0 = ap (size_from (q ∷ [])) (none_without p rows h) ∙ no_node q in
    let whole = counted p cs rows (each_once p rows h) in
    let ones = each_one p rows cs (each_has p rows) (whole ∙ sym distinct) in
    let all = sixes p q rows cs k ones in
    omega (arith, node, default, all, distinct)

-- ---- whole trees

pub whole_nothing : (ps : List ℕ) → words ps [] ≡ 9
unfolding size_from
whole_nothing [] = refl
whole_nothing (p ∷ ps) = refl

pub whole_leaf : (rows : List Row) → 1 ≤ length rows → words [] rows ≡ 10 + length rows
whole_leaf rows some = let s = leaf_size rows (omega (arith, some)) in omega (arith, s)

pub whole_one : (p : ℕ) (rows : List Row) → 1 ≤ length rows → HaveCodes p rows → words (p ∷ []) rows ≡ 11 + 3 * length (codes_at p rows) + length rows
whole_one p rows some h = let s = one_position p rows (omega (arith, some)) (coded p rows h) in omega (arith, s)

pub whole_two : (p q : ℕ) (rows : List Row) → 1 ≤ length rows → HaveCodes p rows → HaveCodes q rows → AreDistinctAt p rows → words (p ∷ q ∷ []) rows ≡ 11 + 8 * length rows
whole_two p q rows some h k distinct = let s = two_positions p q rows (omega (arith, some)) (coded p rows h) (coded q rows k) distinct in omega (arith, s)
