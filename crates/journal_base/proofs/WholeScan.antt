-- The whole scan gives the candidates, in order, and the whole chain.
use Rattle.std.proofs.Common.{◌≡◌, ℕ, suc, zero, ◌+◌, ◌-◌, ◌*◌, ◌≤◌, List, [], ◌∷◌, ◌++◌, length, Bool, true, false, ◌&&◌, not, map, filter, reverse, refl, sym, ap, ◌∙◌, arith, append-nil}
use Rattle.std.proofs.lemmas.List.Elements.{filter-append}
use Rattle.std.proofs.lemmas.List.Sums.{length-filter, count_by-le-length}
use Rattle.std.proofs.lemmas.List.{reverse-append, map-append, length-append, length-map}
use Rattle.journals.specs.Numbers.{numbers_from}
use Rattle.prolog_terms.specs.declared.entry.End.{End}
use Rattle.std.proofs.Common.{nat_lt}
use Rattle.std.proofs.lemmas.Bool.Decides.{nat_tests}
use Rattle.prolog_terms.specs.declared.entry.End.TheVariants.{Front, Back}
use Rattle.journals.specs.Journal.{Journal, adds_at, additions, chain, is_erased, clause_named}
use Rattle.call_patterns.specs.Candidates.{candidates, head_agrees}
use Rattle.journal_base.specs.Goals.{Goal}
use Rattle.journal_base.specs.Scan.{place, places, is_candidate, adds_here, scan, left}

-- ---- lists

kept-reverse : {X : Type 0} (p : X → Bool) (xs : List X) → filter p (reverse xs) ≡ reverse (filter p xs)
kept-reverse p [] = refl
kept-reverse p (x ∷ xs) =
    ap (filter p) (reverse-append (x ∷ []) xs) ∙ filter-append p (reverse xs) (x ∷ []) ∙ ap (λ l. l ++ filter p (x ∷ [])) (kept-reverse p xs) ∙ last (p x) refl
  where
    last : (b : Bool) → p x ≡ b → reverse (filter p xs) ++ filter p (x ∷ []) ≡ reverse (filter p (x ∷ xs))
    last true e = rw (e) (sym (reverse-append (x ∷ []) (filter p xs)))
    last false e = rw (e) (append-nil (reverse (filter p xs)))

kept_thrice : {X : Type 0} (a b c : X → Bool) (xs : List X) → filter (λ x. a x && (b x && c x)) xs ≡ filter c (filter b (filter a xs))
kept_thrice a b c [] = refl
kept_thrice a b c (x ∷ xs) = go (kept_thrice a b c xs) (a x) (b x) (c x) refl refl refl
  where
    go : filter (λ x. a x && (b x && c x)) xs ≡ filter c (filter b (filter a xs)) → (i j k : Bool) → a x ≡ i → b x ≡ j → c x ≡ k
        → filter (λ x. a x && (b x && c x)) (x ∷ xs) ≡ filter c (filter b (filter a (x ∷ xs)))
    go h true true true p q r = rw (p, q, r, h) refl
    go h true true false p q r = rw (p, q, r, h) refl
    go h true false k p q r = rw (p, q, h) refl
    go h false j k p q r = rw (p, h) refl

kept_of_pairs : {X Y : Type 0} (e : X) (p : X × Y → Bool) (ys : List Y) → map (λ x. x.1) (filter p (map (λ y. (e, y)) ys)) ≡ filter (λ y. p (e, y)) ys
kept_of_pairs e p [] = refl
kept_of_pairs e p (y ∷ ys) = go (kept_of_pairs e p ys) (p (e, y)) refl
  where
    go : map (λ x. x.1) (filter p (map (λ y. (e, y)) ys)) ≡ filter (λ y. p (e, y)) ys → (b : Bool) → p (e, y) ≡ b
        → map (λ x. x.1) (filter p (map (λ y. (e, y)) (y ∷ ys))) ≡ filter (λ y. p (e, y)) (y ∷ ys)
    go h true i = rw (i, h) refl
    go h false i = rw (i, h) refl

numbers_from-+ : (k a b : ℕ) → numbers_from k (a + b) ≡ numbers_from k a ++ numbers_from (k + a) b
numbers_from-+ k zero b = let e : k + 0 ≡ k = omega arith in let f : 0 + b ≡ b = omega arith in rw (e, f) refl
numbers_from-+ k (suc a) b =
    let e : suc a + b ≡ suc (a + b) = omega arith in
    let f : k + suc a ≡ k + 1 + a = omega arith in
    rw (e, f, numbers_from-+ (k + 1) a b) refl

-- ---- the places

backs : (n i m : ℕ) → map (place n) (numbers_from (n + i) m) ≡ map (λ k. (Back, k)) (numbers_from i m)
unfolding place
backs n i zero = refl
backs n i (suc m) =
    let e : n + i + 1 ≡ n + (i + 1) = omega arith in
    let d : n + i - n ≡ i = omega arith in
    let t : nat_lt (n + i) n ≡ false = grind (arith, nat_tests) in
    rw (e, backs n (i + 1) m, t, d) refl

fronts : (n m : ℕ) → m ≤ n → map (place n) (numbers_from (n - m) m) ≡ map (λ k. (Front, k)) (reverse (numbers_from 0 m))
unfolding place
fronts n zero h = refl
fronts n (suc m) h =
    let e : n - suc m + 1 ≡ n - m = omega arith in
    let d : n - 1 - (n - suc m) ≡ m = omega arith in
    let t : nat_lt (n - suc m) n ≡ true = grind (arith, nat_tests) in
    let one : suc m ≡ m + 1 = omega arith in
    let z : 0 + m ≡ m = omega arith in
    let s : numbers_from 0 (suc m) ≡ numbers_from 0 m ++ m ∷ [] = ap (numbers_from 0) one ∙ numbers_from-+ 0 m 1 ∙ ap (λ k. numbers_from 0 m ++ k ∷ []) z in
    let small : m ≤ n = omega arith in
    ap (λ l. place n (n - suc m) ∷ l) (ap (λ k. map (place n) (numbers_from k m)) e ∙ fronts n m small)
    ∙ rw (t, d, s, reverse-append (numbers_from 0 m) (m ∷ [])) refl

pub places-whole : (n : ℕ) → places n 0 ≡ map (λ k. (Front, k)) (reverse (numbers_from 0 n)) ++ map (λ k. (Back, k)) (numbers_from 0 n)
unfolding places
places-whole n =
    let e : 2 * n - 0 ≡ n + n = omega arith in
    let z : 0 ≡ n - n = omega arith in
    let w : 0 + n ≡ n + 0 = omega arith in
    rw (e, numbers_from-+ 0 n n, map-append (place n) (numbers_from 0 n) (numbers_from (0 + n) n), w, backs n 0 n)
    (ap (λ l. l ++ map (λ k. (Back, k)) (numbers_from 0 n)) (ap (λ k. map (place n) (numbers_from k n)) z ∙ fronts n n (omega arith)))

pub scan-whole : (J : Journal) (g : Goal) → scan J g 0 ≡ candidates J g.procedure g.keys
unfolding scan is_candidate adds_here
scan-whole J g =
    let U : List ℕ = numbers_from 0 (length J) in
    let ok : End × ℕ → Bool = is_candidate J g in
    let b : ℕ → Bool = λ k. not (is_erased J k) in
    let c : ℕ → Bool = λ k. head_agrees g.keys (clause_named J k) in
    ap (λ l. map (λ x. x.1) (filter ok l)) (places-whole (length J))
    ∙ ap (map (λ x. x.1)) (filter-append ok (map (λ k. (Front, k)) (reverse U)) (map (λ k. (Back, k)) U))
    ∙ map-append (λ x. x.1) (filter ok (map (λ k. (Front, k)) (reverse U))) (filter ok (map (λ k. (Back, k)) U))
    ∙ ap (λ l. l ++ map (λ x. x.1) (filter ok (map (λ k. (Back, k)) U))) (kept_of_pairs Front ok (reverse U) ∙ kept_thrice (adds_at J Front g.procedure) b c (reverse U) ∙ ap (λ l. filter c (filter b l)) (kept-reverse (adds_at J Front g.procedure) U))
    ∙ ap (λ l. filter c (filter b (reverse (additions J Front g.procedure))) ++ l) (kept_of_pairs Back ok U ∙ kept_thrice (adds_at J Back g.procedure) b c U)
    ∙ sym (ap (filter c) (filter-append b (reverse (additions J Front g.procedure)) (additions J Back g.procedure)) ∙ filter-append c (filter b (reverse (additions J Front g.procedure))) (filter b (additions J Back g.procedure)))

kept_length : {X Y : Type 0} (e : X) (p : X × Y → Bool) (ys : List Y) → length (filter p (map (λ y. (e, y)) ys)) ≡ length (filter (λ y. p (e, y)) ys)
kept_length {X} {Y} e p ys =
    let snd : X × Y → Y = λ x. x.1 in
    sym (length-map (filter p (map (λ y. (e, y)) ys)) snd) ∙ ap length (kept_of_pairs e p ys)

pub left-whole : (J : Journal) (p : ℕ) → left J p 0 ≡ length (chain J p)
unfolding left adds_here
left-whole J p =
    let U : List ℕ = numbers_from 0 (length J) in
    let ok : End × ℕ → Bool = adds_here J p in
    ap (λ l. length (filter ok l)) (places-whole (length J))
    ∙ ap length (filter-append ok (map (λ k. (Front, k)) (reverse U)) (map (λ k. (Back, k)) U))
    ∙ length-append (filter ok (map (λ k. (Front, k)) (reverse U))) (filter ok (map (λ k. (Back, k)) U))
    ∙ ap (λ n. n + length (filter ok (map (λ k. (Back, k)) U))) (kept_length Front ok (reverse U) ∙ ap length (kept-reverse (adds_at J Front p) U))
    ∙ ap (λ n. length (reverse (additions J Front p)) + n) (kept_length Back ok U)
    ∙ sym (length-append (reverse (additions J Front p)) (additions J Back p))

length-numbers : (k n : ℕ) → length (numbers_from k n) ≡ n
length-numbers k zero = refl
length-numbers k (suc n) = ap suc (length-numbers (k + 1) n)

-- no clause is passed more than once at each place
pub left-few : (J : Journal) (p q : ℕ) → left J p q ≤ 2 * length J - q
unfolding left places
left-few J p q =
    let n : ℕ = length J in
    let few = count_by-le-length (adds_here J p) (map (place n) (numbers_from q (2 * n - q))) in
    let kept = length-filter (adds_here J p) (map (place n) (numbers_from q (2 * n - q))) in
    let all : length (map (place n) (numbers_from q (2 * n - q))) ≡ 2 * n - q = length-map (numbers_from q (2 * n - q)) (place n) ∙ length-numbers q (2 * n - q) in
    omega (arith, few, kept, all)
