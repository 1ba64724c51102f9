-- A clause that could match the goal is in the bucket of the goal's codes, since keys that agree have one code.
use Rattle.std.proofs.Common.{◌≡◌, ℕ, zero, suc, Bool, true, false, cond, List, [], ◌∷◌, take, map, Option, Some, None, refl, sym, ap, ◌∙◌, eq-eqb}
use Rattle.std.specs.Prelude.{◌&&◌, slice_get, option_map, option_and_then}
use Rattle.std.specs.Cmp.Lexicographic.{pointwise}
use Rattle.std.specs.List.{filter}
use Rattle.std.specs.Option.{option_map_or, is_some}
use Rattle.prolog_terms.specs.declared.entry.Clause.{Clause}
use Rattle.call_patterns.specs.Keys.{Key, GoalKeys, keys, keys_agree, could_match}
use Rattle.journals.specs.Journal.{Journal, alive, clause_named}
use Rattle.call_patterns.specs.Candidates.{head_agrees, candidates}
use Rattle.call_patterns.specs.declared.row.Row.{Row}
use Rattle.call_patterns.specs.Codes.{key_code, codes}
use Rattle.call_patterns.specs.Patterns.{argument_positions, has_key, key_in, pattern, pattern_codes}
use Rattle.call_patterns.specs.Rows.{agrees, bucket, fits, fits_all, head_codes, names, row_of, rows}
use Rattle.call_patterns.proofs.SameKeys.{both, same_keys}

-- what the goal has at a position, against what the head has there
agree_at : (h : List (Option Key)) (g : GoalKeys) (i : ℕ) (k : Key) → pointwise keys_agree h g ≡ true → slice_get g i ≡ Some (Some k)
    → agrees (key_code k) (option_and_then (λ c. c) (slice_get (map (option_map key_code) h) i)) ≡ true
agree_at [] g i k e is = refl
agree_at (x ∷ xs) [] i k e is = absurd (cc)
agree_at (x ∷ xs) (y ∷ ys) zero k e is = here x y (both (keys_agree x y) (pointwise keys_agree xs ys) e).0 is
  where
    here : (a b : Option Key) → keys_agree a b ≡ true → Some b ≡ Some (Some k) → agrees (key_code k) (option_and_then (λ c. c) (Some (option_map key_code a))) ≡ true
    here None b e is = refl
    here (Some a) None e is = absurd (cc)
    here (Some a) (Some b) e is =
        let same : b ≡ k = cc in
        let one : a ≡ k = same_keys a b e ∙ same in
        eq-eqb (key_code a) (key_code k) (ap key_code one)
agree_at (x ∷ xs) (y ∷ ys) (suc i) k e is = agree_at xs ys i k (both (keys_agree x y) (pointwise keys_agree xs ys) e).1 is

-- the code of the goal at a position
abbrev code_in : GoalKeys → ℕ → ℕ
code_in g i = option_map_or key_code (key_in g i) 0

fits_at_one : (o : Option Clause) (name : ℕ) (g : GoalKeys) (i : ℕ) → head_agrees g o ≡ true → has_key g i ≡ true
    → fits i (code_in g i) (record { clause = name; codes = head_codes o }) ≡ true
unfolding could_match codes
fits_at_one None name g i h some = absurd (cc)
fits_at_one (Some c) name g i h some = at (slice_get g i) refl
  where
    at : (o : Option (Option Key)) → slice_get g i ≡ o → fits i (code_in g i) (record { clause = name; codes = head_codes (Some c) }) ≡ true
    at None e = absurd (let z : is_some (option_and_then (λ (q : Option Key). q) None) ≡ true = ap (λ o. is_some (option_and_then (λ (q : Option Key). q) o)) (sym e) ∙ some in cc)
    at (Some None) e = absurd (let z : is_some (option_and_then (λ (q : Option Key). q) (Some None)) ≡ true = ap (λ o. is_some (option_and_then (λ (q : Option Key). q) o)) (sym e) ∙ some in cc)
    at (Some (Some key)) e =
        ap (λ o. agrees (option_map_or key_code (option_and_then (λ (q : Option Key). q) o) 0) (option_and_then (λ c. c) (slice_get (head_codes (Some c)) i))) e
        ∙ agree_at (keys c.head) g i key h e

fits_positions : (o : Option Clause) (name : ℕ) (g : GoalKeys) (is : List ℕ) → head_agrees g o ≡ true
    → fits_all (filter (has_key g) is) (map (code_in g) (filter (has_key g) is)) (record { clause = name; codes = head_codes o }) ≡ true
fits_positions o name g [] h = refl
fits_positions o name g (i ∷ is) h = one (has_key g i) refl (fits_positions o name g is h)
  where
    one : (b : Bool) → has_key g i ≡ b
        → fits_all (filter (has_key g) is) (map (code_in g) (filter (has_key g) is)) (record { clause = name; codes = head_codes o }) ≡ true
        → fits_all (cond b (i ∷ filter (has_key g) is) (filter (has_key g) is)) (map (code_in g) (cond b (i ∷ filter (has_key g) is) (filter (has_key g) is)))
        (record { clause = name; codes = head_codes o }) ≡ true
    one true e rest =
        ap (λ t. t && fits_all (filter (has_key g) is) (map (code_in g) (filter (has_key g) is)) (record { clause = name; codes = head_codes o })) (fits_at_one o name g i h e) ∙ rest
    one false e rest = rest

-- fewer positions ask less
fewer : (n : ℕ) (f : ℕ → ℕ) (ps : List ℕ) (r : Row) → fits_all ps (map f ps) r ≡ true → fits_all (take n ps) (map f (take n ps)) r ≡ true
fewer zero f ps r h = refl
fewer (suc n) f [] r h = refl
fewer (suc n) f (p ∷ ps) r h =
    let b = both (fits p (f p) r) (fits_all ps (map f ps) r) h in
    ap (λ t. t && fits_all (take n ps) (map f (take n ps)) r) b.0 ∙ fewer n f ps r b.1

pub fits_pattern : (J : Journal) (k : ℕ) (g : GoalKeys) → head_agrees g (clause_named J k) ≡ true → fits_all (pattern g) (pattern_codes g) (row_of J k) ≡ true
unfolding pattern pattern_codes
fits_pattern J k g h = fewer 3 (code_in g) (filter (has_key g) argument_positions) (row_of J k) (fits_positions (clause_named J k) k g argument_positions h)

named_rows : (t : Row → Bool) (f : ℕ → Row) (xs : List ℕ) → ((k : ℕ) → (f k).clause ≡ k) → names (filter t (map f xs)) ≡ filter (λ k. t (f k)) xs
named_rows t f [] e = refl
named_rows t f (x ∷ xs) e = one (t (f x)) (named_rows t f xs e)
  where
    one : (b : Bool) → names (filter t (map f xs)) ≡ filter (λ k. t (f k)) xs
        → names (cond b (f x ∷ filter t (map f xs)) (filter t (map f xs))) ≡ cond b (x ∷ filter (λ k. t (f k)) xs) (filter (λ k. t (f k)) xs)
    one true h = ap (λ ys. (f x).clause ∷ ys) h ∙ ap (λ c. c ∷ filter (λ k. t (f k)) xs) (e x)
    one false h = h

-- what passes p passes q, so q may be asked first
filter_first : (p q : ℕ → Bool) (xs : List ℕ) → ((k : ℕ) → p k ≡ true → q k ≡ true) → filter p xs ≡ filter p (filter q xs)
filter_first p q [] f = refl
filter_first p q (x ∷ xs) f = one (q x) (p x) refl refl (filter_first p q xs f)
  where
    one : (b c : Bool) → q x ≡ b → p x ≡ c → filter p xs ≡ filter p (filter q xs) → cond c (x ∷ filter p xs) (filter p xs) ≡ filter p (cond b (x ∷ filter q xs) (filter q xs))
    one true c e d h = ap (λ t. cond t (x ∷ filter p xs) (filter p xs)) (sym d) ∙ ap (λ ys. cond (p x) (x ∷ ys) ys) h
    one false true e d h = absurd (let z : false ≡ true = sym e ∙ f x d in cc)
    one false false e d h = h

-- the candidates are those of the bucket whose heads could match
pub candidates_in_bucket : (J : Journal) (p : ℕ) (g : GoalKeys)
    → candidates J p g ≡ filter (λ k. head_agrees g (clause_named J k)) (names (bucket (rows J p) (pattern g) (pattern_codes g)))
unfolding bucket
candidates_in_bucket J p g =
    let hit : ℕ → Bool = λ k. head_agrees g (clause_named J k) in
    filter_first (λ k. head_agrees g (clause_named J k)) (λ k. fits_all (pattern g) (pattern_codes g) (row_of J k)) (alive J p) (λ k h. fits_pattern J k g h)
    ∙ ap (filter (λ k. head_agrees g (clause_named J k))) (sym (named_rows (fits_all (pattern g) (pattern_codes g)) (row_of J) (alive J p) (λ k. refl)))

-- where the goal has no key at an argument, each clause agrees
pub all_agree : (J : Journal) (p : ℕ) (g : GoalKeys) → pattern g ≡ [] → names (bucket (rows J p) (pattern g) (pattern_codes g)) ≡ alive J p
unfolding bucket
all_agree J p g e =
    ap (λ ps. names (filter (fits_all ps (pattern_codes g)) (rows J p))) e ∙ named_rows (fits_all [] (pattern_codes g)) (row_of J) (alive J p) (λ k. refl) ∙ every (alive J p)
  where
    every : (xs : List ℕ) → filter (λ k. fits_all [] (pattern_codes g) (row_of J k)) xs ≡ xs
    every [] = refl
    every (x ∷ xs) = ap (λ ys. x ∷ ys) (every xs)
