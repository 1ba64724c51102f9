-- The clause of a term is the only one that is the term with other numbers for its variables.
use Rattle.std.proofs.Common.{◌≡◌, ℕ, ◌+◌, ◌<◌, ◌≤◌, List, [], ◌∷◌, ◌++◌, Bool, true, false, ◌||◌, nat_eq, nat_lt, ◌⊎◌, inl, inr, if◌then◌else◌, length, Option, None, Some, refl, sym, ap, ◌∙◌, subst, length-append, arith}
use Rattle.std.specs.Prelude.{option_and_then}
use Rattle.std.specs.List.{list_any}
use Rattle.std.proofs.lemmas.Bool.{eqb-true, eqb-false, eq-eqb, ltb-true, or_left, or_right, true≢false}
use Rattle.prolog_terms.specs.Tree.{Tree, Trees, variable, integer, atom, compound, none, more}
use Rattle.prolog_terms.specs.Variables.{met_after, all_met_after, AreNumbered}
use Rattle.prolog_terms.specs.Clauses.{IsClause, body_of}
use Rattle.prolog_terms.specs.declared.entry.Clause.{Clause}
use Rattle.prolog_clauses.specs.Renaming.{renamed, all_renamed, occurs, occurs_in_some, with_variable, variables_after, all_variables_after, place_of}
use Rattle.prolog_clauses.specs.Formed.{Parts, rule, parts_of, variables_of, number_in, numbered, clause_of, OccursIn, IsRenaming}
use Rattle.prolog_clauses.specs.declared.clause.Formed.TheVariants.{Clause as Made}
use Rattle.prolog_clauses.proofs.Laws.{place_within, met_in_parts, made_head, made_body, Renames, renames}

-- the numbers of a list's variables go up from k
abbrev Counts : (ℕ → ℕ) → ℕ → List ℕ → Type 0
Counts g k [] = Unit {0}
Counts g k (x ∷ xs) = (g x ≡ k) × Counts g (k + 1) xs

-- the variables of a list are numbered by place, and stand in the parts
record Known (p : Parts) (g : ℕ → ℕ) (met : List ℕ) : Type 0 where
  counts : Counts g 0 met
  parts : (x : ℕ) → list_any (nat_eq x) met ≡ true → OccursIn x p

abbrev IsOneToOne : Parts → (ℕ → ℕ) → Type 0
IsOneToOne p g = (v w : ℕ) → OccursIn v p → OccursIn w p → g v ≡ g w → v ≡ w

some_same : (m n : ℕ) → Some m ≡ Some n → m ≡ n
some_same m n e = cc

or_elim : {A : Type 0} (x y : Bool) → (x ≡ true → A) → (y ≡ true → A) → (x || y) ≡ true → A
or_elim true y f g e = f refl
or_elim false y f g e = g e

-- ---- what such a list says

abbrev Numbered : (ℕ → ℕ) → List ℕ → ℕ → Type 0
Numbered g met q = (x : ℕ) × ((list_any (nat_eq x) met ≡ true) × (g x ≡ q))

below_at : (g : ℕ → ℕ) (k q x : ℕ) (xs : List ℕ) (b : Bool) → nat_eq k q ≡ b → g x ≡ k → (k + 1 ≤ q → Numbered g xs q) → k ≤ q → Numbered g (x ∷ xs) q
below_at g k q x xs true e h later low = (x, (or_left (nat_eq x x) (list_any (nat_eq x) xs) (eq-eqb x x refl), h ∙ eqb-true k q e))
below_at g k q x xs false e h later low =
    let l = later (omega (arith, eqb-false k q e)) in
    (l.0, (or_right (nat_eq l.0 x) (list_any (nat_eq l.0) xs) l.1.0, l.1.1))

below : (g : ℕ → ℕ) (k q : ℕ) (met : List ℕ) → Counts g k met → k ≤ q → q < k + length met → Numbered g met q
below g k q [] h low high = absurd (omega arith)
below g k q (x ∷ xs) h low high = below_at g k q x xs (nat_eq k q) refl h.0 (λ l. below g (k + 1) q xs h.1 l (omega arith)) low

place_at : (g : ℕ → ℕ) (k v m : ℕ) (ms : List ℕ) (b : Bool) → nat_eq v m ≡ b → g m ≡ k → (list_any (nat_eq v) ms ≡ true → g v ≡ k + 1 + place_of v ms) → (b || list_any (nat_eq v) ms) ≡ true
    → g v ≡ k + (if b then 0 else 1 + place_of v ms)
place_at g k v m ms true e h later any = ap g (eqb-true v m e) ∙ (h ∙ omega arith)
place_at g k v m ms false e h later any = later any ∙ omega arith

place_counts : (g : ℕ → ℕ) (k v : ℕ) (met : List ℕ) → Counts g k met → list_any (nat_eq v) met ≡ true → g v ≡ k + place_of v met
place_counts g k v [] h any = absurd (true≢false (sym any))
place_counts g k v (m ∷ ms) h any = place_at g k v m ms (nat_eq v m) refl h.0 (place_counts g (k + 1) v ms h.1) any

push_counts : (g : ℕ → ℕ) (k n : ℕ) (met : List ℕ) → Counts g k met → g n ≡ k + length met → Counts g k (met ++ n ∷ [])
push_counts g k n [] h e = (e ∙ omega arith, tt)
push_counts g k n (x ∷ xs) h e = (h.0, push_counts g (k + 1) n xs h.1 (e ∙ omega arith))

any_push : (P : ℕ → Type 0) (x n : ℕ) (met : List ℕ) → (list_any (nat_eq x) met ≡ true → P x) → P n → list_any (nat_eq x) (met ++ n ∷ []) ≡ true → P x
any_push P x n [] f q e = or_elim (nat_eq x n) false (λ h. subst P (sym (eqb-true x n h)) q) f e
any_push P x n (m ∷ ms) f q e =
    or_elim (nat_eq x m) (list_any (nat_eq x) (ms ++ n ∷ [])) (λ h. f (or_left (nat_eq x m) (list_any (nat_eq x) ms) h))
    (any_push P x n ms (λ h. f (or_right (nat_eq x m) (list_any (nat_eq x) ms) h)) q) e

-- ---- one variable more

met_split : (q n k : ℕ) (b c : Bool) → nat_lt q n ≡ b → nat_eq q n ≡ c → (if b then Some n else (if c then Some (n + 1) else None)) ≡ Some k → ((q < n) × (k ≡ n)) ⊎ ((q ≡ n) × (k ≡ n + 1))
met_split q n k true c l e f = inl (ltb-true q n l, sym (some_same n k f))
met_split q n k false true l e f = inr (eqb-true q n e, sym (some_same (n + 1) k f))
met_split q n k false false l e f = absurd cc

abbrev Goes : Parts → (ℕ → ℕ) → ℕ → List ℕ → Type 0
Goes p g k met = (k ≡ length met) × Known p g met

chosen : (p : Parts) (g : ℕ → ℕ) (n k : ℕ) (met : List ℕ) (b : Bool) → list_any (nat_eq n) met ≡ b → Goes p g k (if b then met else met ++ n ∷ []) → Goes p g k (with_variable met n)
chosen p g n k met b e h = subst (λ c. Goes p g k (if c then met else met ++ n ∷ [])) (sym e) h

known_old : (p : Parts) (g : ℕ → ℕ) → IsOneToOne p g → (n k : ℕ) (met : List ℕ) → Known p g met → OccursIn n p → g n < length met → k ≡ length met → Goes p g k (with_variable met n)
known_old p g one n k met h o l e =
    let x = below g 0 (g n) met h.counts (omega arith) (omega (arith, l)) in
    let same : x.0 ≡ n = one x.0 n (h.parts x.0 x.1.0) o x.1.1 in
    chosen p g n k met true (subst (λ m. list_any (nat_eq m) met ≡ true) same x.1.0) (e, h)

known_push : (p : Parts) (g : ℕ → ℕ) (n k : ℕ) (met : List ℕ) (b : Bool) → list_any (nat_eq n) met ≡ b → Known p g met → OccursIn n p → g n ≡ length met → k ≡ length met + 1 → Goes p g k (if b then met else met ++ n ∷ [])
known_push p g n k met true any h o e f = absurd (omega (arith, place_counts g 0 n met h.counts any, place_within n met any, e))
known_push p g n k met false any h o e f =
    (f ∙ sym (length-append met (n ∷ [])), record { counts = push_counts g 0 n met h.counts (e ∙ omega arith); parts = λ x. any_push (λ y. OccursIn y p) x n met (h.parts x) o })

known_variable : (p : Parts) (g : ℕ → ℕ) → IsOneToOne p g → (n k : ℕ) (met : List ℕ) → Known p g met → OccursIn n p → met_after (variable (g n)) (length met) ≡ Some k → Goes p g k (with_variable met n)
known_variable p g one n k met h o e =
    elim (met_split (g n) (length met) k (nat_lt (g n) (length met)) (nat_eq (g n) (length met)) refl refl e) [
      | inl l ↦ known_old p g one n k met h o l.0 l.1
      | inr r ↦ known_push p g n k met (list_any (nat_eq n) met) refl h o r.0 r.1
    ]

-- ---- a term more

then_parts : (f : ℕ → Option ℕ) (o : Option ℕ) (k : ℕ) → option_and_then f o ≡ Some k → (j : ℕ) × ((o ≡ Some j) × (f j ≡ Some k))
then_parts f None k e = absurd cc
then_parts f (Some j) k e = (j, (refl, e))

mutual
  known_tree : (p : Parts) (g : ℕ → ℕ) → IsOneToOne p g → (t : Tree) (k : ℕ) (met : List ℕ) → Known p g met → ((v : ℕ) → occurs v t ≡ true → OccursIn v p)
      → met_after (renamed g t) (length met) ≡ Some k → Goes p g k (variables_after met t)
  known_tree p g one (variable n) k met h o e = known_variable p g one n k met h (o n (eq-eqb n n refl)) e
  known_tree p g one (integer z) k met h o e = (sym (some_same (length met) k e), h)
  known_tree p g one (atom a) k met h o e = (sym (some_same (length met) k e), h)
  known_tree p g one (compound f ts) k met h o e = known_trees p g one ts k met h o e

  known_trees : (p : Parts) (g : ℕ → ℕ) → IsOneToOne p g → (ts : Trees) (k : ℕ) (met : List ℕ) → Known p g met → ((v : ℕ) → occurs_in_some v ts ≡ true → OccursIn v p)
      → all_met_after (all_renamed g ts) (length met) ≡ Some k → Goes p g k (all_variables_after met ts)
  known_trees p g one none k met h o e = (sym (some_same (length met) k e), h)
  known_trees p g one (more t ts) k met h o e =
      let x = then_parts (all_met_after (all_renamed g ts)) (met_after (renamed g t) (length met)) k e in
      let first = known_tree p g one t x.0 met h (λ v q. o v (or_left (occurs v t) (occurs_in_some v ts) q)) x.1.0 in
      known_trees p g one ts k (variables_after met t) first.1 (λ v q. o v (or_right (occurs v t) (occurs_in_some v ts) q)) (ap (all_met_after (all_renamed g ts)) (sym first.0) ∙ x.1.1)

known_parts : (p : Parts) (g : ℕ → ℕ) → IsOneToOne p g → (k : ℕ) → AreNumbered (renamed g p.head) (renamed g p.body) k → Goes p g k (variables_of p)
known_parts p g one k e =
    let x = then_parts (met_after (renamed g p.body)) (met_after (renamed g p.head) 0) k e in
    let first = known_tree p g one p.head x.0 [] (record { counts = tt; parts = λ v any. absurd (true≢false (sym any)) }) (λ v q. or_left (occurs v p.head) (occurs v p.body) q) x.1.0 in
    known_tree p g one p.body k (variables_after [] p.head) first.1 (λ v q. or_right (occurs v p.head) (occurs v p.body) q) (ap (met_after (renamed g p.body)) (sym first.0) ∙ x.1.1)

-- ---- numbers that agree where a variable stands make the same term

mutual
  renamed_alike : (f g : ℕ → ℕ) (t : Tree) → ((v : ℕ) → occurs v t ≡ true → f v ≡ g v) → renamed f t ≡ renamed g t
  renamed_alike f g (variable n) h = ap variable (h n (eq-eqb n n refl))
  renamed_alike f g (integer z) h = refl
  renamed_alike f g (atom a) h = refl
  renamed_alike f g (compound c ts) h = ap (compound c) (all_renamed_alike f g ts h)

  all_renamed_alike : (f g : ℕ → ℕ) (ts : Trees) → ((v : ℕ) → occurs_in_some v ts ≡ true → f v ≡ g v) → all_renamed f ts ≡ all_renamed g ts
  all_renamed_alike f g none h = refl
  all_renamed_alike f g (more t ts) h =
      ap (λ u. more u (all_renamed f ts)) (renamed_alike f g t (λ v q. h v (or_left (occurs v t) (occurs_in_some v ts) q)))
      ∙ ap (more (renamed g t)) (all_renamed_alike f g ts (λ v q. h v (or_right (occurs v t) (occurs_in_some v ts) q)))

numbered_only : (p : Parts) (d : Clause) → IsClause d → Renames p d → d ≡ numbered p
numbered_only p d h r =
    let g = r.number in
    let n : AreNumbered (renamed g p.head) (renamed g p.body) d.vars = subst (λ t. AreNumbered (renamed g p.head) t d.vars) r.body (subst (λ t. AreNumbered t d.body d.vars) r.head h.numbered) in
    let k = known_parts p g r.one_to_one d.vars n in
    let alike : (v : ℕ) → OccursIn v p → g v ≡ number_in p v = λ v o. place_counts g 0 v (variables_of p) k.1.counts (met_in_parts v p o) ∙ omega arith in
    let head = r.head ∙ renamed_alike g (number_in p) p.head (λ v q. alike v (or_left (occurs v p.head) (occurs v p.body) q)) in
    let body = r.body ∙ renamed_alike g (number_in p) p.body (λ v q. alike v (or_right (occurs v p.head) (occurs v p.body) q)) in
    let vars = k.0 in
    λ i. record { head = head i; body = body i; vars = vars i }

pub made_only : (t : Tree) (c d : Clause) → clause_of t ≡ Made c → IsClause d → IsRenaming (parts_of t) d → d ≡ c
made_only t c d e h r =
    let p = parts_of t in
    let m = made_body p (body_of p.body) c (made_head p.head p c e).1 in
    numbered_only (rule p.head m.0) d h (renames p m.0 d m.1.0 r) ∙ sym m.1.1
