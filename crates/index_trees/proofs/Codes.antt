-- The distinct codes are the one ascending list of them.
use Rattle.std.proofs.Common.{◌≡◌, ℕ, zero, suc, ◌<◌, ◌⊎◌, inl, inr, Bool, true, false, cond, ltb, List, [], ◌∷◌, length, get_or, Option, Some, None, arith, refl, sym, ap, ◌∙◌, subst, ⊎_elim}
use Rattle.std.proofs.lemmas.Bool.{ltb-false}
use Rattle.std.proofs.lemmas.List.{get_or_default}
use Rattle.std.specs.List.{filter_map, Contains, cons_option}
use Rattle.index_trees.specs.declared.item.Item.{Item}
use Rattle.index_trees.specs.Items.{code_at}
use Rattle.call_patterns.specs.Size.{insert_code, with_code}
use Rattle.index_trees.specs.Levels.{codes_of}
use borrow.Author.Tests.{ltb-true}

pub here : (x : ℕ) (xs : List ℕ) → Contains (x ∷ xs) x
here x xs = (0, omega arith, refl)

pub there : (x c : ℕ) (xs : List ℕ) → Contains xs c → Contains (x ∷ xs) c
there x c xs (k, lt, e) = (suc k, omega arith, e)

pub which : (x c : ℕ) (xs : List ℕ) → Contains (x ∷ xs) c → (x ≡ c) ⊎ Contains xs c
which x c xs (zero, lt, e) = inl e
which x c xs (suc k, lt, e) = inr (k, omega arith, e)

nothing : (c : ℕ) {P : Type 0} → Contains [] c → P
nothing c (k, lt, e) = absurd (omega arith)

abbrev pub IsUp : List ℕ → Type 0
IsUp [] = Unit {0}
IsUp (x ∷ xs) = ((c : ℕ) → Contains xs c → x < c) × IsUp xs

pub up_from_rising : (xs : List ℕ) → ((i j : ℕ) → i < j → j < length xs → get_or xs i 0 < get_or xs j 0) → IsUp xs
up_from_rising [] h = tt
up_from_rising (x ∷ xs) h = (
  λ c m. let (k, lt, e) = m in
      subst (λ (n : ℕ). x < n) (get_or_default xs k 0 c lt ∙ e) (h 0 (suc k) (omega arith) (omega arith)),
  up_from_rising xs (λ i j lt below. h (suc i) (suc j) (omega arith) (omega arith)),
)

pub same_up : (xs ys : List ℕ) → IsUp xs → IsUp ys → ((c : ℕ) → Contains xs c → Contains ys c) → ((c : ℕ) → Contains ys c → Contains xs c) → xs ≡ ys
same_up [] [] u v f g = refl
same_up [] (y ∷ ys) u v f g = nothing y (g y (here y ys))
same_up (x ∷ xs) [] u v f g = nothing x (f x (here x xs))
same_up (x ∷ xs) (y ∷ ys) u v f g =
    let heads : x ≡ y = ⊎_elim (λ e. sym e)
    (λ in_ys. ⊎_elim (λ e. e) (λ in_xs. let a = v.0 x in_ys in let b = u.0 y in_xs in absurd (omega arith)) (which x y xs (g y (here y ys))))
    (which y x ys (f x (here x xs))) in
    let fs : (c : ℕ) → Contains xs c → Contains ys c = λ c m. ⊎_elim (λ e. let less = u.0 c m in absurd (omega arith)) (λ k. k) (which y c ys (f c (there x c xs m))) in
    let gs : (c : ℕ) → Contains ys c → Contains xs c = λ c m. ⊎_elim (λ e. let less = v.0 c m in absurd (omega arith)) (λ k. k) (which x c xs (g c (there y c ys m))) in
    ap (λ z. z ∷ xs) heads ∙ ap (λ zs. y ∷ zs) (same_up xs ys u.1 v.1 fs gs)

-- ---- one code put in

-- where it goes, by three cases
pub record Put (c : ℕ) (xs out : List ℕ) : Type 0 where
  pub has : Contains out c
  pub keeps : (d : ℕ) → Contains xs d → Contains out d
  pub only : (d : ℕ) → Contains out d → (c ≡ d) ⊎ Contains xs d

third : (c x : ℕ) (xs : List ℕ) (b : Bool) → Put c xs (insert_code c xs) → ltb x c ≡ b → ltb c x ≡ false → Put c (x ∷ xs) (cond b (x ∷ insert_code c xs) (x ∷ xs))
third c x xs true h e f = record {
  has = there x c (insert_code c xs) h.has;
  keeps = λ d m. ⊎_elim (λ same. subst (λ (n : ℕ). Contains (x ∷ insert_code c xs) n) same (here x (insert_code c xs))) (λ k. there x d (insert_code c xs) (h.keeps d k)) (which x d xs m);
  only = λ d m. ⊎_elim (λ same. inr (subst (λ (n : ℕ). Contains (x ∷ xs) n) same (here x xs)))
      (λ k. ⊎_elim (λ s. inl s) (λ q. inr (there x d xs q)) (h.only d k)) (which x d (insert_code c xs) m);
}
third c x xs false h e f =
    let p = ltb-false x c e in
    let q = ltb-false c x f in
    let same : x ≡ c = omega arith in
    record {
      has = subst (λ (n : ℕ). Contains (x ∷ xs) n) same (here x xs);
      keeps = λ d m. m;
      only = λ d m. inr m;
    }

first : (c x : ℕ) (xs : List ℕ) (b : Bool) → Put c xs (insert_code c xs) → ltb c x ≡ b → Put c (x ∷ xs) (cond b (c ∷ x ∷ xs) (cond (ltb x c) (x ∷ insert_code c xs) (x ∷ xs)))
first c x xs true h e = record { has = here c (x ∷ xs); keeps = λ d m. there c d (x ∷ xs) m; only = λ d m. which c d (x ∷ xs) m }
first c x xs false h e = third c x xs (ltb x c) h refl e

pub put_in : (c : ℕ) (xs : List ℕ) → Put c xs (insert_code c xs)
put_in c [] = record { has = here c []; keeps = λ d m. nothing d m; only = λ d m. which c d [] m }
put_in c (x ∷ xs) = first c x xs (ltb c x) (put_in c xs) refl

up_third : (c x : ℕ) (xs : List ℕ) (b : Bool) → IsUp (insert_code c xs) → IsUp (x ∷ xs) → ltb x c ≡ b → IsUp (cond b (x ∷ insert_code c xs) (x ∷ xs))
up_third c x xs true h u e =
    (λ d m. ⊎_elim (λ same. let lt = ltb-true x c e in omega arith) (λ k. u.0 d k) ((put_in c xs).only d m), h)
up_third c x xs false h u e = u

up_first : (c x : ℕ) (xs : List ℕ) (b : Bool) → IsUp (insert_code c xs) → IsUp (x ∷ xs) → ltb c x ≡ b → IsUp (cond b (c ∷ x ∷ xs) (cond (ltb x c) (x ∷ insert_code c xs) (x ∷ xs)))
up_first c x xs true h u e =
    let lt = ltb-true c x e in
    (λ d m. ⊎_elim (λ same. omega arith) (λ k. let more = u.0 d k in omega arith) (which x d xs m), u)
up_first c x xs false h u e = up_third c x xs (ltb x c) h u refl

pub insert_up : (c : ℕ) (xs : List ℕ) → IsUp xs → IsUp (insert_code c xs)
insert_up c [] u = (λ d m. nothing d m, tt)
insert_up c (x ∷ xs) u = up_first c x xs (ltb c x) (insert_up c xs u.1) u refl

-- ---- all codes

with_up : (o : Option ℕ) (cs : List ℕ) → IsUp cs → IsUp (with_code o cs)
with_up None cs u = u
with_up (Some c) cs u = insert_up c cs u

pub codes_up : (level : ℕ) (items : List Item) → IsUp (codes_of level items)
unfolding codes_of
codes_up level [] = tt
codes_up level (it ∷ its) = with_up (code_at level it) (codes_of level its) (codes_up level its)

with_has : (o : Option ℕ) (cs ds : List ℕ) → ((c : ℕ) → Contains ds c → Contains cs c) → (c : ℕ) → Contains (cons_option o ds) c → Contains (with_code o cs) c
with_has None cs ds f c m = f c m
with_has (Some x) cs ds f c m =
    let p = put_in x cs in
    ⊎_elim (λ same. subst (λ (n : ℕ). Contains (insert_code x cs) n) same p.has) (λ k. p.keeps c (f c k)) (which x c ds m)

with_only : (o : Option ℕ) (cs ds : List ℕ) → ((c : ℕ) → Contains cs c → Contains ds c) → (c : ℕ) → Contains (with_code o cs) c → Contains (cons_option o ds) c
with_only None cs ds f c m = f c m
with_only (Some x) cs ds f c m =
    ⊎_elim (λ same. subst (λ (n : ℕ). Contains (x ∷ ds) n) same (here x ds)) (λ k. there x c ds (f c k)) ((put_in x cs).only c m)

pub codes_has : (level : ℕ) (items : List Item) (c : ℕ) → Contains (filter_map (code_at level) items) c → Contains (codes_of level items) c
unfolding codes_of
codes_has level [] c m = m
codes_has level (it ∷ its) c m = with_has (code_at level it) (codes_of level its) (filter_map (code_at level) its) (λ d k. codes_has level its d k) c m

pub codes_only : (level : ℕ) (items : List Item) (c : ℕ) → Contains (codes_of level items) c → Contains (filter_map (code_at level) items) c
unfolding codes_of
codes_only level [] c m = m
codes_only level (it ∷ its) c m = with_only (code_at level it) (codes_of level its) (filter_map (code_at level) its) (λ d k. codes_only level its d k) c m

-- an ascending list of just these codes is that list
pub codes_are : (level : ℕ) (items : List Item) (codes : List ℕ) → ((i j : ℕ) → i < j → j < length codes → get_or codes i 0 < get_or codes j 0)
    → ((c : ℕ) → Contains (filter_map (code_at level) items) c → Contains codes c) → ((c : ℕ) → Contains codes c → Contains (filter_map (code_at level) items) c)
    → codes ≡ codes_of level items
codes_are level items codes up has only =
    same_up codes (codes_of level items) (up_from_rising codes up) (codes_up level items)
    (λ c m. codes_has level items c (only c m)) (λ c m. has c (codes_only level items c m))
