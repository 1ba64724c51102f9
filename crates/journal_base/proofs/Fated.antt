-- What becomes of clauses as entries are added.
use Rattle.std.proofs.Common.{◌≡◌, ◌≢◌, ℕ, suc, zero, ◌+◌, ◌<◌, ◌≤◌, ◌⊎◌, inl, inr, List, [], ◌∷◌, ◌++◌, length, length-append, take, drop, set, get_or, Bool, true, false, ◌||◌, Option, Some, None, slice_get, refl, sym, ap, ◌∙◌, arith, subst}
use Rattle.std.specs.Prelude.{IsSome, nat_lt, option_and_then}
use Rattle.std.proofs.lemmas.Bool.{cases_lt, or_parts, lt-ltb, le-ltb, eq-eqb, ne_eqb}
use Rattle.std.proofs.lemmas.List.{take_all, take-append-le, take-append-drop, length-set}
use Rattle.std.proofs.lemmas.List.Folds.{list_any-append, list_any_more}
use Rattle.std.proofs.lemmas.List.Sums.{sum_by_push, sum_by-set, get_or-le-sum_by}
use Rattle.std.proofs.lemmas.Option.{slice_get_within, slice_get_past, slice_get-get_or, get_or_from_slice_get}
use Rattle.prolog_terms.specs.declared.entry.Entry.{Entry}
use Rattle.prolog_terms.specs.declared.entry.What.TheVariants.{Erase}
use Rattle.journals.specs.Journal.{Journal, is_erased, erases, added, clause_named}
use Rattle.journal_base.specs.Fates.{AreFates, AreToldBy, is_gone_by, is_alive, alive_in}
use Rattle.journal_base.specs.declared.fate.Fate.{Fate}
use Rattle.journal_base.specs.declared.fate.Fate.TheVariants.{NoClause, Alive, ErasedBy}

-- ---- lists

or-false : (b : Bool) → (b || false) ≡ b
or-false true = refl
or-false false = refl

-- an element of a list and one more is an element of the list, or the last
either_of : {X : Type 0} (xs : List X) (x y : X) (k : ℕ) → slice_get (xs ++ x ∷ []) k ≡ Some y → (slice_get xs k ≡ Some y) ⊎ ((k ≡ length xs) × (y ≡ x))
either_of [] x y zero h = inr (refl, cc)
either_of [] x y (suc k) h = absurd (cc)
either_of (z ∷ xs) x y zero h = inl h
either_of (z ∷ xs) x y (suc k) h = further (either_of xs x y k h)
  where
    further : (slice_get xs k ≡ Some y) ⊎ ((k ≡ length xs) × (y ≡ x)) → (slice_get (z ∷ xs) (suc k) ≡ Some y) ⊎ ((suc k ≡ length (z ∷ xs)) × (y ≡ x))
    further (inl p) = inl p
    further (inr p) = inr (ap suc p.0, p.1)

kept-get : {X : Type 0} (xs : List X) (x : X) (k : ℕ) → k < length xs → slice_get (xs ++ x ∷ []) k ≡ slice_get xs k
kept-get [] x k h = absurd (omega arith)
kept-get (y ∷ xs) x zero h = refl
kept-get (y ∷ xs) x (suc k) h = let le : k < length xs = omega arith in kept-get xs x k le

last-get : {X : Type 0} (xs : List X) (x : X) → slice_get (xs ++ x ∷ []) (length xs) ≡ Some x
last-get [] x = refl
last-get (y ∷ xs) x = last-get xs x

set-get : {X : Type 0} (xs : List X) (v y : X) (i j : ℕ) → i < length xs → slice_get (set xs i v) j ≡ Some y → ((j ≡ i) × (y ≡ v)) ⊎ ((j ≢ i) × (slice_get xs j ≡ Some y))
set-get [] v y i j h at = absurd (omega arith)
set-get (x ∷ xs) v y zero zero h at = inl (refl, cc)
set-get (x ∷ xs) v y zero (suc j) h at = inr ((λ e. absurd (omega arith)), at)
set-get (x ∷ xs) v y (suc i) zero h at = inr ((λ e. absurd (omega arith)), at)
set-get (x ∷ xs) v y (suc i) (suc j) h at = further (set-get xs v y i j (let le : i < length xs = omega arith in le) at)
  where
    further : ((j ≡ i) × (y ≡ v)) ⊎ ((j ≢ i) × (slice_get xs j ≡ Some y)) → ((suc j ≡ suc i) × (y ≡ v)) ⊎ ((suc j ≢ suc i) × (slice_get (x ∷ xs) (suc j) ≡ Some y))
    further (inl p) = inl (ap suc p.0, p.1)
    further (inr p) = inr ((λ e. p.0 (omega arith)), p.1)

past : {X : Type 0} (xs : List X) (k : ℕ) → slice_get xs k ≡ None → length xs ≤ k
past [] k h = omega arith
past (x ∷ xs) zero h = absurd cc
past (x ∷ xs) (suc k) h = let le = past xs k h in omega (arith, le)

-- ---- erasures

erased-push : (J : Journal) (e : Entry) (k : ℕ) → is_erased (J ++ e ∷ []) k ≡ (is_erased J k || erases k e.what)
erased-push J e k = list_any-append (λ (x : Entry). erases k x.what) J (e ∷ []) ∙ ap (λ b. is_erased J k || b) (or-false (erases k e.what))

-- an entry that doesn't erase the clause changes nothing, at any front
passed : (J : Journal) (e : Entry) (k front : ℕ) → erases k e.what ≡ false → is_erased (take front (J ++ e ∷ [])) k ≡ is_erased (take front J) k
passed J e k front spared = go (cases_lt (length J) front)
  where
    go : (length J < front) ⊎ (front ≤ length J) → is_erased (take front (J ++ e ∷ [])) k ≡ is_erased (take front J) k
    go (inl past) =
        ap (λ (l : Journal). is_erased l k) (take_all front (J ++ e ∷ []) (omega (arith, length-append J (e ∷ [])))) ∙ erased-push J e k ∙ ap (λ b. is_erased J k || b) spared ∙ or-false (is_erased J k)
        ∙ sym (ap (λ (l : Journal). is_erased l k) (take_all front J (omega arith)))
    go (inr within) = ap (λ (l : Journal). is_erased l k) (take-append-le front J (e ∷ []) within)

-- the entry that erases the clause: it is erased from there on
erased_there : (J : Journal) (e : Entry) (k front : ℕ) → erases k e.what ≡ true → ((f : ℕ) → is_erased (take f J) k ≡ false)
    → is_erased (take front (J ++ e ∷ [])) k ≡ nat_lt (length J) front
erased_there J e k front hit before = go (cases_lt (length J) front)
  where
    whole : is_erased J k ≡ false
    whole = sym (ap (λ (l : Journal). is_erased l k) (take_all (length J) J (omega arith))) ∙ before (length J)

    go : (length J < front) ⊎ (front ≤ length J) → is_erased (take front (J ++ e ∷ [])) k ≡ nat_lt (length J) front
    go (inl past) =
        ap (λ (l : Journal). is_erased l k) (take_all front (J ++ e ∷ []) (omega (arith, length-append J (e ∷ [])))) ∙ erased-push J e k ∙ ap (λ b. b || erases k e.what) whole ∙ hit
        ∙ sym (lt-ltb (length J) front past)
    go (inr within) = ap (λ (l : Journal). is_erased l k) (take-append-le front J (e ∷ []) within) ∙ before front ∙ sym (le-ltb (length J) front within)

-- what no entry erases, no entry of a front erases
front_erases : (J : Journal) (k front : ℕ) → is_erased J k ≡ false → is_erased (take front J) k ≡ false
front_erases J k front h =
    let cut : is_erased (take front J ++ drop front J) k ≡ false = ap (λ (l : Journal). is_erased l k) (take-append-drop front J) ∙ h in
    (or_parts (is_erased (take front J) k) (is_erased (drop front J) k) (sym (list_any-append (λ (x : Entry). erases k x.what) (take front J) (drop front J)) ∙ cut)).0

named-push : (J : Journal) (e : Entry) (k : ℕ) → k < length J → clause_named (J ++ e ∷ []) k ≡ clause_named J k
named-push J e k lt = ap (option_and_then (λ (x : Entry). added x.what)) (kept-get J e k lt)

named-last : (J : Journal) (e : Entry) → clause_named (J ++ e ∷ []) (length J) ≡ added e.what
named-last J e = ap (option_and_then (λ (x : Entry). added x.what)) (last-get J e)

pub told_whole : (J s : Journal) (fates : List Fate) → AreFates J fates → s ≡ J → AreToldBy s fates
told_whole J s fates h is = subst (λ (l : Journal). AreToldBy l fates) (sym is) (record {
  long = omega (arith, h.long);
  told = λ k x at. ap (λ (l : Journal). is_erased l k) (sym (take_all (length J) J (omega arith))) ∙ h.told (length J) k x at;
})

-- ---- fates

pub fates-nil : AreFates [] []
fates-nil = record { long = refl; told = λ front k x at. absurd cc; no_clause = λ k at. refl; later = λ k le. refl }

module _ (J : Journal) (fs : List Fate) (h : AreFates J fs) where
  get_within : (k : ℕ) (x : Fate) → slice_get fs k ≡ Some x → k < length J
  get_within k x at = let lt = slice_get_within fs k x at in omega (arith, lt, h.long)

  -- no entry erases the clause of the next entry
  next_spared : (front : ℕ) → is_erased (take front J) (length J) ≡ false
  next_spared front = front_erases J (length J) front (h.later (length J) (omega arith))

  -- an entry that erases nothing, with the fate of a clause that is not erased or of no clause
  pub fates-push : (e : Entry) (x : Fate) → ((k : ℕ) → erases k e.what ≡ false) → ((front : ℕ) → is_gone_by x front ≡ false) → (x ≡ NoClause → added e.what ≡ None)
      → AreFates (J ++ e ∷ []) (fs ++ x ∷ [])
  fates-push e x spared here none = record {
    long = omega (arith, h.long, length-append J (e ∷ []), length-append fs (x ∷ []));
    told = λ front k y at. told_of front k y (either_of fs x y k at);
    no_clause = λ k at. none_of k (either_of fs x NoClause k at);
    later = λ k le. erased-push J e k ∙ ap (λ b. is_erased J k || b) (spared k) ∙ or-false (is_erased J k) ∙ h.later k (omega (arith, length-append J (e ∷ [])));
  }
    where
      told_of : (front k : ℕ) (y : Fate) → (slice_get fs k ≡ Some y) ⊎ ((k ≡ length fs) × (y ≡ x)) → is_erased (take front (J ++ e ∷ [])) k ≡ is_gone_by y front
      told_of front k y (inl at) = passed J e k front (spared k) ∙ h.told front k y at
      told_of front k y (inr last) =
          passed J e k front (spared k) ∙ ap (is_erased (take front J)) (last.0 ∙ h.long) ∙ next_spared front ∙ sym (here front) ∙ ap (λ (z : Fate). is_gone_by z front) (sym last.1)

      none_of : (k : ℕ) → (slice_get fs k ≡ Some NoClause) ⊎ ((k ≡ length fs) × (NoClause ≡ x)) → clause_named (J ++ e ∷ []) k ≡ None
      none_of k (inl at) = named-push J e k (get_within k NoClause at) ∙ h.no_clause k at
      none_of k (inr last) = ap (clause_named (J ++ e ∷ [])) (last.0 ∙ h.long) ∙ named-last J e ∙ none (sym last.1)

  -- the erasure of a clause that is alive
  pub fates-erase : (e : Entry) (k : ℕ) → slice_get fs k ≡ Some Alive → e.what ≡ Erase k → AreFates (J ++ e ∷ []) (set fs k (ErasedBy (length J)) ++ NoClause ∷ [])
  fates-erase e k at is = record {
    long = omega (arith, h.long, length-append J (e ∷ []), length-append (set fs k (ErasedBy (length J))) (NoClause ∷ []), length-set fs k (ErasedBy (length J)));
    told = λ front j y there. told_of front j y (either_of (set fs k (ErasedBy (length J))) NoClause y j there);
    no_clause = λ j there. none_of j (either_of (set fs k (ErasedBy (length J))) NoClause NoClause j there);
    later = λ j le. erased-push J e j ∙ ap (λ b. is_erased J j || b) (spared j (λ same. absurd (beyond j le same))) ∙ or-false (is_erased J j) ∙ h.later j (omega (arith, length-append J (e ∷ [])));
  }
    where
      within : k < length fs
      within = slice_get_within fs k Alive at

      spared : (j : ℕ) → j ≢ k → erases j e.what ≡ false
      spared j apart = ap (erases j) is ∙ ne_eqb j k apart

      beyond : (j : ℕ) → length (J ++ e ∷ []) ≤ j → j ≡ k → ⊥
      beyond j le same = let lt = get_within k Alive at in omega (arith, length-append J (e ∷ []))

      of_set : (front j : ℕ) (y : Fate) → ((j ≡ k) × (y ≡ ErasedBy (length J))) ⊎ ((j ≢ k) × (slice_get fs j ≡ Some y)) → is_erased (take front (J ++ e ∷ [])) j ≡ is_gone_by y front
      of_set front j y (inl here) =
          erased_there J e j front (ap (erases j) is ∙ eq-eqb j k here.0) (λ f. ap (is_erased (take f J)) here.0 ∙ h.told f k Alive at) ∙ ap (λ (z : Fate). is_gone_by z front) (sym here.1)
      of_set front j y (inr other) = passed J e j front (spared j other.0) ∙ h.told front j y other.1

      last_place : (j : ℕ) → j ≡ length (set fs k (ErasedBy (length J))) → j ≡ length J
      last_place j e = omega (arith, h.long, length-set fs k (ErasedBy (length J)))

      told_of : (front j : ℕ) (y : Fate) → (slice_get (set fs k (ErasedBy (length J))) j ≡ Some y) ⊎ ((j ≡ length (set fs k (ErasedBy (length J)))) × (y ≡ NoClause))
          → is_erased (take front (J ++ e ∷ [])) j ≡ is_gone_by y front
      told_of front j y (inl there) = of_set front j y (set-get fs (ErasedBy (length J)) y k j within there)
      told_of front j y (inr last) =
          let here : j ≡ length J = last_place j last.0 in
          let lt : k < length J = get_within k Alive at in
          passed J e j front (spared j (λ same. absurd (omega arith))) ∙ ap (is_erased (take front J)) here ∙ next_spared front ∙ ap (λ (z : Fate). is_gone_by z front) (sym last.1)

      none_set : (j : ℕ) → ((j ≡ k) × (NoClause ≡ ErasedBy (length J))) ⊎ ((j ≢ k) × (slice_get fs j ≡ Some NoClause)) → clause_named (J ++ e ∷ []) j ≡ None
      none_set j (inl here) = let wrong : NoClause ≡ ErasedBy (length J) = here.1 in absurd cc
      none_set j (inr other) = named-push J e j (get_within j NoClause other.1) ∙ h.no_clause j other.1

      none_of : (j : ℕ) → (slice_get (set fs k (ErasedBy (length J))) j ≡ Some NoClause) ⊎ ((j ≡ length (set fs k (ErasedBy (length J)))) × (NoClause ≡ NoClause))
          → clause_named (J ++ e ∷ []) j ≡ None
      none_of j (inl there) = none_set j (set-get fs (ErasedBy (length J)) NoClause k j within there)
      none_of j (inr last) = ap (clause_named (J ++ e ∷ [])) (last_place j last.0) ∙ named-last J e ∙ ap added is

  pub named_within : (k : ℕ) → IsSome (clause_named J k) → k < length fs
  named_within k some = go (cases_lt k (length fs))
    where
      go : (k < length fs) ⊎ (length fs ≤ k) → k < length fs
      go (inl lt) = lt
      go (inr le) = let wrong : false ≡ true = subst IsSome (ap (option_and_then (λ (x : Entry). added x.what)) (slice_get_past J k (omega (arith, h.long)))) some in absurd cc

  -- a clause that no entry erases is alive
  pub is_alive_there : (k : ℕ) → IsSome (clause_named J k) → is_erased J k ≡ false → slice_get fs k ≡ Some Alive
  is_alive_there k some spared = go (get_or fs k NoClause) (slice_get-get_or fs k NoClause (named_within k some))
    where
      go : (x : Fate) → slice_get fs k ≡ Some x → slice_get fs k ≡ Some Alive
      go NoClause at = let wrong : false ≡ true = subst IsSome (h.no_clause k at) some in absurd cc
      go Alive at = at
      go (ErasedBy n) at =
          let wrong : true ≡ false = sym (lt-ltb n (n + 1) (omega arith)) ∙ sym (h.told (n + 1) k (ErasedBy n) at) ∙ front_erases J k (n + 1) spared in absurd cc

  -- what an answer of the fate at a clause says
  pub not_erased : (k : ℕ) (x : Fate) → slice_get fs k ≡ Some x → ((front : ℕ) → is_gone_by x front ≡ false) → is_erased J k ≡ false
  not_erased k x at here = ap (λ (l : Journal). is_erased l k) (sym (take_all (length J) J (omega arith))) ∙ h.told (length J) k x at ∙ here (length J)

  pub eraser_there : (k n : ℕ) → slice_get fs k ≡ Some (ErasedBy n) → (x : Entry) × ((slice_get J n ≡ Some x) × (erases k x.what ≡ true))
  eraser_there k n there = go (slice_get J n) refl
    where
      behind : is_erased (take (n + 1) J) k ≡ true
      behind = h.told (n + 1) k (ErasedBy n) there ∙ lt-ltb n (n + 1) (omega arith)

      before : is_erased (take n J) k ≡ false
      before = h.told n k (ErasedBy n) there ∙ le-ltb n n (omega arith)

      go : (o : Option Entry) → slice_get J n ≡ o → (x : Entry) × ((slice_get J n ≡ Some x) × (erases k x.what ≡ true))
      go None at =
          let long : length J ≤ n = past J n at in
          let wrong : true ≡ false = sym behind ∙ ap (λ (l : Journal). is_erased l k) (take_all (n + 1) J (omega arith) ∙ sym (take_all n J long)) ∙ before in absurd cc
      go (Some x) at =
          let lt : n < length J = slice_get_within J n x at in
          let one = list_any_more (λ (y : Entry). erases k y.what) J n x lt in
          let same : get_or J n x ≡ x = get_or_from_slice_get J n x x at in
          (x, (at, sym (ap (λ b. b || erases k (get_or J n x).what) before ∙ ap (λ (y : Entry). erases k y.what) same) ∙ sym one ∙ behind))

-- ---- how many are alive

pub alive-push : (fs : List Fate) (x : Fate) → alive_in (fs ++ x ∷ []) ≡ alive_in fs + is_alive x
alive-push fs x = sum_by_push is_alive fs x

pub some_alive : (fs : List Fate) (k : ℕ) → slice_get fs k ≡ Some Alive → 1 ≤ alive_in fs
some_alive fs k at =
    let one = get_or-le-sum_by is_alive fs k Alive (slice_get_within fs k Alive at) in
    let same : is_alive (get_or fs k Alive) ≡ 1 = ap is_alive (get_or_from_slice_get fs k Alive Alive at) in
    omega (arith, one, same)

pub alive-erase : (fs : List Fate) (k n : ℕ) → slice_get fs k ≡ Some Alive → alive_in (set fs k (ErasedBy n) ++ NoClause ∷ []) + 1 ≡ alive_in fs
alive-erase fs k n at =
    let one = sum_by-set is_alive fs k (ErasedBy n) Alive (slice_get_within fs k Alive at) in
    let same : is_alive (get_or fs k Alive) ≡ 1 = ap is_alive (get_or_from_slice_get fs k Alive Alive at) in
    omega (arith, one, same, alive-push (set fs k (ErasedBy n)) NoClause)
