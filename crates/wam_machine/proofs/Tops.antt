-- The newest moment of a stack, and whether an alternative is left.
use Rattle.std.proofs.Common.{◌≡◌, ℕ, zero, suc, ◌-◌, ◌<◌, ◌≤◌, List, [], ◌∷◌, ◌++◌, length, drop, drop-cons, drop_of_length-le, get_or, refl, sym, ap, ◌∙◌, arith, Bool, true, false}
use Rattle.std.specs.Prelude.{map, Some, None, slice_get, ◌||◌}
use Rattle.std.proofs.lemmas.List.{map-append}
use Rattle.std.proofs.lemmas.Option.{slice_get-get_or}
use Rattle.std.specs.Global.{Vec}
use Rattle.prolog_terms.specs.Tree.{Tree}
use Rattle.term_store.specs.declared.cell.Cell.{Cell}
use Rattle.term_store.specs.Terms.{term_of}
use Rattle.term_store.specs.Later.{back}
use Rattle.wam_machine.specs.declared.terms.Alternative.{Alternative}
use Rattle.wam_machine.specs.declared.terms.Alternative.TheVariants as is
use Rattle.wam_machine.specs.declared.terms.Choice.{Choice}
use Rattle.wam_machine.specs.declared.terms.Terms.{Terms}
use Rattle.wam_machine.specs.Terms.{Saved, Turn, said, saved_of, turn_of, is_open, is_any_open, is_catch, HasNewest, HasCatch}

-- ---- the last of a list

last_none : {A : Type 0} (xs : List A) → None ≡ slice_get xs (length xs - 1) → xs ≡ []
last_none [] e = refl
last_none (x ∷ xs) e =
    let some : slice_get (x ∷ xs) (length (x ∷ xs) - 1) ≡ Some (get_or (x ∷ xs) (length (x ∷ xs) - 1) x) = slice_get-get_or (x ∷ xs) (length (x ∷ xs) - 1) x (omega arith) in
    absurd (cc)

last_some : {A : Type 0} (xs : List A) (y : A) → Some y ≡ slice_get xs (length xs - 1) → (front : List A) × (xs ≡ front ++ y ∷ [])
last_some {A} [] y e = absurd (cc)
last_some {A} (x ∷ xs) y e = go x xs (e ∙ ap (slice_get (x ∷ xs)) (let n : length (x ∷ xs) - 1 ≡ length xs = omega arith in n))
  where
    go : (x : A) (xs : List A) → Some y ≡ slice_get (x ∷ xs) (length xs) → (front : List A) × (x ∷ xs ≡ front ++ y ∷ [])
    go x [] e = let same : x ≡ y = cc in ([], ap (λ (z : A). z ∷ []) same)
    go x (z ∷ zs) e = let h = go z zs e in (x ∷ h.0, ap (λ (l : List A). x ∷ l) h.1)

-- ---- what it is

-- whether it is an alternative, and whether it is the mark of a `catch`
abbrev pub IsSort : {C : Type 0} → Turn C → Bool → Bool → Type 0
IsSort turn b d = (is_open turn ≡ b) × (is_catch turn ≡ d)

mark-sort : {C : Type 0} (tree : Cell → Tree) (what : Alternative C) → what ≡ is.NotMark → IsSort (turn_of tree what) false false
mark-sort tree what e = (ap (λ (w : Alternative _). is_open (turn_of tree w)) e, ap (λ (w : Alternative _). is_catch (turn_of tree w)) e)

findall-sort : {C : Type 0} (tree : Cell → Tree) (what : Alternative C) (c : Cell) (found : Vec Tree) → what ≡ is.FindallMark c found → IsSort (turn_of tree what) false false
findall-sort tree what c found e = (ap (λ (w : Alternative _). is_open (turn_of tree w)) e, ap (λ (w : Alternative _). is_catch (turn_of tree w)) e)

catch-sort : {C : Type 0} (tree : Cell → Tree) (what : Alternative C) (c r : Cell) → what ≡ is.CatchMark c r → IsSort (turn_of tree what) false true
catch-sort tree what c r e = (ap (λ (w : Alternative _). is_open (turn_of tree w)) e, ap (λ (w : Alternative _). is_catch (turn_of tree w)) e)

other-sort : {C : Type 0} (tree : Cell → Tree) (what : Alternative C) → (what ≡ is.NotMark → ⊥) → ((c r : Cell) → what ≡ is.CatchMark c r → ⊥)
    → ((c : Cell) (found : Vec Tree) → what ≡ is.FindallMark c found → ⊥) → IsSort (turn_of tree what) true false
other-sort tree (is.Clauses c) h k l = (refl, refl)
other-sort tree (is.Right c cut) h k l = (refl, refl)
other-sort tree is.Again h k l = (refl, refl)
other-sort tree is.NotMark h k l = absurd (h refl)
other-sort tree (is.CatchMark c r) h k l = absurd (k c r refl)
other-sort tree (is.FindallMark c found) h k l = absurd (l c found refl)

module _ {C : Type 0} (t : Terms C) (items : List (Choice C)) (same : items ≡ t.choices.items) where
  pub top-none : None ≡ slice_get items (length items - 1) → (said t).stack ≡ []
  unfolding said
  top-none e = ap (map (saved_of t.names t.store t.frames.items)) (sym same ∙ last_none items e)

  top : (c : Choice C) (b d : Bool) → Some c ≡ slice_get items (length items - 1) → IsSort (saved_of t.names t.store t.frames.items c).turn b d
      → HasNewest (said t).stack b × HasCatch (said t).stack d
  unfolding said
  top c b d e o =
      let h = last_some items c e in
      let f = saved_of t.names t.store t.frames.items in
      let is = ap (map f) (sym same ∙ h.1) ∙ map-append f h.0 (c ∷ []) in
      ((map f h.0, (f c, (is, o.0))), (map f h.0, (f c, (is, o.1))))

  pub top-mark : (c : Choice C) → Some c ≡ slice_get items (length items - 1) → c.what ≡ is.NotMark → HasNewest (said t).stack false × HasCatch (said t).stack false
  top-mark c e m = top c false false e (mark-sort (term_of t.names (back c.mark t.store)) c.what m)

  pub top-findall : (c : Choice C) (a : Cell) (found : Vec Tree) → Some c ≡ slice_get items (length items - 1) → c.what ≡ is.FindallMark a found → HasNewest (said t).stack false × HasCatch (said t).stack false
  top-findall c a found e m = top c false false e (findall-sort (term_of t.names (back c.mark t.store)) c.what a found m)

  pub top-catch : (c : Choice C) (a r : Cell) → Some c ≡ slice_get items (length items - 1) → c.what ≡ is.CatchMark a r → HasNewest (said t).stack false × HasCatch (said t).stack true
  top-catch c a r e m = top c false true e (catch-sort (term_of t.names (back c.mark t.store)) c.what a r m)

  pub top-open : (c : Choice C) → Some c ≡ slice_get items (length items - 1) → (c.what ≡ is.NotMark → ⊥) → ((a r : Cell) → c.what ≡ is.CatchMark a r → ⊥)
      → ((a : Cell) (found : Vec Tree) → c.what ≡ is.FindallMark a found → ⊥) → HasNewest (said t).stack true × HasCatch (said t).stack false
  top-open c e m k l = top c true false e (other-sort (term_of t.names (back c.mark t.store)) c.what m k l)

-- ---- one after another

any-at : {C : Type 0} (f : Choice C → Saved C) (xs : List (Choice C)) (n : ℕ) (x : Choice C) → n < length xs → x ≡ get_or xs n x → is_open (f x).turn ≡ true → is_any_open (map f xs) ≡ true
any-at f [] n x low e o = absurd (omega arith)
any-at f (y ∷ ys) zero x low e o = ap (λ (z : Choice _). is_open (f z).turn || is_any_open (map f ys)) (sym e) ∙ ap (λ (b : Bool). b || is_any_open (map f ys)) o
any-at f (y ∷ ys) (suc n) x low e o = go (is_open (f y).turn) (any-at f ys n x (omega arith) e o)
  where
    go : (b : Bool) → is_any_open (map f ys) ≡ true → (b || is_any_open (map f ys)) ≡ true
    go true h = refl
    go false h = h

module _ {C : Type 0} (t : Terms C) where
  abbrev pub seen_as : Choice C → Saved C
  seen_as = saved_of t.names t.store t.frames.items

  pub none-seen : (n : ℕ) → length t.choices.items ≤ n → is_any_open (map seen_as (drop n t.choices.items)) ≡ false
  none-seen n past = ap (λ (l : List (Choice C)). is_any_open (map seen_as l)) (drop_of_length-le t.choices.items past)

  pub one-seen : (left k : ℕ) (x : Choice C) → 0 < left → left ≤ length t.choices.items → k ≡ left - 1 → x ≡ get_or t.choices.items k x
      → is_open (seen_as x).turn ≡ false → is_any_open (map seen_as (drop left t.choices.items)) ≡ false → is_any_open (map seen_as (drop k t.choices.items)) ≡ false
  one-seen left k x some low less is closed h =
      let here : k < length t.choices.items = omega arith in
      let next : suc k ≡ left = omega arith in
      let cut : drop k t.choices.items ≡ x ∷ drop left t.choices.items =
      drop-cons t.choices.items k x here ∙ ap (λ (y : Choice C). y ∷ drop (suc k) t.choices.items) (sym is) ∙ ap (λ (n : ℕ). x ∷ drop n t.choices.items) next in
      ap (λ (l : List (Choice C)). is_any_open (map seen_as l)) cut ∙ ap (λ (b : Bool). b || is_any_open (map seen_as (drop left t.choices.items))) closed ∙ h

  pub found-open : (k : ℕ) (x : Choice C) → k < length t.choices.items → x ≡ get_or t.choices.items k x → is_open (seen_as x).turn ≡ true → is_any_open (said t).stack ≡ true
  unfolding said
  found-open k x low is o = any-at seen_as t.choices.items k x low is o

  pub all-seen : (left : ℕ) → left ≤ 0 → is_any_open (map seen_as (drop left t.choices.items)) ≡ false → is_any_open (said t).stack ≡ false
  unfolding said
  all-seen left end h = let e : left ≡ 0 = omega arith in ap (λ (n : ℕ). is_any_open (map seen_as (drop n t.choices.items))) (sym e) ∙ h
