-- One item more among the parts of a level, and what the parts are in the end.
use Rattle.std.proofs.Common.{◌≡◌, ◌≢◌, ℕ, ◌<◌, Bool, true, false, cond, eqb, List, [], ◌∷◌, ◌++◌, length, get_or, Option, Some, None, arith, refl, sym, ap, ◌∙◌, subst, ⊎_elim, eq-eqb}
use Rattle.std.proofs.Math.ListN.{set}
use Rattle.std.proofs.lemmas.Bool.{cases_eq, ne_eqb}
use Rattle.std.proofs.lemmas.List.{get_or_default, get_or-set_same, get_or-set_other, append-nil}
use Rattle.std.proofs.lemmas.List.Elements.{filter-append, All-tail}
use Rattle.std.specs.List.{filter, Contains, All}
use Rattle.std.specs.List.Sorted.{IsStrictlyIncreasing}
use Rattle.std.specs.Option.{IfSome}
use Rattle.std.specs.Global.{Vec}
use Rattle.index_trees.specs.declared.item.Item.{Item}
use Rattle.call_patterns.specs.Rows.{agrees}
use Rattle.index_trees.specs.Items.{code_at, fits_at, has_no_code}
use Rattle.call_patterns.specs.Size.{is_none}
use Rattle.index_trees.specs.Levels.{codes_of}
use Rattle.index_trees.specs.Parts.{AreParts, IsSplit}
use Rattle.index_trees.proofs.Rising.{rising_lt, rising_one}

filter_in : (p : Item → Bool) (done : List Item) (it : Item) → p it ≡ true → filter p (done ++ it ∷ []) ≡ filter p done ++ it ∷ []
filter_in p done it e = filter-append p done (it ∷ []) ∙ ap (λ b. filter p done ++ cond b (it ∷ []) []) e

filter_out : (p : Item → Bool) (done : List Item) (it : Item) → p it ≡ false → filter p (done ++ it ∷ []) ≡ filter p done
filter_out p done it e = filter-append p done (it ∷ []) ∙ ap (λ b. filter p done ++ cond b (it ∷ []) []) e ∙ append-nil (filter p done)

pub coded_fits : (level c code : ℕ) (it : Item) → code_at level it ≡ Some code → fits_at level c it ≡ eqb code c
unfolding fits_at
coded_fits level c code it e = ap (agrees c) e

pub coded_not : (level code : ℕ) (it : Item) → code_at level it ≡ Some code → has_no_code level it ≡ false
unfolding has_no_code
coded_not level code it e = ap is_none e

pub plain_fits : (level c : ℕ) (it : Item) → code_at level it ≡ None → fits_at level c it ≡ true
unfolding fits_at
plain_fits level c it e = ap (agrees c) e

pub plain_not : (level : ℕ) (it : Item) → code_at level it ≡ None → has_no_code level it ≡ true
unfolding has_no_code
plain_not level it e = ap is_none e

pub put_coded : (level : ℕ) (done : List Item) (codes : List ℕ) (children : List (Vec Item)) (rest : List Item) (it : Item) (at code : ℕ) (old new : Vec Item)
    → IsStrictlyIncreasing codes → length children ≡ length codes → at < length codes → get_or codes at 0 ≡ code → code_at level it ≡ Some code
    → old ≡ get_or children at old → new.items ≡ old.items ++ it ∷ []
    → AreParts level done codes children rest → AreParts level (done ++ it ∷ []) codes (set children at new) rest
put_coded level done codes children rest it at code old new up many lt is has read new_is h = record {
  child = λ k d below. ⊎_elim
      (λ (e : k ≡ at).
      let room : at < length children = omega arith in
      let P : ℕ → Type 0 = λ n. (get_or (set children at new) n d).items ≡ filter (fits_at level (get_or codes n 0)) (done ++ it ∷ []) in
      let same : get_or children at old ≡ get_or children at d = get_or_default children at old d room in
      subst P (sym e)
      (ap (λ v. v.items) (get_or-set_same children at new d room)
      ∙ new_is
      ∙ ap (λ xs. xs ++ it ∷ []) (ap (λ v. v.items) (read ∙ same) ∙ h.child at d lt)
      ∙ sym (filter_in (fits_at level (get_or codes at 0)) done it (coded_fits level (get_or codes at 0) code it has ∙ eq-eqb code (get_or codes at 0) (sym is)))))
      (λ (ne : k ≢ at).
      let other : code ≢ get_or codes k 0 = λ e. ne (rising_one codes up k at below lt (sym e ∙ sym is)) in
      ap (λ v. v.items) (get_or-set_other children at k new d ne)
      ∙ h.child k d below
      ∙ sym (filter_out (fits_at level (get_or codes k 0)) done it (coded_fits level (get_or codes k 0) code it has ∙ ne_eqb code (get_or codes k 0) other)))
      (cases_eq k at);
  none = h.none ∙ sym (filter_out (has_no_code level) done it (coded_not level code it has));
}

pub put_plain : (level : ℕ) (done : List Item) (codes : List ℕ) (children new : List (Vec Item)) (rest more : List Item) (it : Item)
    → length children ≡ length codes → code_at level it ≡ None
    → ((k : ℕ) (d : Vec Item) → k < length children → (get_or new k d).items ≡ (get_or children k d).items ++ it ∷ []) → more ≡ rest ++ it ∷ []
    → AreParts level done codes children rest → AreParts level (done ++ it ∷ []) codes new more
put_plain level done codes children new rest more it many has each rest_is h = record {
  child = λ k d below.
      let room : k < length children = omega arith in
      each k d room ∙ ap (λ xs. xs ++ it ∷ []) (h.child k d below) ∙ sym (filter_in (fits_at level (get_or codes k 0)) done it (plain_fits level (get_or codes k 0) it has));
  none = rest_is ∙ ap (λ xs. xs ++ it ∷ []) h.none ∙ sym (filter_in (has_no_code level) done it (plain_not level it has));
}

-- ---- all items

-- a code that no item has
lone : (level c : ℕ) (it : Item) (code : Option ℕ) (codes : List ℕ) → code_at level it ≡ code → IfSome code (λ x. Contains codes x)
    → ((k : ℕ) → k < length codes → get_or codes k 0 ≢ c) → fits_at level c it ≡ has_no_code level it
lone level c it None codes e there apart = plain_fits level c it e ∙ sym (plain_not level it e)
lone level c it (Some x) codes e (k, lt, is) apart =
    let ne : x ≢ c = λ same. apart k lt (get_or_default codes k 0 x lt ∙ is ∙ same) in
    coded_fits level c x it e ∙ ne_eqb x c ne ∙ sym (coded_not level x it e)

others : (level c : ℕ) (items : List Item) (codes : List ℕ) → All (λ it. IfSome (code_at level it) (λ x. Contains codes x)) items
    → ((k : ℕ) → k < length codes → get_or codes k 0 ≢ c) → filter (fits_at level c) items ≡ filter (has_no_code level) items
others level c [] codes all apart = refl
others level c (it ∷ its) codes all apart =
    let here = lone level c it (code_at level it) codes refl (all 0 it (omega arith)) apart in
    let there = others level c its codes (All-tail (λ i. IfSome (code_at level i) (λ x. Contains codes x)) it its all) apart in
    ap (λ b. cond b (it ∷ filter (fits_at level c) its) (filter (fits_at level c) its)) here ∙ ap (λ xs. cond (has_no_code level it) (it ∷ xs) xs) there

pub split_from_parts : (level : ℕ) (items : List Item) (codes : List ℕ) (children : List (Vec Item)) (rest : List Item)
    → IsStrictlyIncreasing codes → codes ≡ codes_of level items → length children ≡ length codes → All (λ it. IfSome (code_at level it) (λ x. Contains codes x)) items
    → AreParts level items codes children rest → IsSplit level items codes children rest
split_from_parts level items codes children rest up are many all h = record {
  ascending = rising_lt codes up;
  many = many;
  child = h.child;
  other = λ c apart. others level c items codes all apart ∙ sym h.none;
  none = h.none;
  are = are;
}

pub no_parts : (level : ℕ) (codes : List ℕ) (children : List (Vec Item)) (rest : List Item)
    → length children ≡ length codes → All (λ child. child.items ≡ []) children → rest ≡ [] → AreParts level [] codes children rest
no_parts level codes children rest many empty none = record {
  child = λ k d lt. empty k d (omega arith);
  none = none;
}
