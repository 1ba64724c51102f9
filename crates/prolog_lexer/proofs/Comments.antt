-- A comment ends at its first */.
use Rattle.std.proofs.Common.{◌≡◌, ℕ, zero, suc, ◌+◌, ◌<◌, ◌≤◌, List, [], ◌∷◌, drop, length, get_or, refl, sym, ap, subst, ◌∙◌, arith, cond, true, false, Option, None, Some}
use Rattle.std.proofs.lemmas.List.{drop_more}
use Rattle.prolog_lexer.specs.Pieces.{ends_comment, before_close, later, closed, comment}

later-later : (i : ℕ) (x : Option ℕ) → later i (later 1 x) ≡ later (i + 1) x
later-later i None = refl
later-later i (Some n) = ap Some (omega arith)

later-zero : (x : Option ℕ) → later 0 x ≡ x
later-zero None = refl
later-zero (Some n) = ap Some (omega arith)

close_cons : (b : ℕ) (bs : List ℕ) → before_close (b ∷ bs) ≡ cond (ends_comment (b ∷ bs)) (Some 0) (later 1 (before_close bs))
unfolding before_close
close_cons b bs = refl

drop_none : (i : ℕ) (bs : List ℕ) → length bs ≤ i → drop i bs ≡ []
drop_none zero [] h = refl
drop_none (suc i) [] h = refl
drop_none zero (b ∷ bs) h = absurd (omega arith)
drop_none (suc i) (b ∷ bs) h = let g : length bs ≤ i = omega arith in drop_none i bs g

pub starts : (bs : List ℕ) → before_close bs ≡ later 0 (before_close (drop 0 bs))
starts bs = sym (later-zero (before_close bs))

pub found : (bs : List ℕ) (i : ℕ) → i < length bs → before_close bs ≡ later i (before_close (drop i bs)) → ends_comment (drop i bs) ≡ true → before_close bs ≡ Some i
found bs i h inv e =
    let d = drop_more bs i 0 h in
    let t : ends_comment (get_or bs i 0 ∷ drop (i + 1) bs) ≡ true = subst (λ x. ends_comment x ≡ true) d e in
    let s : before_close (drop i bs) ≡ Some 0 = rw (d, close_cons (get_or bs i 0) (drop (i + 1) bs), t) refl in
    let z : i + 0 ≡ i = omega arith in
    inv ∙ ap (later i) s ∙ ap Some z

pub more : (bs : List ℕ) (i : ℕ) → i < length bs → before_close bs ≡ later i (before_close (drop i bs)) → ends_comment (drop i bs) ≡ false
    → before_close bs ≡ later (i + 1) (before_close (drop (i + 1) bs))
more bs i h inv e =
    let d = drop_more bs i 0 h in
    let t : ends_comment (get_or bs i 0 ∷ drop (i + 1) bs) ≡ false = subst (λ x. ends_comment x ≡ false) d e in
    let s : before_close (drop i bs) ≡ later 1 (before_close (drop (i + 1) bs)) = rw (d, close_cons (get_or bs i 0) (drop (i + 1) bs), t) refl in
    inv ∙ ap (later i) s ∙ later-later i (before_close (drop (i + 1) bs))

pub nowhere : (bs : List ℕ) (i : ℕ) → length bs ≤ i → before_close bs ≡ later i (before_close (drop i bs)) → before_close bs ≡ None
unfolding before_close
nowhere bs i h inv = inv ∙ ap (λ x. later i (before_close x)) (drop_none i bs h)

pub comment_is : (inside : List ℕ) (x : Option ℕ) → before_close inside ≡ x → closed x ≡ comment inside
unfolding comment
comment_is inside x e = ap closed (sym e)

-- a comment that ends lies within the text
later_within : (len : ℕ) (x : Option ℕ) (n : ℕ) → ((m : ℕ) → x ≡ Some m → m + 2 ≤ len) → later 1 x ≡ Some n → n + 2 ≤ suc len
later_within len None n within f = cc
later_within len (Some m) n within f = let g : 1 + m ≡ n = cc in omega (arith, within m refl)

pub close_within : (bs : List ℕ) (n : ℕ) → before_close bs ≡ Some n → n + 2 ≤ length bs
unfolding before_close
close_within [] n e = cc
close_within (b ∷ []) n e = cc
close_within (b ∷ c ∷ bs) n e =
    elim (ends_comment (b ∷ c ∷ bs)) as (λ v. cond v (Some 0) (later 1 (before_close (c ∷ bs))) ≡ Some n → n + 2 ≤ suc (suc (length bs)))
    [ true ↦ λ f. let g : 0 ≡ n = cc in omega arith | false ↦ λ f. later_within (suc (length bs)) (before_close (c ∷ bs)) n (close_within (c ∷ bs)) f ] e
