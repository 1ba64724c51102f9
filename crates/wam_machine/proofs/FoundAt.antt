-- One more copy that is found: nothing else changes on the stack.
use Rattle.std.proofs.Common.{◌≡◌, ℕ, zero, suc, ◌-◌, ◌<◌, ◌⊎◌, List, [], ◌∷◌, Bool, true, false, length, drop, refl, sym, ap, ◌∙◌, inl, inr, arith}
use Rattle.std.specs.Prelude.{◌==◌, ◌≢◌, All, if◌then◌else◌}
use Rattle.std.proofs.lemmas.Bool.Decides.{eqb_tells}
use Rattle.std.proofs.lemmas.List.Elements.{All-nil, All-cons, All-head, All-tail}
use Rattle.prolog_terms.specs.Tree.{Tree}
use Rattle.wam_machine.specs.States.{Alternative, Clauses, Right, Again, NotMark, CatchMark, FindallMark, Choice, cut_to}
use Rattle.wam_machine.specs.Machine.{with_found, found_at}
use Rattle.wam_machine.specs.Laws.{is_mark, CanBeTaken, CanGoBack}

-- ---- one choice

pub found-mark : (copy : Tree) (a : Alternative) → is_mark (with_found copy a) ≡ is_mark a
found-mark copy (Clauses used goal rest) = refl
found-mark copy (Right goal cut) = refl
found-mark copy Again = refl
found-mark copy NotMark = refl
found-mark copy (CatchMark c r) = refl
found-mark copy (FindallMark l f) = refl

found-taken : (copy : Tree) (a : Alternative) → CanBeTaken a → CanBeTaken (with_found copy a)
found-taken copy (Clauses used goal rest) h = h
found-taken copy (Right goal cut) h = h
found-taken copy Again h = h
found-taken copy NotMark h = h
found-taken copy (CatchMark c r) h = h
found-taken copy (FindallMark l f) h = h

-- ---- the stack

pub at_head : (h : ℕ) (copy : Tree) (c : Choice) (below : List Choice) → suc (length below) ≡ h → found_at h copy (c ∷ below) ≡ record c { what = with_found copy c.what } ∷ below
at_head h copy c below e = go (eqb_tells (suc (length below)) h)
  where
    go : ((suc (length below) == h) ≡ true) × (suc (length below) ≡ h) ⊎ ((suc (length below) == h) ≡ false) × (suc (length below) ≢ h)
        → found_at h copy (c ∷ below) ≡ record c { what = with_found copy c.what } ∷ below
    go (inl (d, f)) = rw d refl
    go (inr (d, f)) = absurd (f e)

pub at_tail : (h : ℕ) (copy : Tree) (c : Choice) (below : List Choice) → suc (length below) ≢ h → found_at h copy (c ∷ below) ≡ c ∷ found_at h copy below
at_tail h copy c below n = go (eqb_tells (suc (length below)) h)
  where
    go : ((suc (length below) == h) ≡ true) × (suc (length below) ≡ h) ⊎ ((suc (length below) == h) ≡ false) × (suc (length below) ≢ h)
        → found_at h copy (c ∷ below) ≡ c ∷ found_at h copy below
    go (inl (d, f)) = absurd (n f)
    go (inr (d, f)) = rw d refl

-- a lower stack stays as it is
pub found-low : (h : ℕ) (copy : Tree) (st : List Choice) → length st < h → found_at h copy st ≡ st
found-low h copy [] l = refl
found-low h copy (c ∷ below) l = at_tail h copy c below (other l) ∙ ap (λ (cs : List Choice). c ∷ cs) (found-low h copy below (lower l))
  where
    other : suc (length below) < h → suc (length below) ≢ h
    other l e = omega (arith, l, e)

    lower : suc (length below) < h → length below < h
    lower l = omega (arith, l)

pub found-length : (h : ℕ) (copy : Tree) (st : List Choice) → length (found_at h copy st) ≡ length st
found-length h copy [] = refl
found-length h copy (c ∷ below) = go (eqb_tells (suc (length below)) h) (found-length h copy below)
  where
    go : ((suc (length below) == h) ≡ true) × (suc (length below) ≡ h) ⊎ ((suc (length below) == h) ≡ false) × (suc (length below) ≢ h)
        → length (found_at h copy below) ≡ length below → length (found_at h copy (c ∷ below)) ≡ suc (length below)
    go (inl (d, f)) e = ap length (at_head h copy c below f)
    go (inr (d, f)) e = ap length (at_tail h copy c below f) ∙ ap suc e

pub found-drop : (n h : ℕ) (copy : Tree) (st : List Choice) → drop n (found_at h copy st) ≡ found_at h copy (drop n st)
found-drop zero h copy st = refl
found-drop (suc n) h copy [] = refl
found-drop (suc n) h copy (c ∷ below) = go (eqb_tells (suc (length below)) h) (found-drop n h copy below)
  where
    low : suc (length below) ≡ h → length below < h
    low e = omega (arith, e)

    go : ((suc (length below) == h) ≡ true) × (suc (length below) ≡ h) ⊎ ((suc (length below) == h) ≡ false) × (suc (length below) ≢ h)
        → drop n (found_at h copy below) ≡ found_at h copy (drop n below) → drop (suc n) (found_at h copy (c ∷ below)) ≡ found_at h copy (drop n below)
    go (inl (d, f)) e = ap (drop (suc n)) (at_head h copy c below f) ∙ ap (drop n) (sym (found-low h copy below (low f))) ∙ e
    go (inr (d, f)) e = ap (drop (suc n)) (at_tail h copy c below f) ∙ e

pub found-cut : (k h : ℕ) (copy : Tree) (st : List Choice) → cut_to k (found_at h copy st) ≡ found_at h copy (cut_to k st)
found-cut k h copy st = ap (λ (n : ℕ). drop (n - k) (found_at h copy st)) (found-length h copy st) ∙ found-drop (length st - k) h copy st

pub found-back : (h : ℕ) (copy : Tree) (st : List Choice) → All CanGoBack st → All CanGoBack (found_at h copy st)
found-back h copy [] w = All-nil CanGoBack
found-back h copy (c ∷ below) w = go (suc (length below) == h) (found-back h copy below (All-tail CanGoBack c below w))
  where
    first : CanGoBack c
    first = All-head CanGoBack c below w

    go : (b : Bool) → All CanGoBack (found_at h copy below) → All CanGoBack (if b then record c { what = with_found copy c.what } ∷ below else c ∷ found_at h copy below)
    go true more = All-cons CanGoBack (record c { what = with_found copy c.what }) below (record { what = found-taken copy c.what first.what; goals = first.goals }) (All-tail CanGoBack c below w)
    go false more = All-cons CanGoBack c (found_at h copy below) first more
