-- The scan of a list of entries, place by place.
use Rattle.std.proofs.Common.{◌≡◌, ℕ, suc, ◌+◌, ◌-◌, ◌*◌, ◌<◌, ◌≤◌, [], ◌∷◌, length, true, false, ◌&&◌, not, refl, arith, Some, slice_get}
use Rattle.prolog_terms.specs.declared.entry.Entry.{Entry}
use Rattle.prolog_terms.specs.declared.entry.Clause.{Clause}
use Rattle.prolog_terms.specs.declared.entry.End.{End}
use Rattle.journals.specs.Journal.{Journal, adds_to, added, is_erased}
use Rattle.call_patterns.specs.Candidates.{head_agrees}
use Rattle.journal_base.specs.Goals.{Goal}
use Rattle.journal_base.specs.Scan.{place, places, is_candidate, scan, left, adds_here}

pub places-step : (n q : ℕ) → q < 2 * n → places n q ≡ place n q ∷ places n (q + 1)
unfolding places
places-step n q h = let e : 2 * n - q ≡ suc (2 * n - (q + 1)) = omega arith in rw e refl

pub places-end : (n q : ℕ) → 2 * n ≤ q → places n q ≡ []
unfolding places
places-end n q h = let e : 2 * n - q ≡ 0 = omega arith in rw e refl

pub scan-take : (J : Journal) (g : Goal) (q : ℕ) → q < 2 * length J → is_candidate J g (place (length J) q) ≡ true
    → scan J g q ≡ (place (length J) q).1 ∷ scan J g (q + 1)
unfolding scan
scan-take J g q h e = rw (places-step (length J) q h, e) refl

pub scan-pass : (J : Journal) (g : Goal) (q : ℕ) → q < 2 * length J → is_candidate J g (place (length J) q) ≡ false
    → scan J g q ≡ scan J g (q + 1)
unfolding scan
scan-pass J g q h e = rw (places-step (length J) q h, e) refl

pub scan-end : (J : Journal) (g : Goal) (q : ℕ) → 2 * length J ≤ q → scan J g q ≡ []
unfolding scan
scan-end J g q h = rw (places-end (length J) q h) refl

pub left-take : (J : Journal) (p q : ℕ) → q < 2 * length J → adds_here J p (place (length J) q) ≡ true → left J p q ≡ left J p (q + 1) + 1
unfolding left
left-take J p q h e = rw (places-step (length J) q h, e) (omega arith)

pub left-pass : (J : Journal) (p q : ℕ) → q < 2 * length J → adds_here J p (place (length J) q) ≡ false → left J p q ≡ left J p (q + 1)
unfolding left
left-pass J p q h e = rw (places-step (length J) q h, e) refl

-- ---- what one entry says

pub not_added : (J : Journal) (g : Goal) (e : End) (k : ℕ) (x : Entry) → slice_get J k ≡ Some x → adds_to e g.procedure x.what ≡ false
    → (adds_here J g.procedure (e, k) ≡ false) × (is_candidate J g (e, k) ≡ false)
unfolding is_candidate adds_here
not_added J g e k x s a = rw (s, a) (refl, refl)

pub is_added : (J : Journal) (g : Goal) (e : End) (k : ℕ) (x : Entry) (c : Clause) → slice_get J k ≡ Some x → adds_to e g.procedure x.what ≡ true → added x.what ≡ Some c
    → (adds_here J g.procedure (e, k) ≡ true) × (is_candidate J g (e, k) ≡ (not (is_erased J k) && head_agrees g.keys (Some c)))
unfolding is_candidate adds_here
is_added J g e k x c s a d = rw (s, a, d) (refl, refl)
