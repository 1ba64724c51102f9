-- Goals that are taken and put: the terms of a run stay as they are kept, and what they say of all else.
use Rattle.std.proofs.Common.{◌≡◌, ℕ, suc, ◌<◌, ◌≤◌, List, [], ◌∷◌, ◌++◌, length, refl, sym, ap, ◌∙◌, arith, subst, length-append}
use Rattle.std.specs.Prelude.{map, reverse, Result, Ok, Err, OnErr}
use Rattle.std.specs.Global.{Vec}
use Rattle.std.proofs.Math.Seq.{get_or-append_seam}
use Rattle.wam_machine.specs.States.{Next}
use Rattle.term_store.specs.Terms.{raw, term_of, meaning}
use Rattle.wam_machine.specs.declared.terms.Frame.{Frame}
use Rattle.wam_machine.specs.declared.terms.Choice.{Choice}
use Rattle.wam_machine.specs.declared.terms.Terms.{Terms}
use Rattle.wam_machine.specs.declared.terms.Next.{Next as Waiting}
use Rattle.wam_machine.specs.declared.terms.Next.TheVariants as waits
use Rattle.wam_machine.specs.Terms.{Saved, said, built, IsBuilt, IsNext, IsWaiting, AreTerms, AreFrames, AreChoices, KeepsCells, frame_at, frames_kept, goals_at, next_of, next_now, saved_of, IsFrame}
use Rattle.wam_machine.proofs.Frames.{AreSame, lower, same_more, frames-more, goals_at-same, goals_at-next}
use Rattle.wam_machine.proofs.Stacks.{choices-same, saved-same, by_reverse}

-- what is to be done, as it is kept
pub waiting-now : {C : Type 0} (t : Terms C) (what : Waiting) → IsNext t what → IsWaiting t.names t.store what
unfolding IsBuilt built
waiting-now t (waits.Do c h) g = (g.built_is, g.body)
waiting-now t (waits.ConditionEnd h) g = tt
waiting-now t (waits.NotEnd h) g = tt
waiting-now t (waits.CatchEnd h) g = tt
waiting-now t (waits.FindallEnd c h) g = g

pub next-waiting : {C : Type 0} (t : Terms C) (what : Waiting) → IsWaiting t.names t.store what → IsNext t what
unfolding IsBuilt built
next-waiting t (waits.Do c h) g = record { built_is = g.0; body = g.1 }
next-waiting t (waits.ConditionEnd h) g = tt
next-waiting t (waits.NotEnd h) g = tt
next-waiting t (waits.CatchEnd h) g = tt
next-waiting t (waits.FindallEnd c h) g = g

-- the moments that may be gone back to need no more than those that they keep
pub choices-kept : {C : Type 0} (t : Terms C) (n m : ℕ) (cs : List (Choice C)) → frames_kept cs ≤ m
    → AreChoices t.names t.store t.frames.items n t.shown cs → AreChoices t.names t.store t.frames.items m t.shown cs
choices-kept t n m [] le h = tt
choices-kept t n m (c ∷ cs) le h = (h.0, le, h.2, h.3)

module _ {C : Type 0} (t : Terms C) (h : AreTerms t) (frames : Vec Frame) (next : ℕ) where
  -- other frames, of which the first m are the same
  pub terms-frames : (m : ℕ) → AreSame t.frames.items frames.items m → m ≤ length frames.items
      → AreChoices t.names t.store t.frames.items m t.shown (reverse t.choices.items)
      → AreFrames t.names t.store frames.items (length frames.items) → next ≤ length frames.items → AreTerms (record t { frames = frames; next = next })
  terms-frames m same le choices kept inside = record {
    distinct = h.distinct;
    named = h.named;
    frames_are = kept;
    next_is = inside;
    shown_is = h.shown_is;
    choices_are = choices-same t.names t.store t.frames.items frames.items t.shown m (length frames.items) same le (reverse t.choices.items) choices;
  }

  pub said-frames : (m : ℕ) → AreSame t.frames.items frames.items m
      → AreChoices t.names t.store t.frames.items m t.shown (reverse t.choices.items)
      → (goals : List Next) → goals_at (term_of t.names t.store) frames.items next ≡ goals
      → said (record t { frames = frames; next = next }) ≡ record (said t) { goals = goals }
  unfolding said
  said-frames m same choices goals e =
      ap (λ (gs : List Next). record {
        goals = gs;
        bindings = meaning t.names t.store;
        fresh = t.store.variables;
        shown = raw t.names t.store t.shown;
        stack = map (saved_of t.names t.store frames.items) t.choices.items;
      }) e
      ∙ ap (λ (ls : List (Saved C)). record {
        goals = goals;
        bindings = meaning t.names t.store;
        fresh = t.store.variables;
        shown = raw t.names t.store t.shown;
        stack = ls;
      })
      (by_reverse (saved_of t.names t.store frames.items) (saved_of t.names t.store t.frames.items) t.choices.items
      (saved-same t.names t.store t.store t.store t.frames.items frames.items t.shown m same (λ _ _. (refl, refl)) (reverse t.choices.items) choices))

  -- ---- a goal is put

  module _ (what : Waiting) (is_next : IsNext t what) (e : frames.items ≡ t.frames.items ++ record { what = what; next = t.next } ∷ []) (n : next ≡ length frames.items) where
    pushed-same : AreSame t.frames.items frames.items (length t.frames.items)
    pushed-same = subst (λ (l : List Frame). AreSame t.frames.items l (length t.frames.items)) (sym e) (same_more t.frames.items _)

    pushed-length : next ≡ suc (length t.frames.items)
    pushed-length = let a = length-append t.frames.items (record { what = what; next = t.next } ∷ []) in let b = ap length e in omega (arith, a, b, n)

    pushed-frame : IsFrame t.names t.store (length t.frames.items) (record { what = what; next = t.next })
    pushed-frame = record { lower = h.next_is; what = waiting-now t what is_next }

    pushed-frames : AreFrames t.names t.store frames.items (length frames.items)
    pushed-frames = subst (λ (l : List Frame). AreFrames t.names t.store l (length l)) (sym e) (frames-more t.names t.store t.frames.items _ pushed-frame h.frames_are)

    pub terms-push : AreTerms (record t { frames = frames; next = next })
    terms-push =
        terms-frames (length t.frames.items) pushed-same (let a = pushed-length in omega (arith, a, n)) h.choices_are pushed-frames (omega (arith, n))

    pushed-goals : goals_at (term_of t.names t.store) frames.items next ≡ next_now t what ∷ (said t).goals
    unfolding said built
    pushed-goals =
        let last : frame_at frames.items (length t.frames.items) ≡ record { what = what; next = t.next } =
        ap (λ (l : List Frame). frame_at l (length t.frames.items)) e ∙ get_or-append_seam t.frames.items _ [] (frame_at [] 0)
        in
        let less : length t.frames.items < length frames.items = let a = pushed-length in omega (arith, a, n) in
        ap (λ (k : ℕ). goals_at (term_of t.names t.store) frames.items k) pushed-length
        ∙ goals_at-next (term_of t.names t.store) frames.items (length frames.items) (length t.frames.items) (lower t.names t.store frames.items (length frames.items) pushed-frames) less
        ∙ ap (λ (f : Frame). next_of (term_of t.names t.store) f.what ∷ goals_at (term_of t.names t.store) frames.items f.next) last
        ∙ ap (λ (gs : List Next). next_of (term_of t.names t.store) what ∷ gs)
        (goals_at-same (term_of t.names t.store) (term_of t.names t.store) t.frames.items frames.items (length t.frames.items)
        (lower t.names t.store t.frames.items (length t.frames.items) h.frames_are) pushed-same (λ _ _. refl) t.next h.next_is)

    pub said-push : said (record t { frames = frames; next = next }) ≡ record (said t) { goals = next_now t what ∷ (said t).goals }
    said-push = said-frames (length t.frames.items) pushed-same h.choices_are _ pushed-goals

  -- ---- nothing is put

  module _ (e : frames.items ≡ t.frames.items) (n : next ≡ t.next) where
    stays-same : AreSame t.frames.items frames.items (length t.frames.items)
    stays-same i less = ap (λ (l : List Frame). frame_at l i) e

    pub terms-stay : AreTerms (record t { frames = frames; next = next })
    terms-stay =
        let a = ap length e in let b = h.next_is in
        terms-frames (length t.frames.items) stays-same (omega (arith, a)) h.choices_are
        (subst (λ (l : List Frame). AreFrames t.names t.store l (length l)) (sym e) h.frames_are) (omega (arith, a, b, n))

    pub said-stay : said (record t { frames = frames; next = next }) ≡ said t
    unfolding said
    said-stay =
        said-frames (length t.frames.items) stays-same h.choices_are (said t).goals
        (ap (λ (l : List Frame). goals_at (term_of t.names t.store) l next) e ∙ ap (goals_at (term_of t.names t.store) t.frames.items) n)

-- cells are what they were whatever the frames are
pub cells-frames : {C : Type 0} (t : Terms C) (frames : Vec Frame) (next : ℕ) → KeepsCells t (record t { frames = frames; next = next })
unfolding IsBuilt built
cells-frames t frames next c g = (g, refl)

-- what holds anyway holds at an error
pub at_err : {T E P : Type 0} (r : Result T E) → P → OnErr r P
at_err (Ok x) p = tt
at_err (Err e) p = p
