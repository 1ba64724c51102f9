-- The next goal is taken: the terms of a run stay as they are kept, and say what they said but for that goal.
use Rattle.std.proofs.Common.{◌≡◌, ℕ, suc, ◌<◌, ◌≤◌, List, [], ◌∷◌, length, take, refl, sym, ap, ◌∙◌, arith, subst}
use Rattle.std.specs.Prelude.{reverse, Bool, true, false, nat_le}
use Rattle.std.proofs.lemmas.Bool.Decides.{nat_tests}
use Rattle.std.specs.Global.{Vec}
use Rattle.std.proofs.lemmas.List.{length-take-le, take_all}
use Rattle.term_store.specs.Terms.{term_of}
use Rattle.wam_machine.specs.States.{Next}
use Rattle.wam_machine.specs.declared.terms.Frame.{Frame}
use Rattle.wam_machine.specs.declared.terms.Terms.{Terms}
use Rattle.wam_machine.specs.Terms.{said, built, IsNext, IsWaiting, AreTerms, AreFrames, AreChoices, frame_at, frames_kept, goals_at, next_of, next_now}
use Rattle.wam_machine.proofs.Frames.{AreSame, lower, same_take, frames-take, frames-fewer, goals_at-same, goals_at-next, goals_at-none}
use Rattle.wam_machine.proofs.Pushed.{choices-kept, terms-frames, said-frames, next-waiting}

pub said-none : {C : Type 0} (t : Terms C) → t.next ≡ 0 → (said t).goals ≡ []
unfolding said
said-none t e = ap (goals_at (term_of t.names t.store) t.frames.items) e ∙ goals_at-none (term_of t.names t.store) t.frames.items

-- whatever frames are left, if they are the same below the one that is taken
pub record Keeps {C : Type 0} (t : Terms C) (frames : Vec Frame) (i : ℕ) : Type 0 where
  pub m : ℕ
  pub low : i ≤ m
  pub le : m ≤ length frames.items
  pub same : AreSame t.frames.items frames.items m
  pub choices : AreChoices t.names t.store t.frames.items m t.shown (reverse t.choices.items)
  pub kept : AreFrames t.names t.store frames.items (length frames.items)

-- those that are needed are left
pub keeps-cut : {C : Type 0} (t : Terms C) → AreTerms t → (frames : Vec Frame) (i k : ℕ) → i < length t.frames.items → i ≤ k
    → frames.items ≡ take k t.frames.items → frames_kept (reverse t.choices.items) ≤ k → Keeps t frames i
keeps-cut t h frames i k less low e few = go (nat_le k (length t.frames.items)) refl
  where
    go : (b : Bool) → nat_le k (length t.frames.items) ≡ b → Keeps t frames i
    go true q =
        let below : k ≤ length t.frames.items = grind (arith, nat_tests) in
        let count = length-take-le k t.frames.items below in
        record {
          m = k;
          low = low;
          le = let a = ap length e in omega (arith, a, count);
          same = subst (λ (l : List Frame). AreSame t.frames.items l k) (sym e) (same_take k t.frames.items);
          choices = choices-kept t (length t.frames.items) k (reverse t.choices.items) few h.choices_are;
          kept = subst (λ (l : List Frame). AreFrames t.names t.store l (length l)) (sym e)
              (frames-take t.names t.store t.frames.items k below (frames-fewer t.names t.store t.frames.items (length t.frames.items) k below h.frames_are));
        }
    go false q =
        let above : length t.frames.items ≤ k = grind (arith, nat_tests) in
        let whole : frames.items ≡ t.frames.items = e ∙ take_all k t.frames.items above in
        record {
          m = length t.frames.items;
          low = omega (arith, less);
          le = let a = ap length whole in omega (arith, a);
          same = subst (λ (l : List Frame). AreSame t.frames.items l (length t.frames.items)) (sym whole) (λ _ _. refl);
          choices = h.choices_are;
          kept = subst (λ (l : List Frame). AreFrames t.names t.store l (length l)) (sym whole) h.frames_are;
        }

module _ {C : Type 0} (t : Terms C) (h : AreTerms t) (i : ℕ) (n : t.next ≡ suc i) (f : Frame) (is : f ≡ frame_at t.frames.items i) (frames : Vec Frame) (k : Keeps t frames i) where
  less : i < length t.frames.items
  less = let a = h.next_is in omega (arith, a, n)

  down : f.next ≤ i
  down = subst (λ (g : Frame). g.next ≤ i) (sym is) (h.frames_are i less).lower

  pub terms-pop : AreTerms (record t { frames = frames; next = f.next })
  terms-pop = terms-frames t h frames f.next k.m k.same k.le k.choices k.kept (let a = down in let b = k.low in let d = k.le in omega (arith, a, b, d))

  rest : goals_at (term_of t.names t.store) frames.items f.next ≡ goals_at (term_of t.names t.store) t.frames.items f.next
  rest =
      goals_at-same (term_of t.names t.store) (term_of t.names t.store) t.frames.items frames.items i
      (λ j lt. (h.frames_are j (let a = less in omega (arith, a, lt))).lower) (λ j lt. k.same j (let a = k.low in omega (arith, a, lt))) (λ _ _. refl) f.next down

  pub goals-pop : (said t).goals ≡ next_now (record t { frames = frames; next = f.next }) f.what ∷ (said (record t { frames = frames; next = f.next })).goals
  unfolding said built
  goals-pop =
      ap (goals_at (term_of t.names t.store) t.frames.items) n
      ∙ goals_at-next (term_of t.names t.store) t.frames.items (length t.frames.items) i (lower t.names t.store t.frames.items (length t.frames.items) h.frames_are) less
      ∙ ap (λ (g : Frame). next_of (term_of t.names t.store) g.what ∷ goals_at (term_of t.names t.store) t.frames.items g.next) (sym is)
      ∙ ap (λ (gs : List Next). next_of (term_of t.names t.store) f.what ∷ gs) (sym rest)

  pub same-pop : said (record t { frames = frames; next = f.next }) ≡ record (said t) { goals = (said (record t { frames = frames; next = f.next })).goals }
  unfolding said
  same-pop = said-frames t h frames f.next k.m k.same k.choices _ refl

  pub next-pop : IsNext (record t { frames = frames; next = f.next }) f.what
  next-pop = next-waiting (record t { frames = frames; next = f.next }) f.what (subst (λ (g : Frame). IsWaiting t.names t.store g.what) (sym is) (h.frames_are i less).what)
