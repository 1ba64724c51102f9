-- The innermost `catch` that is active, along the frames.
use Rattle.std.proofs.Common.{◌≡◌, ℕ, suc, ◌-◌, ◌<◌, ◌≤◌, List, ◌∷◌, length, refl, sym, ap, ◌∙◌, arith, Option, Some, None}
use Rattle.prolog_terms.specs.Tree.{Tree}
use Rattle.term_store.specs.declared.cell.Cell.{Cell}
use Rattle.term_store.specs.Terms.{term_of}
use Rattle.wam_machine.specs.States.{Next}
use Rattle.wam_machine.specs.Machine.{active_catch}
use Rattle.wam_machine.specs.declared.terms.Frame.{Frame}
use Rattle.wam_machine.specs.declared.terms.Terms.{Terms}
use Rattle.wam_machine.specs.declared.terms.Next.{Next as Waiting}
use Rattle.wam_machine.specs.declared.terms.Next.TheVariants as waits
use Rattle.wam_machine.specs.Terms.{said, AreTerms, frame_at, goals_at, next_of}
use Rattle.wam_machine.proofs.Frames.{lower, goals_at-next, goals_at-none}

-- what isn't the end of a `catch` is passed
passed : (tree : Cell → Tree) (what : Waiting) (rest : List Next) → ((h : ℕ) → what ≡ waits.CatchEnd h → ⊥) → active_catch (next_of tree what ∷ rest) ≡ active_catch rest
passed tree (waits.Do c h) rest other = refl
passed tree (waits.ConditionEnd h) rest other = refl
passed tree (waits.NotEnd h) rest other = refl
passed tree (waits.CatchEnd h) rest other = absurd (other h refl)
passed tree (waits.FindallEnd c h) rest other = refl

abbrev pub catch_from : {C : Type 0} → Terms C → ℕ → Option ℕ
catch_from t n = active_catch (goals_at (term_of t.names t.store) t.frames.items n)

-- from a frame on it is the same as from the first
pub record IsSought {C : Type 0} (t : Terms C) (left : ℕ) : Type 0 where
  pub within : left ≤ length t.frames.items
  pub same : catch_from t left ≡ active_catch (said t).goals

module _ {C : Type 0} (t : Terms C) (h : AreTerms t) where
  pub sought-first : IsSought t t.next
  unfolding said
  sought-first = record { within = h.next_is; same = refl }

  module _ (left i : ℕ) (k : IsSought t left) (some : 0 < left) (e : i ≡ left - 1) (f : Frame) (is : f ≡ frame_at t.frames.items i) where
    one-more : left ≡ suc i
    one-more = omega (arith, some, e)

    inside : i < length t.frames.items
    inside = let a = k.within in omega (arith, some, e, a)

    down : f.next ≤ i
    down = let a = (h.frames_are i inside).lower in let b = ap (λ (g : Frame). g.next) is in omega (arith, a, b)

    here : catch_from t left ≡ active_catch (next_of (term_of t.names t.store) f.what ∷ goals_at (term_of t.names t.store) t.frames.items f.next)
    here =
        ap (catch_from t) one-more
        ∙ ap active_catch (goals_at-next (term_of t.names t.store) t.frames.items (length t.frames.items) i (lower t.names t.store t.frames.items (length t.frames.items) h.frames_are) inside)
        ∙ ap (λ (g : Frame). active_catch (next_of (term_of t.names t.store) g.what ∷ goals_at (term_of t.names t.store) t.frames.items g.next)) (sym is)

    pub sought-found : (height : ℕ) → f.what ≡ waits.CatchEnd height → Some height ≡ active_catch (said t).goals
    sought-found height w =
        sym (ap (λ (x : Waiting). active_catch (next_of (term_of t.names t.store) x ∷ goals_at (term_of t.names t.store) t.frames.items f.next)) w) ∙ sym here ∙ k.same

    pub sought-on : ((height : ℕ) → f.what ≡ waits.CatchEnd height → ⊥) → IsSought t f.next
    sought-on other = record {
      within = let a = down in let b = inside in omega (arith, a, b);
      same = sym (passed (term_of t.names t.store) f.what (goals_at (term_of t.names t.store) t.frames.items f.next) other) ∙ sym here ∙ k.same;
    }

    pub sought-less : f.next < left
    sought-less = let a = down in let b = one-more in omega (arith, a, b)

pub sought-none : {C : Type 0} (t : Terms C) (left : ℕ) → IsSought t left → left ≤ 0 → None ≡ active_catch (said t).goals
sought-none t left k low =
    let e : 0 ≡ left = omega arith in
    sym (ap active_catch (goals_at-none (term_of t.names t.store) t.frames.items)) ∙ ap (catch_from t) e ∙ k.same
