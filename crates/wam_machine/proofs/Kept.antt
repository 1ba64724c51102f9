-- Cursors that are out: those of the calls that are kept.
use Rattle.std.proofs.Common.{◌≡◌, ℕ, ◌+◌, ◌<◌, ◌≤◌, List, [], ◌∷◌, ◌++◌, length, get_or, Bool, true, false, eq-eqb, refl, sym, ap, ◌∙◌, subst, arith}
use Rattle.std.specs.Prelude.{◌==◌, if◌then◌else◌, All}
use Rattle.std.proofs.Math.Path.{fun_ext}
use Rattle.std.proofs.lemmas.List.Elements.{All-nil, All-cons, All-head, All-tail, All-push}
use Rattle.journal_base.specs.Goals.{Goal}
use Rattle.journal_base.specs.View.{Out, none_out, opened}
use Rattle.wam_machine.specs.Cursors.{goal_of}
use Rattle.wam_machine.specs.View.{all_out, AreKept}
use Rattle.wam_machine.specs.Terms.{Left}

-- ---- what holds of each of a list with one more

module _ {X : Type 0} (P : X → Type 0) where
  pub all_front : (xs : List X) (y : X) → All P (xs ++ y ∷ []) → All P xs
  all_front [] y h = All-nil P
  all_front (x ∷ xs) y h = All-cons P x xs (All-head P x (xs ++ y ∷ []) h) (all_front xs y (All-tail P x (xs ++ y ∷ []) h))

  pub all_last : (xs : List X) (y : X) → All P (xs ++ y ∷ []) → P y
  all_last [] y h = All-head P y [] h
  all_last (x ∷ xs) y h = all_last xs y (All-tail P x (xs ++ y ∷ []) h)

-- ---- counts of cursors

-- one more of the same group on both sides
pub opened-same : (g : ℕ) (a b : Out) → opened g a ≡ opened g b → a ≡ b
opened-same g a b e =
    let all : a.all + 1 ≡ b.all + 1 = ap (λ (o : Out). o.all) e in
    let same : a.all ≡ b.all = omega arith in
    ap (λ (n : ℕ). record a { all = n }) same
    ∙ ap (λ (f : ℕ → ℕ). record b { of_group = f }) (fun_ext (λ (h : ℕ). go (a.of_group h) (b.of_group h) (h == g) (ap (λ (o : Out). o.of_group h) e)))
  where
    go : (m n : ℕ) (t : Bool) → ◌≡◌ {A = ℕ} (if t then m + 1 else m) (if t then n + 1 else n) → m ≡ n
    go m n true k = omega arith
    go m n false k = k

opened-here : (g : ℕ) (o : Out) → (opened g o).of_group g ≡ o.of_group g + 1
opened-here g o = ap (λ (b : Bool). if b then o.of_group g + 1 else o.of_group g) (eq-eqb g g refl)

opened-low : (g h : ℕ) (o : Out) → o.of_group h ≤ (opened g o).of_group h
opened-low g h o = go (h == g)
  where
    go : (b : Bool) → o.of_group h ≤ (if b then o.of_group h + 1 else o.of_group h)
    go true = omega arith
    go false = omega arith

module _ {C : Type 0} (group : C → ℕ) where
  pub all_out-push : (o : Out) (cs : List (Left C)) (c : Left C) → all_out group o (cs ++ c ∷ []) ≡ opened (group c.cursor) (all_out group o cs)
  all_out-push o [] c = refl
  all_out-push o (x ∷ xs) c = all_out-push (opened (group x.cursor) o) xs c

  all_out-low : (o : Out) (cs : List (Left C)) (h : ℕ) → o.of_group h ≤ (all_out group o cs).of_group h
  all_out-low o [] h = omega arith
  all_out-low o (x ∷ xs) h = omega (arith, opened-low (group x.cursor) h o, all_out-low (opened (group x.cursor) o) xs h)

  -- a cursor of each call's group is out
  each_out : (o : Out) (cs : List (Left C)) → All (λ c. 0 < (all_out group o cs).of_group (group c.cursor)) cs
  each_out o [] = All-nil _
  each_out o (x ∷ xs) =
      All-cons (λ c. 0 < (all_out group (opened (group x.cursor) o) xs).of_group (group c.cursor)) x xs
      (omega (arith, opened-here (group x.cursor) o, all_out-low (opened (group x.cursor) o) xs (group x.cursor)))
      (each_out (opened (group x.cursor) o) xs)

  count_out : (o : Out) (cs : List (Left C)) → (all_out group o cs).all ≡ o.all + length cs
  count_out o [] = omega arith
  count_out o (x ∷ xs) = omega (arith, count_out (opened (group x.cursor) o) xs)

  -- as many are out as there are calls
  pub all_out-length : (cs : List (Left C)) → (all_out group none_out cs).all ≡ length cs
  all_out-length cs = omega (arith, count_out none_out cs)

  -- ---- calls that are kept

  module _ (serves : C → Goal → Type 0) (out : Out) (cs : List (Left C)) where
    -- so many cursors are out
    pub kept_count : AreKept serves group out cs → out.all ≡ length cs
    kept_count h = ap (λ (o : Out). o.all) h.out_is ∙ all_out-length cs

    module _ (c : Left C) where
      -- the last call's cursor may be used
      pub last_serves : AreKept serves group out (cs ++ c ∷ []) → serves c.cursor (goal_of c)
      last_serves h = all_last (λ x. serves x.cursor (goal_of x)) cs c h.serve

      last_is : AreKept serves group out (cs ++ c ∷ []) → out ≡ opened (group c.cursor) (all_out group none_out cs)
      last_is h = h.out_is ∙ all_out-push none_out cs c

      -- and a cursor of its group is out
      pub last_out : AreKept serves group out (cs ++ c ∷ []) → 0 < out.of_group (group c.cursor)
      last_out h = omega (arith, ap (λ (o : Out). o.of_group (group c.cursor)) (last_is h), opened-here (group c.cursor) (all_out group none_out cs))

    module _ (serves_after : C → Goal → Type 0) (after : Out) where
      -- nothing was given up
      pub kept_on : AreKept serves group out cs → ((c : C) (g : Goal) → serves c g → serves_after c g) → after ≡ out → AreKept serves_after group after cs
      kept_on h others same = record {
        serve = λ k d lt. others _ _ (h.serve k d lt);
        out_is = same ∙ h.out_is;
      }

      -- one more call was looked up
      pub kept_more : (c : Left C) → AreKept serves group out cs → ((d : C) (g : Goal) → serves d g → serves_after d g) → after ≡ opened (group c.cursor) out
          → serves_after c.cursor (goal_of c) → AreKept serves_after group after (cs ++ c ∷ [])
      kept_more c h others opens new = record {
        serve = All-push (λ x. serves_after x.cursor (goal_of x)) cs c (λ k d lt. others _ _ (h.serve k d lt)) new;
        out_is = opens ∙ ap (opened (group c.cursor)) h.out_is ∙ sym (all_out-push none_out cs c);
      }

      -- the last call was given up
      pub kept_without : (c : Left C) → AreKept serves group out (cs ++ c ∷ []) → ((d : C) (g : Goal) → serves d g → 0 < after.of_group (group d) → serves_after d g)
          → out ≡ opened (group c.cursor) after → AreKept serves_after group after cs
      kept_without c h others gives = record {
        serve = λ k d lt. others _ _ (all_front (λ x. serves x.cursor (goal_of x)) cs c h.serve k d lt)
            (subst (λ (o : Out). 0 < o.of_group (group (get_or cs k d).cursor)) (sym same) (each_out none_out cs k d lt));
        out_is = same;
      }
        where
          same : after ≡ all_out group none_out cs
          same = opened-same (group c.cursor) after (all_out group none_out cs) (sym gives ∙ last_is c h)

      -- another cursor of its group stands in place of the last call's
      pub kept_changed : (c d : Left C) → AreKept serves group out (cs ++ c ∷ []) → ((e : C) (g : Goal) → serves e g → serves_after e g) → after ≡ out
          → group d.cursor ≡ group c.cursor → serves_after d.cursor (goal_of d) → AreKept serves_after group after (cs ++ d ∷ [])
      kept_changed c d h others same alike new = record {
        serve = All-push (λ x. serves_after x.cursor (goal_of x)) cs d (λ k e lt. others _ _ (all_front (λ x. serves x.cursor (goal_of x)) cs c h.serve k e lt)) new;
        out_is = same ∙ last_is c h ∙ ap (λ n. opened n (all_out group none_out cs)) (sym alike) ∙ sym (all_out-push none_out cs d);
      }
