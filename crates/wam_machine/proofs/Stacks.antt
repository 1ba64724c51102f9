-- The moments that may be gone back to: what they do not depend on.
use Rattle.std.proofs.Common.{◌≡◌, ℕ, ◌≤◌, List, [], ◌∷◌, length, refl, sym, ap, ap₂, ◌∙◌, arith, subst}
use Rattle.std.specs.Prelude.{map, reverse}
use Rattle.std.proofs.lemmas.List.{reverse-reverse}
use Rattle.indexmap.proofs.ReorderLemmas.{map-reverse}
use Rattle.term_store.specs.Shape.{Shape}
use Rattle.term_store.specs.declared.cell.Cell.{Cell}
use Rattle.term_store.specs.declared.cell.Trailed.{Trailed}
use Rattle.term_store.specs.Terms.{term_of, meaning, HasTerm}
use Rattle.term_store.specs.Later.{back, CanGoBack}
use Rattle.wam_machine.specs.States.{Next}
use Rattle.wam_machine.specs.declared.terms.Frame.{Frame}
use Rattle.wam_machine.specs.declared.terms.Choice.{Choice}
use Rattle.wam_machine.specs.Terms.{Saved, turn_of, goals_at, saved_of, IsKeptTurn, AreFrames, AreChoices}
use Rattle.wam_machine.proofs.Frames.{AreSame, lower, frames-same, goals_at-same}
use Rattle.wam_machine.proofs.Backs.{back-back, can_go-older}

-- frames above those that they keep do not matter
pub choices-same : {C : Type 0} (texts : List (List ℕ)) (s : Shape) (old new : List Frame) (shown : Cell) (n m : ℕ) → AreSame old new n → n ≤ m
    → (cs : List (Choice C)) → AreChoices texts s old n shown cs → AreChoices texts s new m shown cs
choices-same texts s old new shown n m same le [] h = tt
choices-same texts s old new shown n m same le (c ∷ cs) h =
    let fewer : AreSame old new c.frames = λ i less. same i (let b = h.1 in omega (arith, less, b)) in (
      record {
        mark = h.0.mark;
        next = h.0.next;
        frames_are = frames-same texts (back c.mark s) old new c.frames fewer h.0.frames_are;
        what = h.0.what;
      },
      (let b = h.1 in omega (arith, le, b)),
      h.2,
      choices-same texts (back c.mark s) old new shown c.frames c.frames fewer (omega arith) cs h.3,
    )

-- they are as they were where the store is what it was at their marks
pub saved-same : {C : Type 0} (texts : List (List ℕ)) (s t at : Shape) (old new : List Frame) (shown : Cell) (n : ℕ) → AreSame old new n
    → ((m : Trailed) → CanGoBack m at → (back m t ≡ back m at) × (back m s ≡ back m at))
    → (cs : List (Choice C)) → AreChoices texts at old n shown cs → map (saved_of texts t new) cs ≡ map (saved_of texts s old) cs
saved-same texts s t at old new shown n same stores [] h = refl
saved-same {C} texts s t at old new shown n same stores (c ∷ cs) h =
    let fewer : AreSame old new c.frames = λ i less. same i (let b = h.1 in omega (arith, less, b)) in
    let here = stores c.mark h.0.mark in
    let low = lower texts (back c.mark at) old c.frames h.0.frames_are in
    let goals = goals_at-same (term_of texts (back c.mark at)) (term_of texts (back c.mark at)) old new c.frames low fewer (λ _ _. refl) c.next h.0.next in
    let first : saved_of texts t new c ≡ saved_of texts s old c =
    ap (λ (u : Shape). record { turn = turn_of (term_of texts u) c.what; goals = goals_at (term_of texts u) new c.next; bindings = meaning texts u }) here.0
    ∙ ap (λ (gs : List Next). record { turn = turn_of (term_of texts (back c.mark at)) c.what; goals = gs; bindings = meaning texts (back c.mark at) }) goals
    ∙ ap (λ (u : Shape). record { turn = turn_of (term_of texts u) c.what; goals = goals_at (term_of texts u) old c.next; bindings = meaning texts u }) (sym here.1)
    in
    ap₂ (λ (l : Saved C) (ls : List (Saved C)). l ∷ ls) first
    (saved-same texts s t (back c.mark at) old new shown c.frames fewer
    (λ m near.
    let far = can_go-older m c.mark at h.0.mark near in
    let all = stores m far in
    let down = back-back m c.mark at h.0.mark near in
    (all.0 ∙ sym down, all.1 ∙ sym down)) cs h.3)

-- what is so of each, the newest first, is so of each in order
pub by_reverse : {A B : Type 0} (f g : A → B) (xs : List A) → map f (reverse xs) ≡ map g (reverse xs) → map f xs ≡ map g xs
by_reverse f g xs e =
    sym (reverse-reverse (map f xs)) ∙ ap reverse (sym (map-reverse f xs) ∙ e ∙ map-reverse g xs) ∙ reverse-reverse (map g xs)

-- the older ones without the newest
pub choices-without : {C : Type 0} (texts : List (List ℕ)) (s : Shape) (frames : List Frame) (shown : Cell) (n : ℕ) (c : Choice C) (cs : List (Choice C))
    → AreChoices texts s frames n shown (c ∷ cs) → AreChoices texts s frames n shown cs
choices-without texts s frames shown n c [] h = tt
choices-without texts s frames shown n c (d ∷ ds) h =
    let same : back d.mark (back c.mark s) ≡ back d.mark s = back-back d.mark c.mark s h.0.mark h.3.0.mark in (
      record {
        mark = can_go-older d.mark c.mark s h.0.mark h.3.0.mark;
        next = h.3.0.next;
        frames_are = subst (λ (u : Shape). AreFrames texts u frames d.frames) same h.3.0.frames_are;
        what = subst (λ (u : Shape). IsKeptTurn texts u d.what) same h.3.0.what;
      },
      (let a = h.1 in let b = h.3.1 in omega (arith, a, b)),
      subst (λ (u : Shape). HasTerm (length texts) u shown) same h.3.2,
      subst (λ (u : Shape). AreChoices texts u frames d.frames shown ds) same h.3.3,
    )
