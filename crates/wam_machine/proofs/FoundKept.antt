-- The mark of a `findall` keeps one more copy: what the terms say of that, and what the definition does.
use Rattle.std.proofs.Common.{◌≡◌, ℕ, zero, suc, ◌+◌, ◌<◌, ◌≤◌, List, [], ◌∷◌, ◌++◌, length, get_or, refl, sym, ap, ◌∙◌, arith, subst, Option, append_assoc}
use Rattle.std.specs.Prelude.{map, reverse, ◌≢◌}
use Rattle.std.specs.Global.{Vec}
use Rattle.std.specs.List.{cons_option}
use Rattle.std.proofs.Math.ListN.{set}
use Rattle.std.proofs.lemmas.List.{reverse-append}
use Rattle.prolog_terms.specs.Tree.{Tree}
use Rattle.term_store.specs.Shape.{Shape}
use Rattle.term_store.specs.declared.cell.Cell.{Cell}
use Rattle.term_store.specs.Terms.{term_of}
use Rattle.term_store.specs.Later.{back}
use Rattle.journal_base.specs.Goals.{Goal}
use Rattle.journals.specs.Journal.{Journal}
use Rattle.wam_machine.specs.States as spec
use Rattle.wam_machine.specs.Machine.{with_found, found_at}
use Rattle.wam_machine.specs.Laws.{newest}
use Rattle.wam_machine.specs.Terms.{Left, Turn, OfCall, OfRight, OfRepeat, OfNot, OfCatch, OfFindall, Saved, Said, said, saved_of, turn_of, turn_with, found_from, found_in, call_in, calls_in, IsKeptTurn, AreChoices, AreTerms}
use Rattle.wam_machine.specs.View.{alternative_of, choice_of, stack_of}
use Rattle.wam_machine.specs.declared.terms.Alternative.{Alternative}
use Rattle.wam_machine.specs.declared.terms.Alternative.TheVariants as is
use Rattle.wam_machine.specs.declared.terms.Choice.{Choice}
use Rattle.wam_machine.specs.declared.terms.Frame.{Frame}
use Rattle.wam_machine.specs.declared.terms.Terms.{Terms}
use Rattle.wam_machine.proofs.FoundAt.{at_head, at_tail, found-low}
use Rattle.wam_machine.proofs.Marked.{terms-choices}

-- ---- one place of a list

-- a list is what stands before a place, what stands there, and what stands behind it
record IsAround {A : Type 0} (xs : List A) (i : ℕ) (x : A) : Type 0 where
  before : List A
  behind : List A
  is : xs ≡ before ++ x ∷ behind
  set_is : (y : A) → set xs i y ≡ before ++ y ∷ behind

around : {A : Type 0} (xs : List A) (i : ℕ) (x : A) → i < length xs → x ≡ get_or xs i x → IsAround xs i x
around [] i x low e = absurd (omega arith)
around (z ∷ zs) zero x low e = record { before = []; behind = zs; is = ap (λ y. y ∷ zs) (sym e); set_is = λ y. refl }
around (z ∷ zs) (suc i) x low e =
    let h = around zs i x (omega arith) e in
    record { before = z ∷ h.before; behind = h.behind; is = ap (λ l. z ∷ l) h.is; set_is = λ y. ap (λ l. z ∷ l) (h.set_is y) }

reversed : {A : Type 0} (xs : List A) (y : A) (zs : List A) → reverse (xs ++ y ∷ zs) ≡ reverse zs ++ y ∷ reverse xs
reversed xs y zs =
    reverse-append xs (y ∷ zs) ∙ ap (λ l. l ++ reverse xs) (reverse-append (y ∷ []) zs) ∙ append_assoc (reverse zs) (y ∷ []) (reverse xs)

-- ---- the moments are kept

module _ {C : Type 0} (texts : List (List ℕ)) (frames : List Frame) (shown : Cell) (c : Choice C) (w : Alternative C) (still : (u : Shape) → IsKeptTurn texts u c.what → IsKeptTurn texts u w) where
  choices-changed : (s : Shape) (n : ℕ) (us vs : List (Choice C)) → AreChoices texts s frames n shown (us ++ c ∷ vs) → AreChoices texts s frames n shown (us ++ record c { what = w } ∷ vs)
  choices-changed s n [] vs h = (record { mark = h.0.mark; next = h.0.next; frames_are = h.0.frames_are; what = still (back c.mark s) h.0.what }, h.1, h.2, h.3)
  choices-changed s n (u ∷ us) vs h = (h.0, h.1, h.2, choices-changed (back u.mark s) u.frames us vs h.3)

module _ {C : Type 0} (t : Terms C) (choices : Vec (Choice C)) (i : ℕ) (c : Choice C) (w : Alternative C) (low : i < length t.choices.items) (here : c ≡ get_or t.choices.items i c)
    (set_is : choices.items ≡ set t.choices.items i (record c { what = w })) where
  pub terms-changed : AreTerms t → ((u : Shape) → IsKeptTurn t.names u c.what → IsKeptTurn t.names u w) → AreTerms (record t { choices = choices })
  terms-changed h still =
      let a = around t.choices.items i c low here in
      let d : Choice C = record c { what = w } in
      let P : List (Choice C) → Type 0 = λ cs. AreChoices t.names t.store t.frames.items (length t.frames.items) t.shown cs in
      terms-choices t h choices
      (subst P (sym (ap reverse (set_is ∙ a.set_is d) ∙ reversed a.before d a.behind))
      (choices-changed t.names t.frames.items t.shown c w still t.store (length t.frames.items) (reverse a.behind) (reverse a.before)
      (subst P (ap reverse a.is ∙ reversed a.before c a.behind) h.choices_are)))

-- ---- what is said

found-set : {C : Type 0} (f : Choice C → Saved C) (copy : Tree) (items : List (Choice C)) (i : ℕ) (c d : Choice C) → i < length items → c ≡ get_or items i c
    → f d ≡ record (f c) { turn = turn_with copy (f c).turn } → map f (set items i d) ≡ found_from i copy (map f items)
found-set f copy [] i c d low here e = absurd (omega arith)
found-set f copy (x ∷ xs) zero c d low here e = ap (λ s. s ∷ map f xs) (e ∙ ap (λ (y : Choice _). let r : Saved _ = record (f y) { turn = turn_with copy (f y).turn } in r) here)
found-set f copy (x ∷ xs) (suc i) c d low here e = ap (λ l. f x ∷ l) (found-set f copy xs i c d (omega arith) here e)

same-set : {C : Type 0} (f : Choice C → Saved C) (items : List (Choice C)) (i : ℕ) (c d : Choice C) → i < length items → c ≡ get_or items i c → f d ≡ f c → map f (set items i d) ≡ map f items
same-set f [] i c d low here e = absurd (omega arith)
same-set f (x ∷ xs) zero c d low here e = ap (λ s. s ∷ map f xs) (e ∙ ap f here)
same-set f (x ∷ xs) (suc i) c d low here e = ap (λ l. f x ∷ l) (same-set f xs i c d (omega arith) here e)

module _ {C : Type 0} (t : Terms C) (choices : Vec (Choice C)) (i : ℕ) (c : Choice C) (w : Alternative C) (low : i < length t.choices.items) (here : c ≡ get_or t.choices.items i c)
    (set_is : choices.items ≡ set t.choices.items i (record c { what = w })) where
  pub said-found : (h : ℕ) (copy : Tree) → h ≡ suc i → ((tree : Cell → Tree) → turn_of tree w ≡ turn_with copy (turn_of tree c.what))
      → said (record t { choices = choices }) ≡ record (said t) { stack = found_in h copy (said t).stack }
  unfolding said
  said-found h copy e turn =
      let f = saved_of t.names t.store t.frames.items in
      ap (λ (ss : List (Saved C)). let r : Said C = record (said t) { stack = ss } in r)
      (ap (map f) set_is
      ∙ found-set f copy t.choices.items i c (record c { what = w }) low here
      (ap (λ (u : Turn C). let r : Saved C = record (f c) { turn = u } in r) (turn (term_of t.names (back c.mark t.store))))
      ∙ ap (λ (n : ℕ). found_in n copy (map f t.choices.items)) (sym e))

  pub stack-same : ((tree : Cell → Tree) → turn_of tree w ≡ turn_of tree c.what) → (said (record t { choices = choices })).stack ≡ (said t).stack
  unfolding said
  stack-same turn =
      let f = saved_of t.names t.store t.frames.items in
      ap (map f) set_is
      ∙ same-set f t.choices.items i c (record c { what = w }) low here (ap (λ (u : Turn C). let r : Saved C = record (f c) { turn = u } in r) (turn (term_of t.names (back c.mark t.store))))

-- ---- what is changed at the place

module _ {C : Type 0} (what : Alternative C) (list : Cell) (found found_then : Vec Tree) (e : what ≡ is.FindallMark list found) where
  pub kept-more : (texts : List (List ℕ)) (u : Shape) → IsKeptTurn {C = C} texts u what → IsKeptTurn {C = C} texts u (is.FindallMark list found_then)
  kept-more texts u h = subst (λ (w : Alternative C). IsKeptTurn texts u w) e h

  pub turn-more : (copy : Tree) → found_then.items ≡ found.items ++ copy ∷ [] → (tree : Cell → Tree) → turn_of tree (is.FindallMark list found_then) ≡ turn_with copy (turn_of tree what)
  turn-more copy more tree = ap (λ (l : List Tree). OfFindall (tree list) l) more ∙ ap (λ (w : Alternative C). turn_with copy (turn_of tree w)) (sym e)

  pub turn-still : found_then.items ≡ found.items → (tree : Cell → Tree) → turn_of tree (is.FindallMark list found_then) ≡ turn_of tree what
  turn-still same tree = ap (λ (l : List Tree). OfFindall (tree list) l) same ∙ ap (λ (w : Alternative C). turn_of tree w) (sym e)

pub turn-other : {C : Type 0} (what : Alternative C) (copy : Tree) → ((list : Cell) (found : Vec Tree) → what ≡ is.FindallMark list found → ⊥) → (tree : Cell → Tree) → turn_of tree what ≡ turn_with copy (turn_of tree what)
turn-other (is.Clauses c) copy other tree = refl
turn-other (is.Right c h) copy other tree = refl
turn-other is.Again copy other tree = refl
turn-other is.NotMark copy other tree = refl
turn-other (is.CatchMark c r) copy other tree = refl
turn-other (is.FindallMark list found) copy other tree = absurd (other list found refl)

-- ---- where no mark is so high

past-from : {C : Type 0} (k : ℕ) (copy : Tree) (ss : List (Saved C)) → length ss ≤ k → found_from k copy ss ≡ ss
past-from zero copy [] low = refl
past-from (suc k) copy [] low = refl
past-from zero copy (s ∷ ss) low = absurd (omega arith)
past-from (suc k) copy (s ∷ ss) low = ap (λ l. s ∷ l) (past-from k copy ss (omega arith))

pub past-in : {C : Type 0} (h : ℕ) (copy : Tree) (ss : List (Saved C)) → length ss < h → found_in h copy ss ≡ ss
past-in zero copy ss low = refl
past-in (suc k) copy ss low = past-from k copy ss (omega arith)

-- ---- calls

call-with : {C : Type 0} (copy : Tree) (t : Turn C) → call_in (turn_with copy t) ≡ call_in t
call-with copy (OfCall c) = refl
call-with copy (OfRight g h) = refl
call-with copy OfRepeat = refl
call-with copy OfNot = refl
call-with copy (OfCatch c r) = refl
call-with copy (OfFindall l f) = refl

calls-from : {C : Type 0} (k : ℕ) (copy : Tree) (ss : List (Saved C)) → calls_in (found_from k copy ss) ≡ calls_in ss
calls-from zero copy [] = refl
calls-from (suc k) copy [] = refl
calls-from {C} zero copy (s ∷ ss) = ap (λ (o : Option (Left C)). cons_option o (calls_in ss)) (call-with copy s.turn)
calls-from {C} (suc k) copy (s ∷ ss) = ap (λ (cs : List (Left C)). cons_option (call_in s.turn) cs) (calls-from k copy ss)

pub calls-found : {C : Type 0} (h : ℕ) (copy : Tree) (ss : List (Saved C)) → calls_in (found_in h copy ss) ≡ calls_in ss
calls-found zero copy ss = refl
calls-found (suc k) copy ss = calls-from k copy ss

-- ---- what the definition does

module _ {C : Type 0} (rest : C → Goal → Journal → List ℕ) (at : C → ℕ) (j : Journal) (copy : Tree) where
  alternative-with : (t : Turn C) → alternative_of rest at j (turn_with copy t) ≡ with_found copy (alternative_of rest at j t)
  alternative-with (OfCall c) = refl
  alternative-with (OfRight g h) = refl
  alternative-with OfRepeat = refl
  alternative-with OfNot = refl
  alternative-with (OfCatch c r) = refl
  alternative-with (OfFindall l f) = refl

  -- below the moments that are put onto others
  found-under : (h : ℕ) (ss : List (Saved C)) (onto : List spec.Choice) → h ≤ length onto
      → found_at h copy (newest (choice_of rest at j) ss onto) ≡ newest (choice_of rest at j) ss (found_at h copy onto)
  found-under h [] onto low = refl
  found-under h (s ∷ ss) onto low =
      found-under h ss (choice_of rest at j s ∷ onto) (higher low) ∙ ap (newest (choice_of rest at j) ss) (at_tail h copy (choice_of rest at j s) onto (other low))
    where
      higher : h ≤ length onto → h ≤ suc (length onto)
      higher l = omega (arith, l)

      other : h ≤ length onto → suc (length onto) ≢ h
      other l e = omega (arith, l, e)

  found-above : (h k : ℕ) (ss : List (Saved C)) (onto : List spec.Choice) → h ≡ suc (length onto + k)
      → found_at h copy (newest (choice_of rest at j) ss onto) ≡ newest (choice_of rest at j) (found_from k copy ss) onto
  found-above h zero [] onto e = found-low h copy onto (omega (arith, e))
  found-above h (suc k) [] onto e = found-low h copy onto (omega (arith, e))
  found-above h zero (s ∷ ss) onto e =
      found-under h ss (choice_of rest at j s ∷ onto) (within e)
      ∙ ap (newest (choice_of rest at j) ss)
      (at_head h copy (choice_of rest at j s) onto (same e)
      ∙ ap (λ (a : spec.Alternative). let r : spec.Choice = record { what = a; goals = s.goals; bindings = s.bindings } in r ∷ onto) (sym (alternative-with s.turn)))
    where
      within : h ≡ suc (length onto + 0) → h ≤ suc (length onto)
      within e = omega (arith, e)

      same : h ≡ suc (length onto + 0) → suc (length onto) ≡ h
      same e = omega (arith, e)
  found-above h (suc k) (s ∷ ss) onto e = found-above h k ss (choice_of rest at j s ∷ onto) (next e)
    where
      next : h ≡ suc (length onto + suc k) → h ≡ suc (suc (length onto) + k)
      next e = omega (arith, e)

  none-found : (st : List spec.Choice) → found_at 0 copy st ≡ st
  none-found [] = refl
  none-found (c ∷ below) = at_tail 0 copy c below (λ e. nothing e) ∙ ap (λ (cs : List spec.Choice). c ∷ cs) (none-found below)
    where
      nothing : suc (length below) ≡ 0 → ⊥
      nothing e = omega (arith, e)

  pub found-newest : (h : ℕ) (ss : List (Saved C)) → found_at h copy (stack_of rest at j ss) ≡ stack_of rest at j (found_in h copy ss)
  found-newest zero ss = none-found (stack_of rest at j ss)
  found-newest (suc k) ss = found-above (suc k) k ss [] (omega arith)
