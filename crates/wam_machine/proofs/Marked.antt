-- A moment is saved, gone back to, and taken away.
use Rattle.std.proofs.Common.{◌≡◌, ℕ, List, [], ◌∷◌, ◌++◌, length, take, refl, sym, ap, ◌∙◌, arith, subst}
use Rattle.std.specs.Prelude.{map, reverse, Some, None}
use Rattle.std.specs.Global.{Vec}
use Rattle.std.proofs.lemmas.List.{length-take-le, map-append, reverse-append}
use Rattle.term_store.specs.Shape.{Shape}
use Rattle.term_store.specs.declared.cell.Cell.{Cell}
use Rattle.term_store.specs.declared.cell.Trailed.{Trailed}
use Rattle.term_store.specs.Terms.{raw, term_of, meaning, HasTerm}
use Rattle.term_store.specs.Later.{back, CanGoBack}
use Rattle.wam_machine.specs.States.{Next}
use Rattle.wam_machine.specs.declared.terms.Alternative.{Alternative}
use Rattle.wam_machine.specs.declared.terms.Alternative.TheVariants as is
use Rattle.prolog_terms.specs.Tree.{Tree}
use Rattle.wam_machine.specs.Choices.{IsCallOf}
use Rattle.wam_machine.specs.declared.terms.Call.{Call}
use Rattle.wam_machine.specs.declared.terms.Frame.{Frame}
use Rattle.wam_machine.specs.declared.terms.Choice.{Choice}
use Rattle.wam_machine.specs.declared.terms.Terms.{Terms}
use Rattle.wam_machine.specs.Terms.{Saved, said, built, saved_now, saved_of, turn_of, IsBuilt, IsTurn, IsKeptTurn, KeepsCells, AreTerms, AreFrames, AreChoices, IsChoice, goals_at}
use Rattle.wam_machine.proofs.Frames.{AreSame, lower, same_take, frames-take, goals_at-same}
use Rattle.wam_machine.proofs.Backs.{raw-back, back-back, named-back}
use Rattle.wam_machine.proofs.Stacks.{choices-same, saved-same, choices-without, by_reverse}

pub newest_first : {A : Type 0} (xs : List A) (x : A) → reverse (xs ++ x ∷ []) ≡ x ∷ reverse xs
newest_first xs x = reverse-append xs (x ∷ [])

turn-kept : {C : Type 0} (t : Terms C) (what : Alternative C) → IsTurn t what → IsKeptTurn t.names t.store what
unfolding IsBuilt built
turn-kept t (is.Clauses c) h = h
turn-kept t (is.Right c cut) h = (h.built_is, h.body)
turn-kept t is.Again h = tt
turn-kept t is.NotMark h = tt
turn-kept t (is.CatchMark c r) h = h
turn-kept t (is.FindallMark c found) h = h

kept-turn : {C : Type 0} (t : Terms C) (what : Alternative C) → IsKeptTurn t.names t.store what → IsTurn t what
unfolding IsBuilt built
kept-turn t (is.Clauses c) h = h
kept-turn t (is.Right c cut) h = record { built_is = h.0; body = h.1 }
kept-turn t is.Again h = tt
kept-turn t is.NotMark h = tt
kept-turn t (is.CatchMark c r) h = h
kept-turn t (is.FindallMark c found) h = h

-- ---- a moment is saved

module _ {C : Type 0} (t : Terms C) (h : AreTerms t) (choices : Vec (Choice C)) where
  pub terms-choices : AreChoices t.names t.store t.frames.items (length t.frames.items) t.shown (reverse choices.items) → AreTerms (record t { choices = choices })
  terms-choices kept = record {
    distinct = h.distinct;
    named = h.named;
    frames_are = h.frames_are;
    next_is = h.next_is;
    shown_is = h.shown_is;
    choices_are = kept;
  }

  module _ (what : Alternative C) (is_turn : IsTurn t what) (mark : Trailed) (can : CanGoBack mark t.store) (same : back mark t.store ≡ t.store) (frames : ℕ) (count : frames ≡ length t.frames.items)
      (e : choices.items ≡ t.choices.items ++ record { what = what; next = t.next; frames = frames; mark = mark } ∷ []) where
    left_now : IsChoice t.names t.store t.frames.items (record { what = what; next = t.next; frames = frames; mark = mark })
    left_now = record {
      mark = can;
      next = let a = h.next_is in omega (arith, a, count);
      frames_are = subst (λ (s : Shape). AreFrames t.names s t.frames.items frames) (sym same)
          (subst (AreFrames t.names t.store t.frames.items) (sym count) h.frames_are);
      what = subst (λ (s : Shape). IsKeptTurn t.names s what) (sym same) (turn-kept t what is_turn);
    }

    pub terms-save : AreTerms (record t { choices = choices })
    terms-save =
        terms-choices
        (subst (AreChoices t.names t.store t.frames.items (length t.frames.items) t.shown) (sym (ap reverse e ∙ newest_first t.choices.items _)) (
          left_now,
          omega (arith, count),
          subst (λ (s : Shape). HasTerm (length t.names) s t.shown) (sym same) h.shown_is,
          subst (λ (s : Shape). AreChoices t.names s t.frames.items frames t.shown (reverse t.choices.items)) (sym same)
              (subst (λ (n : ℕ). AreChoices t.names t.store t.frames.items n t.shown (reverse t.choices.items)) (sym count) h.choices_are),
        ))

    pub said-save : said (record t { choices = choices }) ≡ record (said t) { stack = (said t).stack ++ saved_now t what ∷ [] }
    unfolding said built
    said-save =
        ap (λ (ls : List (Saved C)). record {
          goals = goals_at (term_of t.names t.store) t.frames.items t.next;
          bindings = meaning t.names t.store;
          fresh = t.store.variables;
          shown = raw t.names t.store t.shown;
          stack = ls;
        })
        (ap (map (saved_of t.names t.store t.frames.items)) e
        ∙ map-append (saved_of t.names t.store t.frames.items) t.choices.items _
        ∙ ap (λ (s : Shape). map (saved_of t.names t.store t.frames.items) t.choices.items ++ record {
          turn = turn_of (term_of t.names s) what;
          goals = goals_at (term_of t.names s) t.frames.items t.next;
          bindings = meaning t.names s;
        } ∷ []) same)

  -- nothing was saved after all
  module _ (e : choices.items ≡ t.choices.items) where
    pub terms-unsaved : AreTerms (record t { choices = choices })
    terms-unsaved = terms-choices (subst (λ (cs : List (Choice C)). AreChoices t.names t.store t.frames.items (length t.frames.items) t.shown (reverse cs)) (sym e) h.choices_are)

    pub said-unsaved : said (record t { choices = choices }) ≡ said t
    unfolding said
    said-unsaved =
        ap (λ (cs : List (Choice C)). record {
          goals = goals_at (term_of t.names t.store) t.frames.items t.next;
          bindings = meaning t.names t.store;
          fresh = t.store.variables;
          shown = raw t.names t.store t.shown;
          stack = map (saved_of t.names t.store t.frames.items) cs;
        }) e

pub cells-choices : {C : Type 0} (t : Terms C) (choices : Vec (Choice C)) → KeepsCells t (record t { choices = choices })
unfolding IsBuilt built
cells-choices t choices c g = (g, refl)

pub none_there : {A : Type 0} (xs : List A) → length xs ≡ 0 → xs ≡ []
none_there [] e = refl
none_there (x ∷ xs) e = absurd (omega arith)

pub stack-none : {C : Type 0} (t : Terms C) → t.choices.items ≡ [] → (said t).stack ≡ []
unfolding said
stack-none t e = ap (map (saved_of t.names t.store t.frames.items)) e

-- ---- the newest is gone back to

module _ {C : Type 0} (t : Terms C) (h : AreTerms t) (c : Choice C) (choices : Vec (Choice C)) (e : t.choices.items ≡ choices.items ++ c ∷ [])
    (frames : Vec Frame) (cut : frames.items ≡ take c.frames t.frames.items) where
  all : AreChoices t.names t.store t.frames.items (length t.frames.items) t.shown (c ∷ reverse choices.items)
  all = subst (AreChoices t.names t.store t.frames.items (length t.frames.items) t.shown) (ap reverse e ∙ newest_first choices.items c) h.choices_are

  count : length frames.items ≡ c.frames
  count = ap length cut ∙ length-take-le c.frames t.frames.items all.1

  same : AreSame t.frames.items frames.items c.frames
  same = subst (λ (l : List Frame). AreSame t.frames.items l c.frames) (sym cut) (same_take c.frames t.frames.items)

  abbrev gone : Terms C
  gone = record t { store = back c.mark t.store; frames = frames; next = c.next; choices = choices }

  terms-gone : AreTerms gone
  terms-gone = record {
    distinct = h.distinct;
    named = named-back (length t.names) c.mark t.store all.0.mark h.named;
    frames_are = subst (λ (l : List Frame). AreFrames t.names (back c.mark t.store) l (length l)) (sym cut)
        (frames-take t.names (back c.mark t.store) t.frames.items c.frames all.1 all.0.frames_are);
    next_is = let a = all.0.next in let b = count in omega (arith, a, b);
    shown_is = all.2;
    choices_are =
        choices-same t.names (back c.mark t.store) t.frames.items frames.items t.shown c.frames (length frames.items) same (let b = count in omega (arith, b)) (reverse choices.items) all.3;
  }

  older : map (saved_of t.names (back c.mark t.store) frames.items) choices.items ≡ map (saved_of t.names t.store t.frames.items) choices.items
  older =
      by_reverse (saved_of t.names (back c.mark t.store) frames.items) (saved_of t.names t.store t.frames.items) choices.items
      (saved-same t.names t.store (back c.mark t.store) (back c.mark t.store) t.frames.items frames.items t.shown c.frames same
      (λ m near. (refl, sym (back-back m c.mark t.store all.0.mark near))) (reverse choices.items) all.3)

  after : goals_at (term_of t.names (back c.mark t.store)) frames.items c.next ≡ goals_at (term_of t.names (back c.mark t.store)) t.frames.items c.next
  after =
      goals_at-same (term_of t.names (back c.mark t.store)) (term_of t.names (back c.mark t.store)) t.frames.items frames.items c.frames
      (lower t.names (back c.mark t.store) t.frames.items c.frames all.0.frames_are) same (λ _ _. refl) c.next all.0.next

  stack-gone : (said t).stack ≡ (said gone).stack ++ saved_now gone c.what ∷ []
  unfolding said built
  stack-gone =
      ap (map (saved_of t.names t.store t.frames.items)) e
      ∙ map-append (saved_of t.names t.store t.frames.items) choices.items (c ∷ [])
      ∙ ap (λ (ls : List (Saved C)). ls ++ saved_of t.names t.store t.frames.items c ∷ []) (sym older)
      ∙ ap (λ (us : List Next). map (saved_of t.names (back c.mark t.store) frames.items) choices.items ++ record {
        turn = turn_of (term_of t.names (back c.mark t.store)) c.what;
        goals = us;
        bindings = meaning t.names (back c.mark t.store);
      } ∷ []) (sym after)

  turn-gone : IsTurn gone c.what
  turn-gone = kept-turn gone c.what all.0.what

  fresh-gone : (said gone).fresh ≡ (said t).fresh
  unfolding said
  fresh-gone = refl

  shown-gone : (said gone).shown ≡ (said t).shown
  unfolding said
  shown-gone = raw-back t.names c.mark t.store all.0.mark t.shown all.2.0

  -- the store is what it is at the mark
  module _ (store : Shape) (is : store ≡ back c.mark t.store) where
    pub terms-back : AreTerms (record t { store = store; frames = frames; next = c.next; choices = choices })
    terms-back = subst (λ (s : Shape). AreTerms (record t { store = s; frames = frames; next = c.next; choices = choices })) (sym is) terms-gone

    pub stack-back : (said t).stack ≡ (said (record t { store = store; frames = frames; next = c.next; choices = choices })).stack
        ++ saved_now (record t { store = store; frames = frames; next = c.next; choices = choices }) c.what ∷ []
    stack-back =
        subst (λ (s : Shape). (said t).stack ≡ (said (record t { store = s; frames = frames; next = c.next; choices = choices })).stack
        ++ saved_now (record t { store = s; frames = frames; next = c.next; choices = choices }) c.what ∷ []) (sym is) stack-gone

    pub turn-back : IsTurn (record t { store = store; frames = frames; next = c.next; choices = choices }) c.what
    turn-back = subst (λ (s : Shape). IsTurn (record t { store = s; frames = frames; next = c.next; choices = choices }) c.what) (sym is) turn-gone

    pub fresh-back : (said (record t { store = store; frames = frames; next = c.next; choices = choices })).fresh ≡ (said t).fresh
    fresh-back = subst (λ (s : Shape). (said (record t { store = s; frames = frames; next = c.next; choices = choices })).fresh ≡ (said t).fresh) (sym is) fresh-gone

    pub shown-back : (said (record t { store = store; frames = frames; next = c.next; choices = choices })).shown ≡ (said t).shown
    shown-back = subst (λ (s : Shape). (said (record t { store = s; frames = frames; next = c.next; choices = choices })).shown ≡ (said t).shown) (sym is) shown-gone

pub can_go : {C : Type 0} (t : Terms C) (h : AreTerms t) (c : Choice C) (choices : Vec (Choice C)) → t.choices.items ≡ choices.items ++ c ∷ [] → CanGoBack c.mark t.store
can_go t h c choices e =
    let all : AreChoices t.names t.store t.frames.items (length t.frames.items) t.shown (c ∷ reverse choices.items) =
    subst (AreChoices t.names t.store t.frames.items (length t.frames.items) t.shown) (ap reverse e ∙ newest_first choices.items c) h.choices_are
    in
    all.0.mark

-- ---- the newest is taken away

module _ {C : Type 0} (t : Terms C) (c : Choice C) (choices : Vec (Choice C)) (e : t.choices.items ≡ choices.items ++ c ∷ []) where
  pub terms-dropped : AreTerms t → AreTerms (record t { choices = choices })
  terms-dropped h =
      terms-choices t h choices
      (choices-without t.names t.store t.frames.items t.shown (length t.frames.items) c (reverse choices.items)
      (subst (AreChoices t.names t.store t.frames.items (length t.frames.items) t.shown) (ap reverse e ∙ newest_first choices.items c) h.choices_are))

  pub said-dropped : said (record t { choices = choices }) ≡ record (said t) { stack = (said (record t { choices = choices })).stack }
  unfolding said
  said-dropped = refl

  pub stack-dropped : (said t).stack ≡ (said (record t { choices = choices })).stack ++ saved_of t.names t.store t.frames.items c ∷ []
  unfolding said
  stack-dropped = ap (map (saved_of t.names t.store t.frames.items)) e ∙ map-append (saved_of t.names t.store t.frames.items) choices.items (c ∷ [])

-- the call that is handed back is the moment's
pub dropped-call : {C : Type 0} (tree : Cell → Tree) (what : Alternative C) (call : Call C) → what ≡ is.Clauses call → IsCallOf (turn_of tree what) (Some call)
dropped-call tree what call e = subst (λ (w : Alternative _). IsCallOf (turn_of tree w) (Some call)) (sym e) refl

pub dropped-right : {C : Type 0} (tree : Cell → Tree) (what : Alternative C) (c : Cell) (cut : ℕ) → what ≡ is.Right c cut → IsCallOf (turn_of tree what) None
dropped-right tree what c cut e = subst (λ (w : Alternative _). IsCallOf (turn_of tree w) None) (sym e) tt

pub dropped-again : {C : Type 0} (tree : Cell → Tree) (what : Alternative C) → what ≡ is.Again → IsCallOf (turn_of tree what) None
dropped-again tree what e = subst (λ (w : Alternative _). IsCallOf (turn_of tree w) None) (sym e) tt

pub dropped-not : {C : Type 0} (tree : Cell → Tree) (what : Alternative C) → what ≡ is.NotMark → IsCallOf (turn_of tree what) None
dropped-not tree what e = subst (λ (w : Alternative _). IsCallOf (turn_of tree w) None) (sym e) tt

pub dropped-catch : {C : Type 0} (tree : Cell → Tree) (what : Alternative C) (c r : Cell) → what ≡ is.CatchMark c r → IsCallOf (turn_of tree what) None
dropped-catch tree what c r e = subst (λ (w : Alternative _). IsCallOf (turn_of tree w) None) (sym e) tt

pub dropped-findall : {C : Type 0} (tree : Cell → Tree) (what : Alternative C) (c : Cell) (found : Vec Tree) → what ≡ is.FindallMark c found → IsCallOf (turn_of tree what) None
dropped-findall tree what c found e = subst (λ (w : Alternative _). IsCallOf (turn_of tree w) None) (sym e) tt
