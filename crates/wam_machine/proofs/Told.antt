-- What the engine's terms say stays where the store and the names grow.
use Rattle.std.proofs.Common.{◌≡◌, ℕ, zero, suc, ◌<◌, ◌≤◌, List, [], ◌∷◌, length, reverse, map, refl, sym, ap, ap₂, ◌∙◌, arith, subst}
use Rattle.std.specs.Prelude.{IsTrue, Result, Ok, Err, OnErr}
use Rattle.std.proofs.lemmas.List.{reverse-reverse}
use Rattle.indexmap.proofs.ReorderLemmas.{map-reverse}
use Rattle.prolog_terms.specs.Tree.{Tree}
use Rattle.prolog_terms.specs.Clauses.{is_body}
use Rattle.prolog_terms.specs.Substitutions.{substituted}
use Rattle.term_store.specs.declared.cell.Cell.{Cell}
use Rattle.term_store.specs.Shape.{Shape}
use Rattle.term_store.specs.Terms.{term_of, meaning, HasTerm, AreNamed}
use Rattle.term_store.specs.Later.{AreDistinct, back}
use Rattle.wam_machine.specs.States as spec
use Rattle.wam_machine.specs.States.{Next, Do, FindallEnd, next_under}
use Rattle.wam_machine.specs.declared.terms.Alternative.{Alternative}
use Rattle.wam_machine.specs.declared.terms.Alternative.TheVariants as is
use Rattle.wam_machine.specs.declared.terms.Choice.{Choice}
use Rattle.wam_machine.specs.declared.terms.Frame.{Frame}
use Rattle.wam_machine.specs.declared.terms.Next.{Next as Waiting}
use Rattle.wam_machine.specs.declared.terms.Next.TheVariants as waits
use Rattle.wam_machine.specs.declared.terms.Terms.{Terms}
use Rattle.wam_machine.specs.declared.terms.Use.{Use}
use Rattle.wam_machine.specs.declared.terms.Use.TheVariants as use_is
use Rattle.wam_machine.specs.Terms.{Saved, Turn, Said, OfCall, OfRight, OfCatch, OfFindall, frame_at, goals_from, goals_at, next_of, purpose_of, use_of, turn_of, saved_of, said, built, IsBuilt, IsOfUse, IsWaiting, IsKeptTurn, CanBeGoal, AreFrames, IsChoice, AreChoices, AreTerms, KeepsCells, IsGrown}
use Rattle.wam_machine.proofs.Stacks.{choices-without}
use Rattle.wam_machine.proofs.Grown.{Grows, has_term-grown, raw-grown, meaning-grown, can-later, grows-back, back_bindings-later}

pub at_err : {T E : Type 0} (r : Result T E) (P : Type 0) → P → OnErr r P
at_err (Ok x) P p = tt
at_err (Err e) P p = p

pub err_weaker : {T E : Type 0} (r : Result T E) (P Q : Type 0) → (P → Q) → OnErr r P → OnErr r Q
err_weaker (Ok x) P Q f h = tt
err_weaker (Err e) P Q f h = f h

-- ---- goals whose cells have other terms

goals-changed : (f h : Cell → Tree) (k : Next → Next) (frames : List Frame) (n : ℕ) → ((i : ℕ) → i < n → next_of h (frame_at frames i).what ≡ k (next_of f (frame_at frames i).what))
    → ((i : ℕ) → i < n → (frame_at frames i).next ≤ i) → (d j : ℕ) → j ≤ n → goals_from d h frames j ≡ map k (goals_from d f frames j)
goals-changed f h k frames n e lower zero j low = refl
goals-changed f h k frames n e lower (suc d) zero low = refl
goals-changed f h k frames n e lower (suc d) (suc i) low =
    let a = lower i (omega arith) in
    ap₂ (λ (t : Next) (ts : List Next). t ∷ ts) (e i (omega arith)) (goals-changed f h k frames n e lower d (frame_at frames i).next (omega (arith, a, low)))

goals-same : (f h : Cell → Tree) (frames : List Frame) (n : ℕ) → ((i : ℕ) → i < n → next_of h (frame_at frames i).what ≡ next_of f (frame_at frames i).what)
    → ((i : ℕ) → i < n → (frame_at frames i).next ≤ i) → (d j : ℕ) → j ≤ n → goals_from d h frames j ≡ goals_from d f frames j
goals-same f h frames n e lower zero j low = refl
goals-same f h frames n e lower (suc d) zero low = refl
goals-same f h frames n e lower (suc d) (suc i) low =
    let a = lower i (omega arith) in
    ap₂ (λ (t : Next) (ts : List Next). t ∷ ts) (e i (omega arith)) (goals-same f h frames n e lower d (frame_at frames i).next (omega (arith, a, low)))

-- ---- a store that has grown, in which goals still can be done

-- the goals that can be done in the one can be done in the other
pub record StillGoals (texts more : List (List ℕ)) (s u : Shape) : Type 0 where
  pub goal : (c : Cell) → CanBeGoal texts s c → CanBeGoal more u c

module _ (texts more : List (List ℕ)) (s u : Shape) (g : Grows texts more s u) where
  -- where no binding was made
  pub term-grown : u.bindings ≡ s.bindings → (c : Cell) → HasTerm (length texts) s c → term_of more u c ≡ term_of texts s c
  term-grown e c h = ap₂ (λ (m : ℕ → Tree) (t : Tree). substituted m t) (meaning-grown texts more s u g e) (raw-grown texts more s u g c h)

  pub still-unbound : u.bindings ≡ s.bindings → StillGoals texts more s u
  still-unbound e = record { goal = λ c h. (has_term-grown texts more s u g c h.0, subst (λ (x : Tree). IsTrue (is_body x)) (sym (term-grown e c h.0)) h.1) }

  waiting-later : StillGoals texts more s u → (what : Waiting) → IsWaiting texts s what → IsWaiting more u what
  waiting-later still (waits.Do c h) w = still.goal c w
  waiting-later still (waits.ConditionEnd h) w = tt
  waiting-later still (waits.NotEnd h) w = tt
  waiting-later still (waits.CatchEnd h) w = tt
  waiting-later still (waits.FindallEnd c h) w = has_term-grown texts more s u g c w

  pub frames-later : StillGoals texts more s u → (frames : List Frame) (n : ℕ) → AreFrames texts s frames n → AreFrames more u frames n
  frames-later still frames n h i low = let f = h i low in record { lower = f.lower; what = waiting-later still _ f.what }

  next-grown : u.bindings ≡ s.bindings → (what : Waiting) → IsWaiting texts s what → next_of (term_of more u) what ≡ next_of (term_of texts s) what
  next-grown e (waits.Do c h) w = ap (λ (t : Tree). Do t h) (term-grown e c w.0)
  next-grown e (waits.ConditionEnd h) w = refl
  next-grown e (waits.NotEnd h) w = refl
  next-grown e (waits.CatchEnd h) w = refl
  next-grown e (waits.FindallEnd c h) w = ap (λ (t : Tree). FindallEnd t h) (term-grown e c w)

  pub goals-later : u.bindings ≡ s.bindings → (frames : List Frame) (n j : ℕ) → AreFrames texts s frames n → j ≤ n → goals_at (term_of more u) frames j ≡ goals_at (term_of texts s) frames j
  unfolding goals_at
  goals-later e frames n j h low =
      goals-same (term_of texts s) (term_of more u) frames n (λ i less. next-grown e _ (h i less).what) (λ i less. (h i less).lower) j j low

  -- under a unifier
  next-under : (m : ℕ → Tree) → ((c : Cell) → HasTerm (length texts) s c → term_of more u c ≡ substituted m (term_of texts s c))
      → (what : Waiting) → IsWaiting texts s what → next_of (term_of more u) what ≡ next_under m (next_of (term_of texts s) what)
  next-under m e (waits.Do c h) w = ap (λ (t : Tree). Do t h) (e c w.0)
  next-under m e (waits.ConditionEnd h) w = refl
  next-under m e (waits.NotEnd h) w = refl
  next-under m e (waits.CatchEnd h) w = refl
  next-under m e (waits.FindallEnd c h) w = ap (λ (t : Tree). FindallEnd t h) (e c w)

  pub goals-under : (m : ℕ → Tree) → ((c : Cell) → HasTerm (length texts) s c → term_of more u c ≡ substituted m (term_of texts s c))
      → (frames : List Frame) (n j : ℕ) → AreFrames texts s frames n → j ≤ n → goals_at (term_of more u) frames j ≡ map (next_under m) (goals_at (term_of texts s) frames j)
  unfolding goals_at
  goals-under m e frames n j h low =
      goals-changed (term_of texts s) (term_of more u) (next_under m) frames n (λ i less. next-under m e _ (h i less).what) (λ i less. (h i less).lower) j j low

-- ---- moments that may be gone back to

use-grown : (texts more : List (List ℕ)) (s u : Shape) → Grows texts more s u → (used : Use) → IsOfUse (HasTerm (length texts) s) used → IsOfUse (HasTerm (length more) u) used
use-grown texts more s u g use_is.Enter h = tt
use-grown texts more s u g (use_is.Match p body) h = has_term-grown texts more s u g body h

use-later : (texts more : List (List ℕ)) (s u : Shape) → Grows texts more s u → u.bindings ≡ s.bindings → (used : Use) → IsOfUse (HasTerm (length texts) s) used
    → use_of (term_of more u) used ≡ use_of (term_of texts s) used
use-later texts more s u g e use_is.Enter h = refl
use-later texts more s u g e (use_is.Match p body) h = ap (λ (t : Tree). spec.Match (purpose_of p) t) (term-grown texts more s u g e body h)

module _ {C : Type 0} (texts more : List (List ℕ)) (s u : Shape) (g : Grows texts more s u) (e : u.bindings ≡ s.bindings) where
  kept_turn-later : (what : Alternative C) → IsKeptTurn texts s what → IsKeptTurn more u what
  kept_turn-later (is.Clauses c) h = (has_term-grown texts more s u g c.goal h.0, use-grown texts more s u g c.used h.1)
  kept_turn-later (is.Right c cut) h = (still-unbound texts more s u g e).goal c h
  kept_turn-later is.Again h = tt
  kept_turn-later is.NotMark h = tt
  kept_turn-later (is.CatchMark c r) h = (has_term-grown texts more s u g c h.0, has_term-grown texts more s u g r h.1)
  kept_turn-later (is.FindallMark c found) h = has_term-grown texts more s u g c h

  turn-later : (what : Alternative C) → IsKeptTurn texts s what → turn_of (term_of more u) what ≡ turn_of (term_of texts s) what
  turn-later (is.Clauses c) h =
      ap₂ (λ (w : spec.Use) (t : Tree). OfCall (record { used = w; goal = t; procedure = c.procedure; cursor = c.cursor }))
      (use-later texts more s u g e c.used h.1) (term-grown texts more s u g e c.goal h.0)
  turn-later (is.Right c cut) h = ap (λ (t : Tree). OfRight t cut) (term-grown texts more s u g e c h.0)
  turn-later is.Again h = refl
  turn-later is.NotMark h = refl
  turn-later (is.CatchMark c r) h = ap₂ (λ (x y : Tree). OfCatch x y) (term-grown texts more s u g e c h.0) (term-grown texts more s u g e r h.1)
  turn-later (is.FindallMark c found) h = ap (λ (t : Tree). OfFindall t found.items) (term-grown texts more s u g e c h)

saved-parts : {C : Type 0} (a b : Turn C) (gs hs : List Next) (m n : ℕ → Tree) → a ≡ b → gs ≡ hs → m ≡ n
    → ◌≡◌ {A = Saved C} (record { turn = a; goals = gs; bindings = m }) (record { turn = b; goals = hs; bindings = n })
saved-parts {C} a b gs hs m n p q r =
    ap (λ (x : Turn C). let y : Saved C = record { turn = x; goals = gs; bindings = m } in y) p
    ∙ ap (λ (xs : List Next). let y : Saved C = record { turn = b; goals = xs; bindings = m } in y) q
    ∙ ap (λ (f : ℕ → Tree). let y : Saved C = record { turn = b; goals = hs; bindings = f } in y) r

-- so it is of each
abbrev pub AreEach : {C : Type 0} → List (List ℕ) → Shape → List Frame → List (Choice C) → Type 0
AreEach texts s frames [] = Unit {0}
AreEach texts s frames (c ∷ cs) = IsChoice texts s frames c × AreEach texts s frames cs

module _ {C : Type 0} (frames : List Frame) where
  saved-later : (texts more : List (List ℕ)) (s u : Shape) (g : Grows texts more s u) (c : Choice C) → IsChoice texts s frames c
      → saved_of more u frames c ≡ saved_of texts s frames c
  saved-later texts more s u g c h =
      let k = grows-back texts more c.mark s u g h.mark in
      let e = back_bindings-later c.mark s u h.mark g.later in
      saved-parts _ _ _ _ _ _ (turn-later texts more (back c.mark s) (back c.mark u) k e c.what h.what)
      (goals-later texts more (back c.mark s) (back c.mark u) k e frames c.frames c.next h.frames_are h.next)
      (meaning-grown texts more (back c.mark s) (back c.mark u) k e)

  choice-later : (texts more : List (List ℕ)) (s u : Shape) (g : Grows texts more s u) (c : Choice C) → IsChoice texts s frames c → IsChoice more u frames c
  choice-later texts more s u g c h =
      let k = grows-back texts more c.mark s u g h.mark in
      let e = back_bindings-later c.mark s u h.mark g.later in record {
        mark = can-later c.mark s u h.mark g.later;
        next = h.next;
        frames_are = frames-later texts more (back c.mark s) (back c.mark u) k (still-unbound texts more (back c.mark s) (back c.mark u) k e) frames c.frames h.frames_are;
        what = kept_turn-later texts more (back c.mark s) (back c.mark u) k e c.what h.what;
      }

  pub choices-later : (texts more : List (List ℕ)) (s u : Shape) (g : Grows texts more s u) (n : ℕ) (shown : Cell) (cs : List (Choice C))
      → AreChoices texts s frames n shown cs → AreChoices more u frames n shown cs
  choices-later texts more s u g n shown [] h = tt
  choices-later texts more s u g n shown (c ∷ cs) h =
      let k = grows-back texts more c.mark s u g h.0.mark in (
        choice-later texts more s u g c h.0,
        h.1,
        has_term-grown texts more (back c.mark s) (back c.mark u) k shown h.2,
        choices-later texts more (back c.mark s) (back c.mark u) k c.frames shown cs h.3,
      )

  -- each is a choice of the whole store
  pub each_choice : (texts : List (List ℕ)) (s : Shape) (n : ℕ) (shown : Cell) (cs : List (Choice C)) → AreChoices texts s frames n shown cs → AreEach texts s frames cs
  each_choice texts s n shown [] h = tt
  each_choice texts s n shown (c ∷ cs) h = (h.0, each_choice texts s n shown cs (choices-without texts s frames shown n c cs h))

  pub saved-all_later : (texts more : List (List ℕ)) (s u : Shape) (g : Grows texts more s u) (cs : List (Choice C))
      → AreEach texts s frames cs → map (saved_of more u frames) cs ≡ map (saved_of texts s frames) cs
  saved-all_later texts more s u g [] h = refl
  saved-all_later texts more s u g (c ∷ cs) h =
      ap₂ (λ (x : Saved C) (xs : List (Saved C)). x ∷ xs) (saved-later texts more s u g c h.0) (saved-all_later texts more s u g cs h.1)

map-reversed : {A B : Type 0} (f h : A → B) (xs : List A) → map f (reverse xs) ≡ map h (reverse xs) → map f xs ≡ map h xs
map-reversed f h xs e =
    sym (reverse-reverse (map f xs)) ∙ ap reverse (sym (map-reverse f xs) ∙ e ∙ map-reverse h xs) ∙ reverse-reverse (map h xs)

-- ---- all terms

abbrev the_said : {C : Type 0} → List Next → (ℕ → Tree) → ℕ → Tree → List (Saved C) → Said C
the_said goals bindings fresh shown stack = record { goals = goals; bindings = bindings; fresh = fresh; shown = shown; stack = stack }

said-same : {C : Type 0} (gs hs : List Next) (m o : ℕ → Tree) (n : ℕ) (a b : Tree) (ls ks : List (Saved C)) → gs ≡ hs → m ≡ o → a ≡ b → ls ≡ ks
    → the_said gs m n a ls ≡ the_said hs o n b ks
said-same gs hs m o n a b ls ks p q r w =
    ap (λ (xs : List Next). the_said xs m n a ls) p ∙ ap (λ (f : ℕ → Tree). the_said hs f n a ls) q ∙ ap (λ (x : Tree). the_said hs o n x ls) r ∙ ap (λ (xs : List (Saved _)). the_said hs o n b xs) w

-- the same terms, in a store and with names that have grown
module _ {C : Type 0} (t : Terms C) (more : List (List ℕ)) (u : Shape) (h : AreTerms t) (g : Grows t.names more t.store u) where
  pub terms-later : StillGoals t.names more t.store u → AreDistinct more → AreNamed (length more) u → AreTerms (record t { store = u; names = more })
  terms-later still distinct named = record {
    distinct = distinct;
    named = named;
    frames_are = frames-later t.names more t.store u g still t.frames.items (length t.frames.items) h.frames_are;
    next_is = h.next_is;
    shown_is = has_term-grown t.names more t.store u g t.shown h.shown_is;
    choices_are = choices-later t.frames.items t.names more t.store u g (length t.frames.items) t.shown (reverse t.choices.items) h.choices_are;
  }

  stack-still : map (saved_of more u t.frames.items) t.choices.items ≡ map (saved_of t.names t.store t.frames.items) t.choices.items
  stack-still =
      map-reversed _ _ t.choices.items (saved-all_later t.frames.items t.names more t.store u g (reverse t.choices.items)
      (each_choice t.frames.items t.names t.store (length t.frames.items) t.shown (reverse t.choices.items) h.choices_are))

  pub stack-later : (said (record t { store = u; names = more })).stack ≡ (said t).stack
  unfolding said
  stack-later = stack-still

  -- no binding was made
  pub said-wider : u.bindings ≡ t.store.bindings → said (record t { store = u; names = more }) ≡ record (said t) { fresh = u.variables }
  unfolding said
  said-wider e =
      said-same _ _ _ _ u.variables _ _ _ _
      (goals-later t.names more t.store u g e t.frames.items (length t.frames.items) t.next h.frames_are h.next_is)
      (meaning-grown t.names more t.store u g e)
      (raw-grown t.names more t.store u g t.shown h.shown_is)
      stack-still

  -- and no variable either
  pub said-still : u.bindings ≡ t.store.bindings → u.variables ≡ t.store.variables → said (record t { store = u; names = more }) ≡ said t
  unfolding said
  said-still e f = said-wider e ∙ ap (λ (n : ℕ). record (said t) { fresh = n }) f

  -- cells stand for what they stood for under a unifier
  pub said-under : (m : ℕ → Tree) → ((c : Cell) → HasTerm (length t.names) t.store c → term_of more u c ≡ substituted m (term_of t.names t.store c))
      → (b : ℕ → Tree) → meaning more u ≡ b
      → said (record t { store = u; names = more }) ≡ record (said t) { goals = map (next_under m) (said t).goals; bindings = b; fresh = u.variables }
  unfolding said
  said-under m e b f =
      said-same _ _ _ _ u.variables _ _ _ _
      (goals-under t.names more t.store u g m e t.frames.items (length t.frames.items) t.next h.frames_are h.next_is)
      f
      (raw-grown t.names more t.store u g t.shown h.shown_is)
      stack-still

  pub cells-later : u.bindings ≡ t.store.bindings → KeepsCells t (record t { store = u; names = more })
  unfolding built IsBuilt
  cells-later e c b = (has_term-grown t.names more t.store u g c b, term-grown t.names more t.store u g e c b)

  pub is_built-later : (c : Cell) → IsBuilt t c → IsBuilt (record t { store = u; names = more }) c
  unfolding IsBuilt
  is_built-later c b = has_term-grown t.names more t.store u g c b

  pub use_built-later : (used : Use) → IsOfUse (IsBuilt t) used → IsOfUse (IsBuilt (record t { store = u; names = more })) used
  use_built-later use_is.Enter b = tt
  use_built-later (use_is.Match p body) b = is_built-later body b

  pub grown-later : u.bindings ≡ t.store.bindings → u.variables ≡ t.store.variables → AreDistinct more → AreNamed (length more) u → IsGrown t (record t { store = u; names = more })
  grown-later e f distinct named = record {
    terms = terms-later (still-unbound t.names more t.store u g e) distinct named;
    said_is = said-still e f;
    names = g.longer;
    cells = cells-later e;
  }
