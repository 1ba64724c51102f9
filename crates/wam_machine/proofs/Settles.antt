-- Moves that take no step come to an end: from each state, after finitely many of them, a step is taken, the run is over, or it
-- doesn't fit.
use Rattle.std.proofs.Common.{◌≡◌, ℕ, zero, suc, ◌+◌, ◌-◌, ◌<◌, ◌≤◌, List, [], ◌∷◌, ◌++◌, Bool, true, false, length, drop, refl, sym, ap, subst, arith, inl, inr, length-drop}
use Rattle.std.specs.Prelude.{Option, Some, None, ◌⊎◌, ◌==◌, if◌then◌else◌, ◌&&◌, codes, nat_lt}
use Rattle.prolog_terms.specs.Tree.{Tree, Trees, variable, integer, atom, compound, none, more, count}
use Rattle.prolog_terms.specs.Clauses.{is_named, call_term}
use Rattle.prolog_terms.specs.Substitutions.{renamed, beyond, numbered}
use Rattle.std.proofs.lemmas.Bool.{ltb-true}
use Rattle.term_unifier.specs.Unifier.{unifier}
use Rattle.term_builtins.specs.Meanings.{list_tree}
use Rattle.term_builtins.specs.Table.{builtins, place_in}
use Rattle.wam_machine.specs.Control.{Control, True, Fail, Cut, Repeat, Both, Either, IfElse, If, Not, Call, Once, Catch, Findall, Throw, Halt, HaltWith, Database, Builtin, User, control_of, control_with_none, access_with_one, control_with_one, control_of_either, control_with_two, control_with_three, control_with_more, plain, builtin_or_user}
use Rattle.wam_machine.specs.declared.run.RunEnd.{RunEnd}
use Rattle.wam_machine.specs.declared.run.RunEnd.TheVariants.{Exhausted, Ball, Spent}
use Rattle.wam_machine.specs.States.{Next, Do, ConditionEnd, NotEnd, CatchEnd, FindallEnd, Alternative, Clauses, Right, Again, NotMark, CatchMark, FindallMark, Choice, Mode, Going, Failing, Raising, State, Setting, Report, Outcome, Goes, Ends, Unfit, no_more, over, stepping, onwards, height, cut_to, cut_back, bound_further, solving}
use Rattle.wam_machine.specs.Procedures.{trying}
use Rattle.wam_machine.specs.Machine.{new_copies, behind_copies, found_at, active_catch, recovering, reaching, reached, caught, repeating, performing, doing, goal_move, answer, back_to, taken, move, Runs, ends, goes, beginning, Misfits, unfit, later, HasTranscript}
use Rattle.wam_machine.proofs.FoundAt.{found-length}
use Rattle.wam_machine.proofs.Laws.{Keeps, Within, trying-keeps, performing-keeps, move-within}

-- a step is taken, the run is over, or the move doesn't fit
abbrev pub Stops : ℕ → Outcome → Type 0
Stops n (Goes t) = t.steps ≡ suc n
Stops n (Ends r) = Unit {0}
Stops n Unfit = Unit {0}

pub data Settles (x : Setting) : State → Type 0 where
  stops : {s : State} → Stops s.steps (move x s) → Settles x s
  moves : {s t : State} → move x s ≡ Goes t → t.steps ≡ s.steps → Settles x t → Settles x s

over-stops : (x : Setting) (s : State) (e : RunEnd) (n : ℕ) → Stops n (over x s e)
over-stops x s e n = go (no_more s.fronts)
  where
    go : (b : Bool) → Stops n (if b then Ends (record { events = s.events; deeds = s.deeds; tried = s.tried; steps = s.steps; end = e }) else Unfit)
    go true = tt
    go false = tt

stepping-stops : (x : Setting) (s : State) (then_ : State → Outcome) → ((t : State) → Keeps t.steps (then_ t)) → Stops s.steps (stepping x s then_)
stepping-stops x s then_ k = go (s.steps == x.budget)
  where
    one_more : (o : Outcome) → Keeps (suc s.steps) o → Stops s.steps o
    one_more (Goes t) w = w
    one_more (Ends r) w = tt
    one_more Unfit w = tt

    go : (b : Bool) → Stops s.steps (if b then over x s (Spent s.steps) else then_ (record s { steps = suc s.steps }))
    go true = over-stops x s (Spent s.steps) s.steps
    go false = one_more (then_ (record s { steps = suc s.steps })) (k (record s { steps = suc s.steps }))

-- ---- the weight of what is still to be done

abbrev mutual
  weight : Tree → ℕ
  weight (variable v) = 1
  weight (integer i) = 1
  weight (atom a) = 1
  weight (compound f ts) = suc (weight_all ts)

  weight_all : Trees → ℕ
  weight_all none = 0
  weight_all (more t ts) = weight t + weight_all ts

abbrev goals_weight : List Next → ℕ
goals_weight [] = 0
goals_weight (Do g h ∷ rest) = weight g + goals_weight rest
goals_weight (ConditionEnd h ∷ rest) = suc (goals_weight rest)
goals_weight (NotEnd h ∷ rest) = suc (goals_weight rest)
goals_weight (CatchEnd h ∷ rest) = suc (goals_weight rest)
goals_weight (FindallEnd t h ∷ rest) = suc (goals_weight rest)

-- a conjunction is heavier than its parts
abbrev Lighter : ℕ → Control → Type 0
Lighter w c = (a b : Tree) → c ≡ Both a b → weight a + weight b < w

choose : (w : ℕ) (b : Bool) (c d : Control) → Lighter w c → Lighter w d → Lighter w (if b then c else d)
choose w true c d k l = k
choose w false c d k l = l

light_plain : (w : ℕ) (f : List ℕ) (args : Trees) → Lighter w (plain f args)
unfolding plain
light_plain w f args = go (place_in builtins f (count args))
  where
    go : (o : Option ℕ) → Lighter w (builtin_or_user o f args)
    go None = λ a b e. cc e
    go (Some row) = λ a b e. cc e

light_none : (w : ℕ) (n : List ℕ) → Lighter w (control_with_none n)
light_none w n =
    choose w (is_named (codes "true") n) _ _ (λ a b e. cc e) (
    choose w (is_named (codes "fail") n) _ _ (λ a b e. cc e) (
    choose w (is_named (codes "!") n) _ _ (λ a b e. cc e) (
    choose w (is_named (codes "repeat") n) _ _ (λ a b e. cc e) (
    choose w (is_named (codes "halt") n) _ _ (λ a b e. cc e) (light_plain w n none)))))

light_both : (a b : Tree) → Lighter (suc (weight a + (weight b + 0))) (Both a b)
light_both a b c d e = go (left e) (right e)
  where
    left : Both a b ≡ Both c d → a ≡ c
    left e = cc e

    right : Both a b ≡ Both c d → b ≡ d
    right e = cc e

    go : a ≡ c → b ≡ d → weight c + weight d < suc (weight a + (weight b + 0))
    go p q = rw (sym p, sym q) (omega arith)

light_either : (w : ℕ) (a e : Tree) → Lighter w (control_of_either a e)
light_either w (variable v) e = λ a b k. cc k
light_either w (integer i) e = λ a b k. cc k
light_either w (atom n) e = λ a b k. cc k
light_either w (compound f none) e = λ a b k. cc k
light_either w (compound f (more c none)) e = λ a b k. cc k
light_either w (compound f (more c (more t none))) e = choose w (is_named (codes "->") f) _ _ (λ a b k. cc k) (λ a b k. cc k)
light_either w (compound f (more c (more t (more u us)))) e = λ a b k. cc k

light_access : (w : ℕ) (f : List ℕ) (t : Tree) → Lighter w (access_with_one f t)
light_access w f t =
    choose w (is_named (codes "asserta") f) _ _ (λ a b e. cc e) (
    choose w (is_named (codes "assertz") f) _ _ (λ a b e. cc e) (
    choose w (is_named (codes "retract") f) _ _ (λ a b e. cc e) (
    choose w (is_named (codes "retractall") f) _ _ (λ a b e. cc e) (
    choose w (is_named (codes "abolish") f) _ _ (λ a b e. cc e) (light_plain w f (more t none))))))

light_one : (w : ℕ) (f : List ℕ) (t : Tree) → Lighter w (control_with_one f t)
light_one w f t =
    choose w (is_named (codes "call") f) _ _ (λ a b e. cc e) (
    choose w (is_named (codes "once") f) _ _ (λ a b e. cc e) (
    choose w (is_named (codes "\\+") f) _ _ (λ a b e. cc e) (
    choose w (is_named (codes "throw") f) _ _ (λ a b e. cc e) (
    choose w (is_named (codes "halt") f) _ _ (λ a b e. cc e) (light_access w f t)))))

light_two : (f : List ℕ) (t u : Tree) → Lighter (suc (weight t + (weight u + 0))) (control_with_two f t u)
light_two f t u =
    choose _ (is_named (codes ",") f) _ _ (light_both t u) (
    choose _ (is_named (codes ";") f) _ _ (light_either _ t u) (
    choose _ (is_named (codes "->") f) _ _ (λ a b e. cc e) (
    choose _ (is_named (codes "call") f) _ _ (λ a b e. cc e) (
    choose _ (is_named (codes "clause") f) _ _ (λ a b e. cc e) (light_plain _ f (more t (more u none)))))))

light_three : (w : ℕ) (f : List ℕ) (t u v : Tree) → Lighter w (control_with_three f t u v)
light_three w f t u v =
    choose w (is_named (codes "catch") f) _ _ (λ a b e. cc e) (
    choose w (is_named (codes "findall") f) _ _ (λ a b e. cc e) (
    choose w (is_named (codes "call") f) _ _ (λ a b e. cc e) (light_plain w f (more t (more u (more v none))))))

light_more : (w : ℕ) (f : List ℕ) (t : Tree) (ts : Trees) → Lighter w (control_with_more f t ts)
light_more w f t ts = choose w (is_named (codes "call") f && nat_lt (count ts) 8) _ _ (λ a b e. cc e) (light_plain w f (more t ts))

light : (g a b : Tree) → control_of g ≡ Some (Both a b) → weight a + weight b < weight g
light (variable v) a b e = absurd (cc e)
light (integer i) a b e = absurd (cc e)
light (atom n) a b e = light_none 1 n a b (cc e)
light (compound f none) a b e = light_plain _ f none a b (cc e)
light (compound f (more t none)) a b e = light_one _ f t a b (cc e)
light (compound f (more t (more u none))) a b e = light_two f t u a b (cc e)
light (compound f (more t (more u (more v none)))) a b e = light_three _ f t u v a b (cc e)
light (compound f (more t (more u (more v (more w ts))))) a b e = light_more _ f t (more u (more v (more w ts))) a b (cc e)

-- ---- each state settles

cut-length : (h : ℕ) (st : List Choice) (k : ℕ) → length st < k → length (cut_to h st) < k
cut-length h st k lt = let e : length (drop (length st - h) st) ≡ length st - (length st - h) = length-drop (length st - h) st in omega arith

-- a move of a state stops, or goes on to a state that settles
abbrev Good : Setting → State → Outcome → Type 0
Good x s o = Stops s.steps o ⊎ ((t : State) × (o ≡ Goes t) × (t.steps ≡ s.steps) × Settles x t)

settles_by : (x : Setting) (s : State) → Good x s (move x s) → Settles x s
settles_by x s (inl h) = stops h
settles_by x s (inr (t, e, f, h)) = moves e f h

performed : (x : Setting) (goal : Tree) (cut : ℕ) (s r : State) (c : Control) → r.steps ≡ s.steps → Stops s.steps (stepping x r (performing x goal cut c))
performed x goal cut s r c e = let P : ℕ → Type 0 = λ n. Stops n (stepping x r (performing x goal cut c)) in subst P e (stepping-stops x r (performing x goal cut c) (performing-keeps x goal cut c))

doing_good : (x : Setting) (goal : Tree) (cut : ℕ) (s r : State) (c : Control) → r.steps ≡ s.steps → ((a b : Tree) → c ≡ Both a b → Settles x (record r { goals = Do a cut ∷ Do b cut ∷ r.goals })) → Good x s (doing x goal cut r c)
doing_good x goal cut s r (Both a b) e next = inr (record r { goals = Do a cut ∷ Do b cut ∷ r.goals }, refl, e, next a b refl)
doing_good x goal cut s r True e next = inl (performed x goal cut s r True e)
doing_good x goal cut s r Fail e next = inl (performed x goal cut s r Fail e)
doing_good x goal cut s r Cut e next = inl (performed x goal cut s r Cut e)
doing_good x goal cut s r Repeat e next = inl (performed x goal cut s r Repeat e)
doing_good x goal cut s r (Either a b) e next = inl (performed x goal cut s r (Either a b) e)
doing_good x goal cut s r (IfElse c t f) e next = inl (performed x goal cut s r (IfElse c t f) e)
doing_good x goal cut s r (If c t) e next = inl (performed x goal cut s r (If c t) e)
doing_good x goal cut s r (Not g) e next = inl (performed x goal cut s r (Not g) e)
doing_good x goal cut s r (Call g added) e next = inl (performed x goal cut s r (Call g added) e)
doing_good x goal cut s r (Once g) e next = inl (performed x goal cut s r (Once g) e)
doing_good x goal cut s r (Catch g c f) e next = inl (performed x goal cut s r (Catch g c f) e)
doing_good x goal cut s r (Findall t g l) e next = inl (performed x goal cut s r (Findall t g l) e)
doing_good x goal cut s r (Throw b) e next = inl (performed x goal cut s r (Throw b) e)
doing_good x goal cut s r Halt e next = inl (performed x goal cut s r Halt e)
doing_good x goal cut s r (HaltWith n) e next = inl (performed x goal cut s r (HaltWith n) e)
doing_good x goal cut s r (Database a) e next = inl (performed x goal cut s r (Database a) e)
doing_good x goal cut s r (Builtin row args) e next = inl (performed x goal cut s r (Builtin row args) e)
doing_good x goal cut s r (User i) e next = inl (performed x goal cut s r (User i) e)

goal_good : (x : Setting) (goal : Tree) (cut : ℕ) (s r : State) (o : Option Control) → r.steps ≡ s.steps → ((a b : Tree) → o ≡ Some (Both a b) → Settles x (record r { goals = Do a cut ∷ Do b cut ∷ r.goals })) → Good x s (goal_move x goal cut r o)
goal_good x goal cut s r None e next = inl tt
goal_good x goal cut s r (Some c) e next = doing_good x goal cut s r c e (λ a b f. next a b (ap Some f))

module _ (x : Setting) (k : ℕ) (smaller : (s : State) → length s.stack < k → Settles x s) where
  solving_good : (s t : State) (o : Option (ℕ → Tree)) → t.steps ≡ s.steps → length t.stack < k → Good x s (solving [] t o)
  solving_good s t None e lt = inr (record t { mode = Failing }, refl, e, smaller (record t { mode = Failing }) lt)
  solving_good s t (Some m) e lt = inr (bound_further m t, refl, e, smaller (bound_further m t) lt)

  taken_good : (s : State) (a : Alternative) → length s.stack < k → Good x s (taken x s a)
  taken_good s (Clauses used goal rest) lt = inl (stepping-stops x s (trying x used goal rest) (trying-keeps x used goal rest))
  taken_good s (Right goal cut) lt = inl (stepping-stops x s (onwards (Do goal cut ∷ [])) (λ t. refl))
  taken_good s Again lt = inl (stepping-stops x s repeating (λ t. refl))
  taken_good s NotMark lt = inr (s, refl, refl, smaller s lt)
  taken_good s (CatchMark c r) lt = inr (record s { mode = Failing }, refl, refl, smaller (record s { mode = Failing }) lt)
  taken_good s (FindallMark l f) lt = solving_good s (record s { fresh = behind_copies s.fresh f }) (unifier l (list_tree (new_copies s.fresh f))) refl lt

  failing_settles : (s : State) (st : List Choice) → length st < suc k → Settles x (record s { mode = Failing; stack = st })
  failing_settles s [] lt = stops (over-stops x (record s { mode = Failing; stack = [] }) Exhausted s.steps)
  failing_settles s (c ∷ st) lt = settles_by x (record s { mode = Failing; stack = c ∷ st }) (taken_good (back_to (record s { mode = Failing; stack = c ∷ st }) c st) c.what (omega arith))

  going_settles : (w : ℕ) (s : State) (gs : List Next) (st : List Choice) → goals_weight gs < w → length st < suc k → Settles x (record s { mode = Going; goals = gs; stack = st })
  going_settles zero s gs st lw lt = absurd (nothing lw)
    where
      nothing : {n : ℕ} → n < 0 → ⊥
      nothing h = omega arith
  going_settles (suc w) s [] st lw lt = moves refl refl (failing_settles (record s { goals = []; events = s.events ++ answer x (record s { stack = st }) ∷ [] }) st lt)
  going_settles (suc w) s (Do g h ∷ rest) st lw lt =
      settles_by x (record s { mode = Going; goals = Do g h ∷ rest; stack = st })
      (goal_good x g h (record s { mode = Going; goals = Do g h ∷ rest; stack = st }) (record s { mode = Going; goals = rest; stack = st }) (control_of g) refl
      (λ a b e. going_settles w s (Do a h ∷ Do b h ∷ rest) st (fewer a b (light g a b e)) lt))
    where
      fewer : (a b : Tree) → weight a + weight b < weight g → weight a + (weight b + goals_weight rest) < w
      fewer a b l = omega (arith, lw)
  going_settles (suc w) s (ConditionEnd h ∷ rest) st lw lt = moves refl refl (going_settles w s rest (cut_to h st) (omega (arith, lw)) (cut-length h st (suc k) lt))
  going_settles (suc w) s (NotEnd h ∷ rest) st lw lt = moves refl refl (failing_settles (record s { goals = rest }) (cut_to h st) (cut-length h st (suc k) lt))
  going_settles (suc w) s (CatchEnd h ∷ rest) st lw lt =
      go (length st == h) refl (going_settles w s rest (cut_to (h - 1) st) (omega (arith, lw)) (cut-length (h - 1) st (suc k) lt)) (going_settles w s rest st (omega (arith, lw)) lt)
    where
      go : (b : Bool) → (length st == h) ≡ b → Settles x (record s { mode = Going; goals = rest; stack = cut_to (h - 1) st }) → Settles x (record s { mode = Going; goals = rest; stack = st })
          → Settles x (record s { mode = Going; goals = CatchEnd h ∷ rest; stack = st })
      go true e one other = moves (rw e refl) refl one
      go false e one other = moves (rw e refl) refl other
  going_settles (suc w) s (FindallEnd t h ∷ rest) st lw lt =
      moves refl refl (failing_settles (record s { goals = rest }) (found_at h (numbered t) st) (same (found-length h (numbered t) st)))
    where
      same : length (found_at h (numbered t) st) ≡ length st → length (found_at h (numbered t) st) < suc k
      same e = omega (arith, lt, e)

  recovering_good : (s t : State) (ball recovery : Tree) (o : Option (ℕ → Tree)) → t.steps ≡ s.steps → length t.stack < k → Good x s (recovering ball recovery t o)
  recovering_good s t ball recovery None e lt = inr (record t { mode = Raising ball }, refl, e, smaller (record t { mode = Raising ball }) lt)
  recovering_good s t ball recovery (Some m) e lt =
      let u : State = bound_further m (record t { goals = Do (call_term recovery) (height t) ∷ t.goals }) in inr (u, refl, e, smaller u lt)

  reaching_good : (s : State) (ball : Tree) (below : List Choice) (c : Choice) (a : Alternative) → length below < k → Good x s (reaching ball s below c a)
  reaching_good s ball below c (CatchMark catcher recovery) lt =
      recovering_good s (record (back_to s c below) { fresh = s.fresh + beyond ball }) ball recovery (unifier (renamed s.fresh ball) catcher) refl lt
  reaching_good s ball below c (Clauses used goal rest) lt = inr (record s { stack = below }, refl, refl, smaller (record s { stack = below }) lt)
  reaching_good s ball below c (Right goal cut) lt = inr (record s { stack = below }, refl, refl, smaller (record s { stack = below }) lt)
  reaching_good s ball below c Again lt = inr (record s { stack = below }, refl, refl, smaller (record s { stack = below }) lt)
  reaching_good s ball below c NotMark lt = inr (record s { stack = below }, refl, refl, smaller (record s { stack = below }) lt)
  reaching_good s ball below c (FindallMark l f) lt = inr (record s { stack = below }, refl, refl, smaller (record s { stack = below }) lt)

  reached_good : (s : State) (ball : Tree) (st : List Choice) → length st < suc k → Good x s (reached x ball s st)
  reached_good s ball [] lt = inl (over-stops x s (Ball ball) s.steps)
  reached_good s ball (c ∷ below) lt = reaching_good s ball below c c.what (omega arith)

  caught_good : (s : State) (ball : Tree) (o : Option ℕ) → length s.stack < suc k → Good x s (caught x ball s o)
  caught_good s ball None lt = inl (over-stops x s (Ball ball) s.steps)
  caught_good s ball (Some h) lt = go (nat_lt h (height s)) refl
    where
      lower : h < length s.stack → length (cut_to h s.stack) < k
      lower l = let e : length (drop (length s.stack - h) s.stack) ≡ length s.stack - (length s.stack - h) = length-drop (length s.stack - h) s.stack in omega (arith, lt)

      go : (b : Bool) → nat_lt h (height s) ≡ b → Good x s (if b then Goes (cut_back h s) else reached x ball s s.stack)
      go true e = inr (cut_back h s, refl, refl, smaller (cut_back h s) (lower (ltb-true h (height s) e)))
      go false e = reached_good s ball s.stack lt

  raising_settles : (s : State) (ball : Tree) → length s.stack < suc k → Settles x (record s { mode = Raising ball })
  raising_settles s ball lt = settles_by x (record s { mode = Raising ball }) (caught_good (record s { mode = Raising ball }) ball (active_catch s.goals) lt)

settles_within : (x : Setting) (k : ℕ) (s : State) → length s.stack < k → Settles x s
settles_within x zero s lt = absurd (nothing lt)
  where
    nothing : {n : ℕ} → n < 0 → ⊥
    nothing h = omega arith
settles_within x (suc k) s lt = by_mode s.mode (settles_within x k)
  where
    by_mode : (m : Mode) → ((t : State) → length t.stack < k → Settles x t) → Settles x (record s { mode = m })
    by_mode Going below = going_settles x k below (suc (goals_weight s.goals)) s s.goals s.stack (omega arith) lt
    by_mode Failing below = failing_settles x k below s s.stack lt
    by_mode (Raising ball) below = raising_settles x k below s ball lt

-- from each state a step is taken, or the run is over or doesn't fit, after finitely many moves without a step
pub settles : (x : Setting) (s : State) → Settles x s
settles x s = settles_within x (suc (length s.stack)) s (omega arith)

-- each state comes to an end, or to a move that doesn't fit
Comes : Setting → State → Type 0
Comes x s = ((r : Report) × Runs x s r) ⊎ Misfits x s

comes_later : (x : Setting) (s t : State) → move x s ≡ Goes t → Comes x t → Comes x s
unfolding Comes
comes_later x s t e (inl (r, h)) = inl (r, goes e h)
comes_later x s t e (inr h) = inr (later e h)

through : (x : Setting) (d : ℕ) → ((t : State) → t.steps ≤ x.budget → x.budget - t.steps < d → Comes x t) → {s : State} → Settles x s → s.steps ≤ x.budget → x.budget - s.steps ≤ d → Comes x s
unfolding Comes
through x d next (stops {s = s} h) le lt = go (move x s) refl h (move-within x s le)
  where
    go : (o : Outcome) → move x s ≡ o → Stops s.steps o → Within x.budget o → Comes x s
    go (Goes t) e st w = comes_later x s t e (next t w (less st w lt))
      where
        less : t.steps ≡ suc s.steps → t.steps ≤ x.budget → x.budget - s.steps ≤ d → x.budget - t.steps < d
        less a b c = omega arith
    go (Ends r) e st w = inl (r, ends e)
    go Unfit e st w = inr (unfit e)
through x d next (moves {s = s} {t = t} e f h) le lt = comes_later x s t e (through x d next h (tle (let P : Outcome → Type 0 = λ o. Within x.budget o in subst P e (move-within x s le))) (closer f lt))
  where
    tle : t.steps ≤ x.budget → t.steps ≤ x.budget
    tle h = h

    closer : t.steps ≡ s.steps → x.budget - s.steps ≤ d → x.budget - t.steps ≤ d
    closer e l = omega arith

comes : (x : Setting) (d : ℕ) (s : State) → s.steps ≤ x.budget → x.budget - s.steps < d → Comes x s
comes x zero s le lt = absurd (nothing lt)
  where
    nothing : {n : ℕ} → n < 0 → ⊥
    nothing h = omega arith
comes x (suc d) s le lt = through x d (comes x d) (settles x s) le (omega (arith, lt))

pub has_transcript : HasTranscript
unfolding Comes
has_transcript x goal fronts = comes x (suc x.budget) (beginning x goal fronts) (omega arith) (omega arith)
