-- A goal has one transcript at most, and its steps are within the budget.
use Rattle.std.proofs.Common.{◌≡◌, ℕ, suc, ◌+◌, ◌≤◌, List, [], ◌∷◌, Bool, true, false, refl, sym, ◌∙◌, subst, arith, inl, inr}
use Rattle.std.specs.Prelude.{pos, ◌-◌, ◌==◌, ◌≢◌, ◌⊎◌, nat_lt, codes, if◌then◌else◌, Option, Some, None, take}
use Rattle.std.proofs.lemmas.Bool.Decides.{eqb_tells}
use Rattle.prolog_terms.specs.Operators.{Table}
use Rattle.prolog_terms.specs.Tree.{Tree, Trees, variable, integer, atom, compound, count}
use Rattle.prolog_terms.specs.declared.fault.Fault.TheVariants.{Representation}
use Rattle.prolog_terms.specs.declared.entry.Indicator.{Indicator}
use Rattle.call_patterns.specs.Keys.{keys}
use Rattle.prolog_terms.specs.Substitutions.{renamed, beyond}
use Rattle.term_unifier.specs.Unifier.{unifier}
use Rattle.prolog_terms.specs.Clauses.{body_of}
use Rattle.term_builtins.specs.Meanings.{Meaning, Holds, Equates, Writes, Puts, Raises, list_tree}
use Rattle.wam_machine.specs.Control.{Access, Control, True, Fail, Cut, Repeat, Both, Either, IfElse, If, Not, Call, Once, Catch, Findall, Throw, Halt, HaltWith, Database, Builtin, User, control_of, with_added}
use Rattle.wam_machine.specs.declared.run.RunEnd.{RunEnd}
use Rattle.wam_machine.specs.declared.run.RunEnd.TheVariants.{Exhausted, Ball, Spent, Halted}
use Rattle.wam_machine.specs.States.{Use, Candidate, Next, Do, ConditionEnd, NotEnd, CatchEnd, FindallEnd, Alternative, Clauses, Right, Again, NotMark, CatchMark, FindallMark, Choice, Mode, Going, Failing, Raising, State, Setting, Report, Outcome, Goes, Ends, Unfit, no_more, over, stepping, onwards, height, solving, equating, cut_back, raises}
use Rattle.wam_machine.specs.Procedures.{numbering, side_of_clause, side_of_call, first_goals, entering, leaving, trying, candidate_clauses, calling, accessing}
use Rattle.wam_machine.specs.Machine.{call_with, running, calling_added, denying, catching, gathering, gathered, new_copies, behind_copies, throwing, halting, leaving_catch, active_catch, recovering, reaching, reached, caught, repeating, performing, doing, goal_move, going, back_to, taken, failing, raising, move, Runs, ends, goes, coming_to, calling_builtin}
use Rattle.wam_machine.proofs.Lasting.{IsNear, meeting-lasts, calling-lasts, accessing-lasts}

-- ---- one transcript

ends-same : {r q : Report} → Ends r ≡ Ends q → r ≡ q
ends-same e = cc

goes-same : {s t : State} → Goes s ≡ Goes t → s ≡ t
goes-same e = cc

pub Runs-one : (x : Setting) {s : State} (r q : Report) → Runs x s r → Runs x s q → r ≡ q
Runs-one x r q (ends e) (ends f) = ends-same (sym e ∙ f)
Runs-one x r q (ends e) (goes {t = t} f k) = let h : Ends r ≡ Goes t = sym e ∙ f in absurd cc
Runs-one x r q (goes {t = t} e h) (ends f) = let k : Goes t ≡ Ends q = sym e ∙ f in absurd cc
Runs-one x r q (goes {t = t} e h) (goes {t = u} f k) =
    Runs-one x r q h (subst (λ v. Runs x v q) (sym (goes-same (sym e ∙ f))) k)

-- ---- steps

-- an outcome with as many steps as before
abbrev pub Keeps : ℕ → Outcome → Type 0
Keeps n (Goes t) = t.steps ≡ n
Keeps n (Ends r) = r.steps ≡ n
Keeps n Unfit = Unit {0}

-- an outcome with steps within the budget
abbrev pub Within : ℕ → Outcome → Type 0
Within budget (Goes t) = t.steps ≤ budget
Within budget (Ends r) = r.steps ≤ budget
Within budget Unfit = Unit {0}

kept_within : (budget n : ℕ) (o : Outcome) → n ≤ budget → Keeps n o → Within budget o
kept_within budget n (Goes t) le k = rw k le
kept_within budget n (Ends r) le k = rw k le
kept_within budget n Unfit le k = tt

pub over-keeps : (x : Setting) (s : State) (end : RunEnd) → Keeps s.steps (over x s end)
over-keeps x s end = go (no_more s.fronts)
  where
    go : (b : Bool) → Keeps s.steps (if b then Ends (record { events = s.events; deeds = s.deeds; tried = s.tried; steps = s.steps; end = end }) else Unfit)
    go true = refl
    go false = tt

solving-keeps : (goals : List Next) (s : State) (o : Option (ℕ → Tree)) → Keeps s.steps (solving goals s o)
solving-keeps goals s None = refl
solving-keeps goals s (Some m) = refl

equating-keeps : (a b : Tree) (goals : List Next) (s : State) → Keeps s.steps (equating a b goals s)
equating-keeps a b goals s = solving-keeps goals s (unifier a b)

coming_to-keeps : (ops : Table) (at : Indicator) (s : State) (m : Meaning) → Keeps s.steps (coming_to ops at s m)
coming_to-keeps ops at s (Holds true) = refl
coming_to-keeps ops at s (Holds false) = refl
coming_to-keeps ops at s (Writes style t) = refl
coming_to-keeps ops at s (Puts bytes) = refl
coming_to-keeps ops at s (Equates added a b) = equating-keeps a b [] (record s { fresh = s.fresh + added })
coming_to-keeps ops at s (Raises fault) = refl

builtin-keeps : (ops : Table) (row : ℕ) (args : Trees) (s : State) → Keeps s.steps (calling_builtin ops row args s)
unfolding calling_builtin
builtin-keeps ops row args s = coming_to-keeps ops _ s _

near-steps : (n : ℕ) (s t : State) → IsNear s t → s.steps ≡ n → t.steps ≡ n
near-steps n s t k h = k.steps ∙ h

entering-keeps : (x : Setting) (used : Use) (goal : Tree) (c : Candidate) (from cut : ℕ) (s : State) → Keeps s.steps (entering x used goal c from cut s)
entering-keeps x used goal c from cut s =
    meeting-lasts x (λ t. t.steps ≡ s.steps) (Keeps s.steps) (λ t h. h) tt (near-steps s.steps) used c.name (first_goals used from cut c.clause) s
    (unifier (renamed from (side_of_clause used c.clause)) (side_of_call used goal)) refl (λ m. refl)

pub trying-keeps : (x : Setting) (used : Use) (goal : Tree) (cs : List Candidate) (s : State) → Keeps s.steps (trying x used goal cs s)
trying-keeps x used goal [] s = refl
trying-keeps x used goal (c ∷ []) s = entering-keeps x used goal c s.fresh (height s) (numbering c.clause (record s { tried = s.tried + 1 }))
trying-keeps x used goal (c ∷ d ∷ ds) s = entering-keeps x used goal c s.fresh (height s) (numbering c.clause (leaving used goal (d ∷ ds) (record s { tried = s.tried + 1 })))

tries-keeps : (x : Setting) (n : ℕ) (used : Use) (goal : Tree) (f p : ℕ) (t : State) → t.steps ≡ n → Keeps n (trying x used goal (candidate_clauses (take f x.journal) p (keys goal)) t)
tries-keeps x n used goal f p t h =
    subst (λ (m : ℕ). Keeps m (trying x used goal (candidate_clauses (take f x.journal) p (keys goal)) t)) h (trying-keeps x used goal (candidate_clauses (take f x.journal) p (keys goal)) t)

running-keeps : (goal : Tree) (at : Indicator) (s : State) (o : Option Tree) → Keeps s.steps (running goal at s o)
running-keeps goal at s None = refl
running-keeps goal at s (Some b) = refl

denying-keeps : (goal : Tree) (s : State) (o : Option Tree) → Keeps s.steps (denying goal s o)
denying-keeps goal s None = refl
denying-keeps goal s (Some b) = refl

catching-keeps : (goal catcher recovery : Tree) (s : State) (o : Option Tree) → Keeps s.steps (catching goal catcher recovery s o)
catching-keeps goal catcher recovery s None = refl
catching-keeps goal catcher recovery s (Some b) = refl

gathering-keeps : (template goal list : Tree) (s : State) (o : Option Tree) → Keeps s.steps (gathering template goal list s o)
gathering-keeps template goal list s None = refl
gathering-keeps template goal list s (Some b) = refl

pub gathered-keeps : (list : Tree) (found : List Tree) (s : State) → Keeps s.steps (gathered list found s)
gathered-keeps list found s = equating-keeps list (list_tree (new_copies s.fresh found)) [] (record s { fresh = behind_copies s.fresh found })

throwing-keeps : (ball : Tree) (s : State) → Keeps s.steps (throwing ball s)
throwing-keeps (variable n) s = refl
throwing-keeps (integer z) s = refl
throwing-keeps (atom a) s = refl
throwing-keeps (compound f ts) s = refl

halting-keeps : (x : Setting) (code : Tree) (s : State) → Keeps s.steps (halting x code s)
halting-keeps x (variable n) s = refl
halting-keeps x (integer z) s = over-keeps x s (Halted z)
halting-keeps x (atom a) s = refl
halting-keeps x (compound f ts) s = refl

calling_added-keeps : (goal : Tree) (added : Trees) (s : State) → Keeps s.steps (calling_added goal added s)
calling_added-keeps (variable n) added s = refl
calling_added-keeps (integer z) added s = refl
calling_added-keeps (atom a) added s = running-keeps (with_added (atom a) added) (call_with added) s (body_of (with_added (atom a) added))
calling_added-keeps (compound f ts) added s = go (nat_lt 255 (count ts + count added))
  where
    go : (b : Bool) → Keeps s.steps (if b then raises (Representation (codes "max_arity")) (call_with added) s else running (with_added (compound f ts) added) (call_with added) s (body_of (with_added (compound f ts) added)))
    go true = refl
    go false = running-keeps (with_added (compound f ts) added) (call_with added) s (body_of (with_added (compound f ts) added))

calling-keeps : (x : Setting) (s : State) (goal : Tree) (i : Indicator) → Keeps s.steps (calling x s goal i)
calling-keeps x s goal i = calling-lasts x (λ t. t.steps ≡ s.steps) (Keeps s.steps) (λ t h. h) tt (near-steps s.steps) (tries-keeps x s.steps) s goal i refl

accessing-keeps : (x : Setting) (a : Access) (s : State) → Keeps s.steps (accessing x a s)
accessing-keeps x a s = accessing-lasts x (λ t. t.steps ≡ s.steps) (Keeps s.steps) (λ t h. h) tt (near-steps s.steps) (tries-keeps x s.steps) a s refl

stepping-within : (x : Setting) (s : State) (then_ : State → Outcome) → s.steps ≤ x.budget → ((t : State) → Keeps t.steps (then_ t)) → Within x.budget (stepping x s then_)
stepping-within x s then_ le k = go (eqb_tells s.steps x.budget)
  where
    go : ((s.steps == x.budget) ≡ true) × (s.steps ≡ x.budget) ⊎ ((s.steps == x.budget) ≡ false) × (s.steps ≢ x.budget) → Within x.budget (stepping x s then_)
    go (inl (e, same)) = rw (e, stepping) (kept_within x.budget s.steps (over x s (Spent s.steps)) le (over-keeps x s (Spent s.steps)))
    go (inr (e, other)) =
        let more : suc s.steps ≤ x.budget = omega (arith, other) in
        rw (e, stepping) (kept_within x.budget (suc s.steps) (then_ (record s { steps = suc s.steps })) more (k (record s { steps = suc s.steps })))

pub performing-keeps : (x : Setting) (goal : Tree) (cut : ℕ) (c : Control) (s : State) → Keeps s.steps (performing x goal cut c s)
performing-keeps x goal cut True s = refl
performing-keeps x goal cut Fail s = refl
performing-keeps x goal cut Cut s = refl
performing-keeps x goal cut Repeat s = refl
performing-keeps x goal cut (Both a b) s = refl
performing-keeps x goal cut (Either a b) s = refl
performing-keeps x goal cut (IfElse c t e) s = refl
performing-keeps x goal cut (If c t) s = refl
performing-keeps x goal cut (Not g) s = denying-keeps g s (body_of g)
performing-keeps x goal cut (Call g added) s = calling_added-keeps g added s
performing-keeps x goal cut (Once g) s = refl
performing-keeps x goal cut (Catch g c r) s = catching-keeps g c r s (body_of g)
performing-keeps x goal cut (Findall t g l) s = gathering-keeps t g l s (body_of g)
performing-keeps x goal cut (Throw b) s = throwing-keeps b s
performing-keeps x goal cut Halt s = over-keeps x s (Halted (pos 0))
performing-keeps x goal cut (HaltWith n) s = halting-keeps x n s
performing-keeps x goal cut (Database a) s = accessing-keeps x a s
performing-keeps x goal cut (Builtin row args) s = builtin-keeps x.ops row args s
performing-keeps x goal cut (User i) s = calling-keeps x s goal i

performed-within : (x : Setting) (goal : Tree) (cut : ℕ) (s : State) (c : Control) → s.steps ≤ x.budget → Within x.budget (stepping x s (performing x goal cut c))
performed-within x goal cut s c le = stepping-within x s (performing x goal cut c) le (performing-keeps x goal cut c)

doing-within : (x : Setting) (goal : Tree) (cut : ℕ) (s : State) (c : Control) → s.steps ≤ x.budget → Within x.budget (doing x goal cut s c)
doing-within x goal cut s True le = performed-within x goal cut s True le
doing-within x goal cut s Fail le = performed-within x goal cut s Fail le
doing-within x goal cut s Cut le = performed-within x goal cut s Cut le
doing-within x goal cut s Repeat le = performed-within x goal cut s Repeat le
doing-within x goal cut s (Both a b) le = le
doing-within x goal cut s (Either a b) le = performed-within x goal cut s (Either a b) le
doing-within x goal cut s (IfElse c t e) le = performed-within x goal cut s (IfElse c t e) le
doing-within x goal cut s (If c t) le = performed-within x goal cut s (If c t) le
doing-within x goal cut s (Not g) le = performed-within x goal cut s (Not g) le
doing-within x goal cut s (Call g added) le = performed-within x goal cut s (Call g added) le
doing-within x goal cut s (Once g) le = performed-within x goal cut s (Once g) le
doing-within x goal cut s (Catch g c r) le = performed-within x goal cut s (Catch g c r) le
doing-within x goal cut s (Findall t g l) le = performed-within x goal cut s (Findall t g l) le
doing-within x goal cut s (Throw b) le = performed-within x goal cut s (Throw b) le
doing-within x goal cut s Halt le = performed-within x goal cut s Halt le
doing-within x goal cut s (HaltWith n) le = performed-within x goal cut s (HaltWith n) le
doing-within x goal cut s (Database a) le = performed-within x goal cut s (Database a) le
doing-within x goal cut s (Builtin row args) le = performed-within x goal cut s (Builtin row args) le
doing-within x goal cut s (User i) le = performed-within x goal cut s (User i) le

goal_move-within : (x : Setting) (goal : Tree) (cut : ℕ) (s : State) (o : Option Control) → s.steps ≤ x.budget → Within x.budget (goal_move x goal cut s o)
goal_move-within x goal cut s None le = tt
goal_move-within x goal cut s (Some c) le = doing-within x goal cut s c le

leaving_catch-keeps : (h : ℕ) (s : State) → (leaving_catch h s).steps ≡ s.steps
leaving_catch-keeps h s = go (height s == h)
  where
    go : (b : Bool) → (if b then cut_back (h - 1) s else s).steps ≡ s.steps
    go true = refl
    go false = refl

going-within : (x : Setting) (s : State) (gs : List Next) → s.steps ≤ x.budget → Within x.budget (going x s gs)
going-within x s [] le = le
going-within x s (Do g cut ∷ rest) le = goal_move-within x g cut (record s { goals = rest }) (control_of g) le
going-within x s (ConditionEnd h ∷ rest) le = le
going-within x s (NotEnd h ∷ rest) le = le
going-within x s (CatchEnd h ∷ rest) le = rw (leaving_catch-keeps h (record s { goals = rest })) le
going-within x s (FindallEnd t h ∷ rest) le = le

taken-within : (x : Setting) (s : State) (a : Alternative) → s.steps ≤ x.budget → Within x.budget (taken x s a)
taken-within x s (Clauses used goal rest) le = stepping-within x s (trying x used goal rest) le (trying-keeps x used goal rest)
taken-within x s (Right goal cut) le = stepping-within x s (onwards (Do goal cut ∷ [])) le (λ t. refl)
taken-within x s Again le = stepping-within x s repeating le (λ t. refl)
taken-within x s NotMark le = le
taken-within x s (CatchMark c r) le = le
taken-within x s (FindallMark l f) le = kept_within x.budget s.steps (gathered l f s) le (gathered-keeps l f s)

failing-within : (x : Setting) (s : State) (st : List Choice) → s.steps ≤ x.budget → Within x.budget (failing x s st)
failing-within x s [] le = kept_within x.budget s.steps (over x s Exhausted) le (over-keeps x s Exhausted)
failing-within x s (c ∷ below) le = taken-within x (back_to s c below) c.what le

recovering-keeps : (ball recovery : Tree) (s : State) (o : Option (ℕ → Tree)) → Keeps s.steps (recovering ball recovery s o)
recovering-keeps ball recovery s None = refl
recovering-keeps ball recovery s (Some m) = refl

reaching-keeps : (ball : Tree) (s : State) (below : List Choice) (c : Choice) (a : Alternative) → Keeps s.steps (reaching ball s below c a)
reaching-keeps ball s below c (CatchMark catcher recovery) =
    recovering-keeps ball recovery (record (back_to s c below) { fresh = s.fresh + beyond ball }) (unifier (renamed s.fresh ball) catcher)
reaching-keeps ball s below c (Clauses used goal rest) = refl
reaching-keeps ball s below c (Right goal cut) = refl
reaching-keeps ball s below c Again = refl
reaching-keeps ball s below c NotMark = refl
reaching-keeps ball s below c (FindallMark l f) = refl

reached-keeps : (x : Setting) (ball : Tree) (s : State) (st : List Choice) → Keeps s.steps (reached x ball s st)
reached-keeps x ball s [] = over-keeps x s (Ball ball)
reached-keeps x ball s (c ∷ below) = reaching-keeps ball s below c c.what

caught-keeps : (x : Setting) (ball : Tree) (s : State) (o : Option ℕ) → Keeps s.steps (caught x ball s o)
caught-keeps x ball s None = over-keeps x s (Ball ball)
caught-keeps x ball s (Some h) = go (nat_lt h (height s))
  where
    go : (b : Bool) → Keeps s.steps (if b then Goes (cut_back h s) else reached x ball s s.stack)
    go true = refl
    go false = reached-keeps x ball s s.stack

pub move-within : (x : Setting) (s : State) → s.steps ≤ x.budget → Within x.budget (move x s)
move-within x s le = go s.mode
  where
    go : (m : Mode) → Within x.budget (elim m [ Going ↦ going x s s.goals | Failing ↦ failing x s s.stack | Raising ball ↦ raising x s ball ])
    go Going = going-within x s s.goals le
    go Failing = failing-within x s s.stack le
    go (Raising ball) = kept_within x.budget s.steps (raising x s ball) le (caught-keeps x ball s (active_catch s.goals))

pub Runs-within : (x : Setting) {s : State} {r : Report} → Runs x s r → s.steps ≤ x.budget → r.steps ≤ x.budget
Runs-within x (ends {s = s} e) le = let P : Outcome → Type 0 = λ o. Within x.budget o in subst P e (move-within x s le)
Runs-within x (goes {s = s} e h) le = Runs-within x h (let P : Outcome → Type 0 = λ o. Within x.budget o in subst P e (move-within x s le))
