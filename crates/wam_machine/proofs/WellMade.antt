-- Over clauses with bodies, each goal is a body at its turn.
use Rattle.std.proofs.Common.{◌≡◌, ℕ, zero, suc, ◌+◌, ◌-◌, List, [], ◌∷◌, ◌++◌, Bool, true, false, length, take, map, refl, sym, subst}
use Rattle.std.specs.Prelude.{pos, All, IsTrue, IfSome, IsSome, Option, Some, None, ◌==◌, ◌&&◌, ◌||◌, if◌then◌else◌, nat_lt, codes, filter_map, slice_get, option_and_then, option_map}
use Rattle.std.specs.List.{cons_option}
use Rattle.std.proofs.lemmas.List.Elements.{All-nil, All-cons, All-head, All-tail, All-append, All-take, All-drop}
use Rattle.prolog_terms.specs.Operators.{Table}
use Rattle.prolog_terms.specs.Tree.{Tree, Trees, variable, integer, atom, compound, none, more, count}
use Rattle.prolog_terms.specs.Substitutions.{substituted, renamed, numbered, beyond}
use Rattle.prolog_terms.specs.Clauses.{is_named, is_connective, is_body, body_of, call_term}
use Rattle.prolog_terms.specs.Faults.{two}
use Rattle.prolog_terms.specs.declared.entry.Clause.{Clause}
use Rattle.prolog_terms.specs.declared.entry.Entry.{Entry}
use Rattle.prolog_terms.specs.declared.entry.Indicator.{Indicator}
use Rattle.prolog_terms.specs.declared.fault.Fault.TheVariants.{Representation}
use Rattle.journals.specs.Journal.{Journal, clause_named, added}
use Rattle.call_patterns.specs.Candidates.{candidates}
use Rattle.call_patterns.specs.Keys.{keys}
use Rattle.term_unifier.specs.Unifier.{unifier}
use Rattle.term_builtins.specs.Meanings.{Meaning, Holds, Equates, Writes, Puts, Raises, list_tree}
use Rattle.term_builtins.specs.Table.{builtins, place_in}
use Rattle.wam_machine.specs.Control.{Access, Inspect, Control, True, Fail, Cut, Repeat, Both, Either, IfElse, If, Not, Call, Once, Catch, Findall, Throw, Halt, HaltWith, Database, Builtin, User, control_of, control_with_none, access_with_one, control_with_one, control_of_either, control_with_two, control_with_three, control_with_more, or_call, first_body, with_added, is_true_atom, builtin_or_user, plain}
use Rattle.wam_machine.specs.declared.run.RunEnd.{RunEnd}
use Rattle.wam_machine.specs.declared.run.RunEnd.TheVariants.{Exhausted, Ball, Spent, Halted}
use Rattle.wam_machine.specs.States.{Use, Enter, Match, Candidate, Next, Do, ConditionEnd, NotEnd, CatchEnd, FindallEnd, Alternative, Clauses, Right, Again, NotMark, CatchMark, FindallMark, Choice, Mode, Going, Failing, Raising, State, Setting, Outcome, Goes, Ends, Unfit, no_more, over, stepping, onwards, pushed, height, next_under, solving, raises, cut_back}
use Rattle.wam_machine.specs.Procedures.{numbering, body_from, side_of_clause, side_of_call, first_goals, entering, leaving, trying, candidate_named, candidate_clauses, calling, accessing}
use Rattle.wam_machine.specs.Machine.{call_with, running, calling_added, denying, catching, gathering, gathered, new_copies, behind_copies, throwing, halting, active_catch, recovering, reaching, reached, caught, repeating, performing, doing, going, back_to, taken, failing, raising, move, beginning, coming_to, calling_builtin}
use Rattle.wam_machine.specs.Laws.{CanBeDone, HasBody, CanBeTaken, CanGoBack, IsWellMade, HasBodies, GoalsAreBodies}
use Rattle.wam_machine.proofs.FoundAt.{found-back}
use Rattle.wam_machine.proofs.Lasting.{IsNear, meeting-lasts, calling-lasts, accessing-lasts}
use Rattle.prolog_terms.proofs.Converted.{both_true, first_true, second_true, is_converted}

-- ---- bodies

-- the parts of a connective, where it may be one
either_parts : (c p q r w : Bool) → (p ≡ true → r ≡ true) → (q ≡ true → w ≡ true) → (if c then p && q else true) ≡ true → (if c then r && w else true) ≡ true
either_parts false p q r w f g h = refl
either_parts true p q r w f g h = both_true r w (f (first_true p q h)) (g (second_true p q h))

pub is_body-substituted : (s : ℕ → Tree) (t : Tree) → is_body t ≡ true → is_body (substituted s t) ≡ true
is_body-substituted s (variable n) h = absurd cc
is_body-substituted s (integer z) h = absurd cc
is_body-substituted s (atom a) h = refl
is_body-substituted s (compound f none) h = refl
is_body-substituted s (compound f (more a none)) h = refl
is_body-substituted s (compound f (more a (more b none))) h =
    either_parts (is_connective f) (is_body a) (is_body b) (is_body (substituted s a)) (is_body (substituted s b)) (is_body-substituted s a) (is_body-substituted s b) h
is_body-substituted s (compound f (more a (more b (more c ts)))) h = refl

-- the goals of which a goal is made are bodies
abbrev pub HasParts : Control → Type 0
HasParts True = Unit {0}
HasParts Fail = Unit {0}
HasParts Cut = Unit {0}
HasParts Repeat = Unit {0}
HasParts (Both a b) = (is_body a ≡ true) × (is_body b ≡ true)
HasParts (Either a b) = (is_body a ≡ true) × (is_body b ≡ true)
HasParts (IfElse c t e) = (is_body c ≡ true) × (is_body t ≡ true) × (is_body e ≡ true)
HasParts (If c t) = (is_body c ≡ true) × (is_body t ≡ true)
HasParts (Not g) = Unit {0}
HasParts (Call g added) = Unit {0}
HasParts (Once g) = Unit {0}
HasParts (Catch g c r) = Unit {0}
HasParts (Findall t g l) = Unit {0}
HasParts (Throw b) = Unit {0}
HasParts Halt = Unit {0}
HasParts (HaltWith n) = Unit {0}
HasParts (Database a) = Unit {0}
HasParts (Builtin row args) = Unit {0}
HasParts (User i) = Unit {0}

choose : (b : Bool) (c d : Control) → HasParts c → HasParts d → HasParts (if b then c else d)
choose true c d h k = h
choose false c d h k = k

builtin_or_user-parts : (o : Option ℕ) (f : List ℕ) (args : Trees) → HasParts (builtin_or_user o f args)
builtin_or_user-parts None f args = tt
builtin_or_user-parts (Some row) f args = tt

plain_parts : (f : List ℕ) (args : Trees) → HasParts (plain f args)
unfolding plain
plain_parts f args = builtin_or_user-parts (place_in builtins f (count args)) f args

none_parts : (a : List ℕ) → HasParts (control_with_none a)
none_parts a = choose (is_named (codes "true") a) _ _ tt (choose (is_named (codes "fail") a) _ _ tt (choose (is_named (codes "!") a) _ _ tt (choose (is_named (codes "repeat") a) _ _ tt (choose (is_named (codes "halt") a) _ _ tt (plain_parts a none)))))

access_parts : (f : List ℕ) (a : Tree) → HasParts (access_with_one f a)
access_parts f a = choose (is_named (codes "asserta") f) _ _ tt (choose (is_named (codes "assertz") f) _ _ tt (choose (is_named (codes "retract") f) _ _ tt (choose (is_named (codes "retractall") f) _ _ tt (choose (is_named (codes "abolish") f) _ _ tt (plain_parts f (more a none))))))

one_parts : (f : List ℕ) (a : Tree) → HasParts (control_with_one f a)
one_parts f a = choose (is_named (codes "call") f) _ _ tt (choose (is_named (codes "once") f) _ _ tt (choose (is_named (codes "\\+") f) _ _ tt (choose (is_named (codes "throw") f) _ _ tt (choose (is_named (codes "halt") f) _ _ tt (access_parts f a)))))

three_parts : (f : List ℕ) (a b c : Tree) → HasParts (control_with_three f a b c)
three_parts f a b c = choose (is_named (codes "catch") f) _ _ tt (choose (is_named (codes "findall") f) _ _ tt (choose (is_named (codes "call") f) _ _ tt (plain_parts f (more a (more b (more c none))))))

more_parts : (f : List ℕ) (a : Tree) (ts : Trees) → HasParts (control_with_more f a ts)
more_parts f a ts = choose (is_named (codes "call") f && nat_lt (count ts) 8) _ _ tt (plain_parts f (more a ts))

condition_parts : (f : List ℕ) (c t e : Tree) (p q r : Bool) → (if p || (q || r) then is_body c && is_body t else true) ≡ true → is_body (two f c t) ≡ true → is_body e ≡ true
    → HasParts (if r then IfElse c t e else Either (two f c t) e)
condition_parts f c t e p q false h k l = (k, l)
condition_parts f c t e true q true h k l = (first_true (is_body c) (is_body t) h, second_true (is_body c) (is_body t) h, l)
condition_parts f c t e false true true h k l = (first_true (is_body c) (is_body t) h, second_true (is_body c) (is_body t) h, l)
condition_parts f c t e false false true h k l = (first_true (is_body c) (is_body t) h, second_true (is_body c) (is_body t) h, l)

either_has_parts : (a e : Tree) → is_body a ≡ true → is_body e ≡ true → HasParts (control_of_either a e)
either_has_parts (variable n) e h k = (h, k)
either_has_parts (integer z) e h k = (h, k)
either_has_parts (atom a) e h k = (h, k)
either_has_parts (compound f none) e h k = (h, k)
either_has_parts (compound f (more c none)) e h k = (h, k)
either_has_parts (compound f (more c (more t none))) e h k = condition_parts f c t e (is_named (codes ",") f) (is_named (codes ";") f) (is_named (codes "->") f) h h k
either_has_parts (compound f (more c (more t (more u us)))) e h k = (h, k)

connected_parts : (a b : Tree) (d : Control) (p q r : Bool) → HasParts d → (if p || (q || r) then is_body a && is_body b else true) ≡ true
    → HasParts (if p then Both a b else if q then control_of_either a b else if r then If a b else d)
connected_parts a b d true q r k h = (first_true (is_body a) (is_body b) h, second_true (is_body a) (is_body b) h)
connected_parts a b d false true r k h = either_has_parts a b (first_true (is_body a) (is_body b) h) (second_true (is_body a) (is_body b) h)
connected_parts a b d false false true k h = (first_true (is_body a) (is_body b) h, second_true (is_body a) (is_body b) h)
connected_parts a b d false false false k h = k

two_parts : (f : List ℕ) (a b : Tree) → is_body (two f a b) ≡ true → HasParts (control_with_two f a b)
two_parts f a b h =
    connected_parts a b (if is_named (codes "call") f then Call a (more b none) else if is_named (codes "clause") f then Database (Inspect a b) else plain f (more a (more b none)))
    (is_named (codes ",") f) (is_named (codes ";") f) (is_named (codes "->") f)
    (choose (is_named (codes "call") f) _ _ tt (choose (is_named (codes "clause") f) _ _ tt (plain_parts f (more a (more b none))))) h

-- a body is a goal, and what it is made of are bodies
pub parts : (g : Tree) → is_body g ≡ true → (c : Control) × (control_of g ≡ Some c) × HasParts c
parts (variable n) h = absurd cc
parts (integer z) h = absurd cc
parts (atom a) h = (control_with_none a, refl, none_parts a)
parts (compound f none) h = (plain f none, refl, plain_parts f none)
parts (compound f (more a none)) h = (control_with_one f a, refl, one_parts f a)
parts (compound f (more a (more b none))) h = (control_with_two f a b, refl, two_parts f a b h)
parts (compound f (more a (more b (more c none)))) h = (control_with_three f a b c, refl, three_parts f a b c)
parts (compound f (more a (more b (more c (more d ts))))) h = (control_with_more f a (more b (more c (more d ts))), refl, more_parts f a (more b (more c (more d ts))))

pub body_controlled : (g : Tree) → IsTrue (is_body g) → IsSome (control_of g)
body_controlled g h = rw ((parts g h).1) refl

-- ---- states

-- what a move leaves is well made
abbrev pub Makes : Outcome → Type 0
Makes (Goes t) = IsWellMade t
Makes (Ends r) = Unit {0}
Makes Unfit = Unit {0}

next_under-done : (m : ℕ → Tree) (n : Next) → CanBeDone n → CanBeDone (next_under m n)
next_under-done m (Do g cut) h = is_body-substituted m g h
next_under-done m (ConditionEnd k) h = tt
next_under-done m (NotEnd k) h = tt
next_under-done m (CatchEnd k) h = tt
next_under-done m (FindallEnd t k) h = tt

all_under-done : (m : ℕ → Tree) (ns : List Next) → All CanBeDone ns → All CanBeDone (map (next_under m) ns)
all_under-done m [] h = All-nil CanBeDone
all_under-done m (n ∷ ns) h = All-cons CanBeDone (next_under m n) (map (next_under m) ns) (next_under-done m n (All-head CanBeDone n ns h)) (all_under-done m ns (All-tail CanBeDone n ns h))

solving-makes : (new : List Next) (s : State) (o : Option (ℕ → Tree)) → All CanBeDone new → IsWellMade s → Makes (solving new s o)
solving-makes new s None n h = record { goals = h.goals; stack = h.stack }
solving-makes new s (Some m) n h = record { goals = all_under-done m (new ++ s.goals) (All-append CanBeDone new s.goals n h.goals); stack = h.stack }

coming_to-makes : (ops : Table) (at : Indicator) (s : State) (m : Meaning) → IsWellMade s → Makes (coming_to ops at s m)
coming_to-makes ops at s (Holds true) h = h
coming_to-makes ops at s (Writes style t) h = record { goals = h.goals; stack = h.stack }
coming_to-makes ops at s (Puts bytes) h = record { goals = h.goals; stack = h.stack }
coming_to-makes ops at s (Holds false) h = record { goals = h.goals; stack = h.stack }
coming_to-makes ops at s (Equates added a b) h = solving-makes [] (record s { fresh = s.fresh + added }) (unifier a b) (All-nil CanBeDone) (record { goals = h.goals; stack = h.stack })
coming_to-makes ops at s (Raises fault) h = record { goals = h.goals; stack = h.stack }

builtin-makes : (ops : Table) (row : ℕ) (args : Trees) (s : State) → IsWellMade s → Makes (calling_builtin ops row args s)
unfolding calling_builtin
builtin-makes ops row args s h = coming_to-makes ops _ s _ h

-- one more first
first_done : (g : Tree) (cut : ℕ) (ns : List Next) → is_body g ≡ true → All CanBeDone ns → All CanBeDone (Do g cut ∷ ns)
first_done g cut ns h k = All-cons CanBeDone (Do g cut) ns h k

end_done : (n : ℕ) (ns : List Next) → All CanBeDone ns → All CanBeDone (ConditionEnd n ∷ ns)
end_done n ns k = All-cons CanBeDone (ConditionEnd n) ns tt k

one_done : (g : Tree) (cut : ℕ) → is_body g ≡ true → All CanBeDone (Do g cut ∷ [])
one_done g cut h = first_done g cut [] h (All-nil CanBeDone)

pushed-well : (a : Alternative) (s : State) → CanBeTaken a → IsWellMade s → IsWellMade (pushed a s)
pushed-well a s t h = record { goals = h.goals; stack = All-cons CanGoBack (record { what = a; goals = s.goals; bindings = s.bindings }) s.stack (record { what = t; goals = h.goals }) h.stack }

body_from-done : (from cut : ℕ) (c : Clause) → HasBody c → All CanBeDone (body_from from cut c)
body_from-done from cut c h = go (is_true_atom c.body)
  where
    go : (b : Bool) → All CanBeDone (map (λ goal. Do (renamed from goal) cut) (if b then [] else c.body ∷ []))
    go true = All-nil CanBeDone
    go false = one_done (renamed from c.body) cut (is_body-substituted (λ v. variable (from + v)) c.body h)

first_goals-done : (used : Use) (from cut : ℕ) (c : Clause) → HasBody c → All CanBeDone (first_goals used from cut c)
first_goals-done Enter from cut c b = body_from-done from cut c b
first_goals-done (Match purpose body) from cut c b = All-nil CanBeDone

near-well : (s t : State) → IsNear s t → IsWellMade s → IsWellMade t
near-well s t n h = record { goals = subst (All CanBeDone) (sym n.goals) h.goals; stack = subst (All CanGoBack) (sym n.stack) h.stack }

entering-makes : (x : Setting) (used : Use) (goal : Tree) (c : Candidate) (from cut : ℕ) (s : State) → HasBody c.clause → IsWellMade s → Makes (entering x used goal c from cut s)
entering-makes x used goal c from cut s b h =
    meeting-lasts x IsWellMade Makes (λ t k. k) tt near-well used c.name (first_goals used from cut c.clause) s (unifier (renamed from (side_of_clause used c.clause)) (side_of_call used goal)) h
    (λ m. record {
      goals = all_under-done m (first_goals used from cut c.clause ++ s.goals) (All-append CanBeDone (first_goals used from cut c.clause) s.goals (first_goals-done used from cut c.clause b) h.goals);
      stack = h.stack;
    })

trying-makes : (x : Setting) (used : Use) (goal : Tree) (cs : List Candidate) (s : State) → All (λ c. HasBody c.clause) cs → IsWellMade s → Makes (trying x used goal cs s)
trying-makes x used goal [] s b h = record { goals = h.goals; stack = h.stack }
trying-makes x used goal (c ∷ []) s b h =
    entering-makes x used goal c s.fresh (height s) (numbering c.clause (record s { tried = s.tried + 1 })) (All-head (λ d. HasBody d.clause) c [] b) (record { goals = h.goals; stack = h.stack })
trying-makes x used goal (c ∷ d ∷ ds) s b h =
    entering-makes x used goal c s.fresh (height s) (numbering c.clause (leaving used goal (d ∷ ds) (record s { tried = s.tried + 1 }))) (All-head (λ e. HasBody e.clause) c (d ∷ ds) b)
    (let k : IsWellMade (pushed (Clauses used goal (d ∷ ds)) s) = pushed-well (Clauses used goal (d ∷ ds)) s (All-tail (λ e. HasBody e.clause) c (d ∷ ds) b) h in record { goals = k.goals; stack = k.stack })

in_all : {X : Type 0} (P : X → Type 0) (xs : List X) (k : ℕ) → All P xs → IfSome (slice_get xs k) P
in_all P [] zero h = tt
in_all P [] (suc k) h = tt
in_all P (x ∷ xs) zero h = All-head P x xs h
in_all P (x ∷ xs) (suc k) h = in_all P xs k (All-tail P x xs h)

named-body : (J : Journal) (k : ℕ) → HasBodies J → IfSome (clause_named J k) HasBody
named-body J k h = go (slice_get J k) (in_all (λ e. IfSome (added e.what) HasBody) J k h)
  where
    go : (o : Option Entry) → IfSome o (λ e. IfSome (added e.what) HasBody) → IfSome (option_and_then (λ e. added e.what) o) HasBody
    go None h = tt
    go (Some e) h = h

all_named-bodies : (J : Journal) (ks : List ℕ) → HasBodies J → All (λ c. HasBody c.clause) (filter_map (candidate_named J) ks)
all_named-bodies J [] h = All-nil (λ c. HasBody c.clause)
all_named-bodies J (k ∷ ks) h = go (clause_named J k) (named-body J k h) (all_named-bodies J ks h)
  where
    go : (o : Option Clause) → IfSome o HasBody → All (λ c. HasBody c.clause) (filter_map (candidate_named J) ks)
        → All (λ c. HasBody c.clause) (cons_option (option_map (λ c. record { name = k; clause = c }) o) (filter_map (candidate_named J) ks))
    go None b h = h
    go (Some c) b h = All-cons (λ c. HasBody c.clause) (record { name = k; clause = c }) (filter_map (candidate_named J) ks) b h

module _ (x : Setting) (b : HasBodies x.journal) where
  tries-makes : (used : Use) (goal : Tree) (f p : ℕ) (t : State) → IsWellMade t → Makes (trying x used goal (candidate_clauses (take f x.journal) p (keys goal)) t)
  tries-makes used goal f p t h =
      trying-makes x used goal (candidate_clauses (take f x.journal) p (keys goal)) t
      (all_named-bodies (take f x.journal) (candidates (take f x.journal) p (keys goal)) (All-take (λ e. IfSome (added e.what) HasBody) f x.journal b)) h

  calling-makes : (s : State) (goal : Tree) (i : Indicator) → IsWellMade s → Makes (calling x s goal i)
  calling-makes s goal i h = calling-lasts x IsWellMade Makes (λ t k. k) tt near-well tries-makes s goal i h

  accessing-makes : (a : Access) (s : State) → IsWellMade s → Makes (accessing x a s)
  accessing-makes a s h = accessing-lasts x IsWellMade Makes (λ t k. k) tt near-well tries-makes a s h

running-makes : (goal : Tree) (at : Indicator) (s : State) (o : Option Tree) → IfSome o (λ b. IsTrue (is_body b)) → IsWellMade s → Makes (running goal at s o)
running-makes goal at s None b h = record { goals = h.goals; stack = h.stack }
running-makes goal at s (Some body) b h = record { goals = first_done body (height s) s.goals b h.goals; stack = h.stack }

denying-makes : (goal : Tree) (s : State) (o : Option Tree) → IfSome o (λ b. IsTrue (is_body b)) → IsWellMade s → Makes (denying goal s o)
denying-makes goal s None b h = record { goals = h.goals; stack = h.stack }
denying-makes goal s (Some body) b h = record {
  goals = first_done body (suc (height s)) (NotEnd (height s) ∷ s.goals) b (All-cons CanBeDone (NotEnd (height s)) s.goals tt h.goals);
  stack = (pushed-well NotMark s tt h).stack;
}

catching-makes : (goal catcher recovery : Tree) (s : State) (o : Option Tree) → IfSome o (λ b. IsTrue (is_body b)) → IsWellMade s → Makes (catching goal catcher recovery s o)
catching-makes goal catcher recovery s None b h = record { goals = h.goals; stack = h.stack }
catching-makes goal catcher recovery s (Some body) b h = record {
  goals = first_done body (suc (height s)) (CatchEnd (suc (height s)) ∷ s.goals) b (All-cons CanBeDone (CatchEnd (suc (height s))) s.goals tt h.goals);
  stack = (pushed-well (CatchMark catcher recovery) s tt h).stack;
}

gathering-makes : (template goal list : Tree) (s : State) (o : Option Tree) → IfSome o (λ b. IsTrue (is_body b)) → IsWellMade s → Makes (gathering template goal list s o)
gathering-makes template goal list s None b h = record { goals = h.goals; stack = h.stack }
gathering-makes template goal list s (Some body) b h = record {
  goals = first_done body (suc (height s)) (FindallEnd template (suc (height s)) ∷ s.goals) b (All-cons CanBeDone (FindallEnd template (suc (height s))) s.goals tt h.goals);
  stack = (pushed-well (FindallMark list []) s tt h).stack;
}

gathered-makes : (list : Tree) (found : List Tree) (s : State) → IsWellMade s → Makes (gathered list found s)
gathered-makes list found s h =
    solving-makes [] (record s { fresh = behind_copies s.fresh found }) (unifier list (list_tree (new_copies s.fresh found))) (All-nil CanBeDone) (record { goals = h.goals; stack = h.stack })

throwing-makes : (ball : Tree) (s : State) → IsWellMade s → Makes (throwing ball s)
throwing-makes (variable n) s h = record { goals = h.goals; stack = h.stack }
throwing-makes (integer z) s h = record { goals = h.goals; stack = h.stack }
throwing-makes (atom a) s h = record { goals = h.goals; stack = h.stack }
throwing-makes (compound f ts) s h = record { goals = h.goals; stack = h.stack }

over-makes : (x : Setting) (s : State) (e : RunEnd) → Makes (over x s e)
over-makes x s e = go (no_more s.fronts)
  where
    go : (b : Bool) → Makes (if b then Ends (record { events = s.events; deeds = s.deeds; tried = s.tried; steps = s.steps; end = e }) else Unfit)
    go true = tt
    go false = tt

halting-makes : (x : Setting) (code : Tree) (s : State) → IsWellMade s → Makes (halting x code s)
halting-makes x (variable n) s h = record { goals = h.goals; stack = h.stack }
halting-makes x (integer z) s h = over-makes x s (Halted z)
halting-makes x (atom a) s h = record { goals = h.goals; stack = h.stack }
halting-makes x (compound f ts) s h = record { goals = h.goals; stack = h.stack }

calling_added-makes : (goal : Tree) (added : Trees) (s : State) → IsWellMade s → Makes (calling_added goal added s)
calling_added-makes (variable n) added s h = record { goals = h.goals; stack = h.stack }
calling_added-makes (integer z) added s h = record { goals = h.goals; stack = h.stack }
calling_added-makes (atom a) added s h = running-makes (with_added (atom a) added) (call_with added) s (body_of (with_added (atom a) added)) (is_converted (with_added (atom a) added)) h
calling_added-makes (compound f ts) added s h = go (nat_lt 255 (count ts + count added))
  where
    go : (b : Bool) → Makes (if b then raises (Representation (codes "max_arity")) (call_with added) s else running (with_added (compound f ts) added) (call_with added) s (body_of (with_added (compound f ts) added)))
    go true = record { goals = h.goals; stack = h.stack }
    go false = running-makes (with_added (compound f ts) added) (call_with added) s (body_of (with_added (compound f ts) added)) (is_converted (with_added (compound f ts) added)) h

performing-makes : (x : Setting) (goal : Tree) (cut : ℕ) (c : Control) (s : State) → HasBodies x.journal → HasParts c → IsWellMade s → Makes (performing x goal cut c s)
performing-makes x goal cut True s b p h = h
performing-makes x goal cut Fail s b p h = record { goals = h.goals; stack = h.stack }
performing-makes x goal cut Cut s b p h = record { goals = h.goals; stack = All-drop CanGoBack (length s.stack - cut) s.stack h.stack }
performing-makes x goal cut Repeat s b p h = pushed-well Again s tt h
performing-makes x goal cut (Both l r) s b p h = record { goals = first_done l cut (Do r cut ∷ s.goals) p.0 (first_done r cut s.goals p.1 h.goals); stack = h.stack }
performing-makes x goal cut (Either l r) s b p h = record { goals = first_done l cut s.goals p.0 h.goals; stack = (pushed-well (Right r cut) s p.1 h).stack }
performing-makes x goal cut (IfElse c t e) s b p h = record {
  goals = first_done c (suc (height s)) (ConditionEnd (height s) ∷ Do t cut ∷ s.goals) p.0 (end_done (height s) (Do t cut ∷ s.goals) (first_done t cut s.goals p.1 h.goals));
  stack = (pushed-well (Right e cut) s p.2 h).stack;
}
performing-makes x goal cut (If c t) s b p h = record {
  goals = first_done c (height s) (ConditionEnd (height s) ∷ Do t cut ∷ s.goals) p.0 (end_done (height s) (Do t cut ∷ s.goals) (first_done t cut s.goals p.1 h.goals));
  stack = h.stack;
}
performing-makes x goal cut (Not g) s b p h = denying-makes g s (body_of g) (is_converted g) h
performing-makes x goal cut (Call g added) s b p h = calling_added-makes g added s h
performing-makes x goal cut (Once g) s b p h = record { goals = first_done (two (codes "->") (call_term g) (atom (codes "true"))) cut s.goals refl h.goals; stack = h.stack }
performing-makes x goal cut (Catch g c r) s b p h = catching-makes g c r s (body_of g) (is_converted g) h
performing-makes x goal cut (Findall t g l) s b p h = gathering-makes t g l s (body_of g) (is_converted g) h
performing-makes x goal cut (Throw t) s b p h = throwing-makes t s h
performing-makes x goal cut Halt s b p h = over-makes x s (Halted (pos 0))
performing-makes x goal cut (HaltWith n) s b p h = halting-makes x n s h
performing-makes x goal cut (Database a) s b p h = accessing-makes x b a s h
performing-makes x goal cut (Builtin row args) s b p h = builtin-makes x.ops row args s h
performing-makes x goal cut (User i) s b p h = calling-makes x b s goal i h

stepping-makes : (x : Setting) (s : State) (then_ : State → Outcome) → Makes (then_ (record s { steps = suc s.steps })) → Makes (stepping x s then_)
stepping-makes x s then_ h = go (s.steps == x.budget)
  where
    go : (b : Bool) → Makes (if b then over x s (Spent s.steps) else then_ (record s { steps = suc s.steps }))
    go true = over-makes x s (Spent s.steps)
    go false = h

performed-makes : (x : Setting) (goal : Tree) (cut : ℕ) (s : State) (c : Control) → HasBodies x.journal → HasParts c → IsWellMade s → Makes (stepping x s (performing x goal cut c))
performed-makes x goal cut s c b p h = stepping-makes x s (performing x goal cut c) (performing-makes x goal cut c (record s { steps = suc s.steps }) b p (record { goals = h.goals; stack = h.stack }))

doing-makes : (x : Setting) (goal : Tree) (cut : ℕ) (s : State) (c : Control) → HasBodies x.journal → HasParts c → IsWellMade s → Makes (doing x goal cut s c)
doing-makes x goal cut s True b p h = performed-makes x goal cut s True b p h
doing-makes x goal cut s Fail b p h = performed-makes x goal cut s Fail b p h
doing-makes x goal cut s Cut b p h = performed-makes x goal cut s Cut b p h
doing-makes x goal cut s Repeat b p h = performed-makes x goal cut s Repeat b p h
doing-makes x goal cut s (Both l r) b p h = performing-makes x goal cut (Both l r) s b p h
doing-makes x goal cut s (Either l r) b p h = performed-makes x goal cut s (Either l r) b p h
doing-makes x goal cut s (IfElse c t e) b p h = performed-makes x goal cut s (IfElse c t e) b p h
doing-makes x goal cut s (If c t) b p h = performed-makes x goal cut s (If c t) b p h
doing-makes x goal cut s (Not g) b p h = performed-makes x goal cut s (Not g) b p h
doing-makes x goal cut s (Call g added) b p h = performed-makes x goal cut s (Call g added) b p h
doing-makes x goal cut s (Once g) b p h = performed-makes x goal cut s (Once g) b p h
doing-makes x goal cut s (Catch g c r) b p h = performed-makes x goal cut s (Catch g c r) b p h
doing-makes x goal cut s (Findall t g l) b p h = performed-makes x goal cut s (Findall t g l) b p h
doing-makes x goal cut s (Throw t) b p h = performed-makes x goal cut s (Throw t) b p h
doing-makes x goal cut s Halt b p h = performed-makes x goal cut s Halt b p h
doing-makes x goal cut s (HaltWith n) b p h = performed-makes x goal cut s (HaltWith n) b p h
doing-makes x goal cut s (Database a) b p h = performed-makes x goal cut s (Database a) b p h
doing-makes x goal cut s (Builtin row args) b p h = performed-makes x goal cut s (Builtin row args) b p h
doing-makes x goal cut s (User i) b p h = performed-makes x goal cut s (User i) b p h

going-makes : (x : Setting) (s : State) (gs : List Next) → HasBodies x.journal → All CanBeDone gs → IsWellMade s → Makes (going x s gs)
going-makes x s [] b d h = record { goals = h.goals; stack = h.stack }
going-makes x s (Do g cut ∷ rest) b d h =
    let k : (c : Control) × (control_of g ≡ Some c) × HasParts c = parts g (All-head CanBeDone (Do g cut) rest d) in
    rw (k.1) (doing-makes x g cut (record s { goals = rest }) k.0 b k.2 (record { goals = All-tail CanBeDone (Do g cut) rest d; stack = h.stack }))
going-makes x s (ConditionEnd k ∷ rest) b d h = record { goals = All-tail CanBeDone (ConditionEnd k) rest d; stack = All-drop CanGoBack (length s.stack - k) s.stack h.stack }
going-makes x s (NotEnd k ∷ rest) b d h = record { goals = All-tail CanBeDone (NotEnd k) rest d; stack = All-drop CanGoBack (length s.stack - k) s.stack h.stack }
going-makes x s (FindallEnd t k ∷ rest) b d h = record { goals = All-tail CanBeDone (FindallEnd t k) rest d; stack = found-back k (numbered t) s.stack h.stack }
going-makes x s (CatchEnd k ∷ rest) b d h = go (height s == k)
  where
    t : State
    t = record s { goals = rest }

    left : All CanBeDone rest
    left = All-tail CanBeDone (CatchEnd k) rest d

    go : (c : Bool) → IsWellMade (if c then cut_back (k - 1) t else t)
    go true = record { goals = left; stack = All-drop CanGoBack (length s.stack - (k - 1)) s.stack h.stack }
    go false = record { goals = left; stack = h.stack }

taken-makes : (x : Setting) (s : State) (a : Alternative) → CanBeTaken a → IsWellMade s → Makes (taken x s a)
taken-makes x s (Clauses used goal rest) t h = stepping-makes x s (trying x used goal rest) (trying-makes x used goal rest (record s { steps = suc s.steps }) t (record { goals = h.goals; stack = h.stack }))
taken-makes x s (Right goal cut) t h = stepping-makes x s (onwards (Do goal cut ∷ [])) (record { goals = first_done goal cut s.goals t h.goals; stack = h.stack })
taken-makes x s Again t h = stepping-makes x s repeating (let k : IsWellMade (pushed Again s) = pushed-well Again s tt h in record { goals = k.goals; stack = k.stack })
taken-makes x s NotMark t h = h
taken-makes x s (CatchMark c r) t h = record { goals = h.goals; stack = h.stack }
taken-makes x s (FindallMark l f) t h = gathered-makes l f s h

failing-makes : (x : Setting) (s : State) (st : List Choice) → All CanGoBack st → Makes (failing x s st)
failing-makes x s [] h = over-makes x s Exhausted
failing-makes x s (c ∷ below) h = taken-makes x (back_to s c below) c.what (All-head CanGoBack c below h).what (record { goals = (All-head CanGoBack c below h).goals; stack = All-tail CanGoBack c below h })

recovering-makes : (ball recovery : Tree) (s : State) (o : Option (ℕ → Tree)) → IsWellMade s → Makes (recovering ball recovery s o)
recovering-makes ball recovery s None h = record { goals = h.goals; stack = h.stack }
recovering-makes ball recovery s (Some m) h =
    record { goals = all_under-done m (Do (call_term recovery) (height s) ∷ s.goals) (first_done (call_term recovery) (height s) s.goals refl h.goals); stack = h.stack }

reaching-makes : (ball : Tree) (s : State) (below : List Choice) (c : Choice) (a : Alternative) → CanGoBack c → All CanGoBack below → IsWellMade s → Makes (reaching ball s below c a)
reaching-makes ball s below c (CatchMark catcher recovery) g w h =
    recovering-makes ball recovery (record (back_to s c below) { fresh = s.fresh + beyond ball }) (unifier (renamed s.fresh ball) catcher) (record { goals = g.goals; stack = w })
reaching-makes ball s below c (Clauses used goal rest) g w h = record { goals = h.goals; stack = w }
reaching-makes ball s below c (Right goal cut) g w h = record { goals = h.goals; stack = w }
reaching-makes ball s below c Again g w h = record { goals = h.goals; stack = w }
reaching-makes ball s below c NotMark g w h = record { goals = h.goals; stack = w }
reaching-makes ball s below c (FindallMark l f) g w h = record { goals = h.goals; stack = w }

reached-makes : (x : Setting) (ball : Tree) (s : State) (st : List Choice) → All CanGoBack st → IsWellMade s → Makes (reached x ball s st)
reached-makes x ball s [] w h = over-makes x s (Ball ball)
reached-makes x ball s (c ∷ below) w h = reaching-makes ball s below c c.what (All-head CanGoBack c below w) (All-tail CanGoBack c below w) h

caught-makes : (x : Setting) (ball : Tree) (s : State) (o : Option ℕ) → IsWellMade s → Makes (caught x ball s o)
caught-makes x ball s None h = over-makes x s (Ball ball)
caught-makes x ball s (Some n) h = go (nat_lt n (height s))
  where
    go : (b : Bool) → Makes (if b then Goes (cut_back n s) else reached x ball s s.stack)
    go true = record { goals = h.goals; stack = All-drop CanGoBack (length s.stack - n) s.stack h.stack }
    go false = reached-makes x ball s s.stack h.stack h

pub move-makes : (x : Setting) (s : State) → HasBodies x.journal → IsWellMade s → Makes (move x s)
move-makes x s b h = go s.mode
  where
    go : (m : Mode) → Makes (elim m [ Going ↦ going x s s.goals | Failing ↦ failing x s s.stack | Raising ball ↦ raising x s ball ])
    go Going = going-makes x s s.goals b h.goals h
    go Failing = failing-makes x s s.stack h.stack
    go (Raising ball) = caught-makes x ball s (active_catch s.goals) h

pub goes-makes : (x : Setting) (s t : State) → HasBodies x.journal → IsWellMade s → move x s ≡ Goes t → IsWellMade t
goes-makes x s t b h e = let P : Outcome → Type 0 = λ o. Makes o in subst P e (move-makes x s b h)

first-body : (goal : Tree) (o : Option Tree) → IfSome o (λ b. IsTrue (is_body b)) → IsTrue (is_body (or_call goal o))
first-body goal None h = refl
first-body goal (Some body) h = h

pub begins-well : (x : Setting) (goal : Tree) (fronts : List ℕ) → IsWellMade (beginning x goal fronts)
begins-well x goal fronts = record { goals = one_done (first_body goal) 0 (first-body goal (body_of goal) (is_converted goal)); stack = All-nil CanGoBack }

pub goals_are_bodies : GoalsAreBodies
goals_are_bodies = record { begins = begins-well; goes = goes-makes; controlled = body_controlled }
