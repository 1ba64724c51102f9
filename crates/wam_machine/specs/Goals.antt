-- What the engine finds a goal to be.
use Rattle.std.specs.Prelude.{◌≡◌, ℕ, ℤ, ◌<◌, List, [], ◌∷◌, length, All, Option, Some, None, IsSome, true, IsTrue, MatchOption, codes}
use Rattle.prolog_terms.specs.Tree.{Tree, Trees, variable, integer}
use Rattle.prolog_terms.specs.Clauses.{is_body, is_connective, body_of}
use Rattle.prolog_terms.specs.declared.fault.Fault.TheVariants.{Instantiation, Representation}
use Rattle.term_store.specs.declared.cell.Cell.{Cell}
use Rattle.term_store.specs.Shape.{Shape}
use Rattle.term_store.specs.Terms.{text, trees_of, HasTerm}
use Rattle.term_builtins.specs.Table.{builtins}
use Rattle.wam_machine.specs.Control as spec
use Rattle.wam_machine.specs.Control.{control_of, control_of_either, plain, access_with_one}
use Rattle.wam_machine.specs.Spine.{Part, Leaf, Joint, is_plain_goal}
use Rattle.wam_machine.specs.States.{State, raises}
use Rattle.wam_machine.specs.Machine.{calling_added, running, call_with}
use Rattle.wam_machine.specs.Terms.{IsGoal, IsBuilt, built}
use Rattle.wam_machine.specs.declared.control.Access.{Access}
use Rattle.wam_machine.specs.declared.control.Access.TheVariants.{Assert, Inspect, Retract, RetractAll, Abolish}
use Rattle.wam_machine.specs.declared.control.Control.{Control}
use Rattle.wam_machine.specs.declared.control.Control.TheVariants.{True, Fail, Cut, Repeat, Both, Either, IfElse, If, Not, Call, Once, Catch, Findall, Throw, Halt, HaltWith, Database, Builtin, User}
use Rattle.wam_machine.specs.declared.bodies.Kind.{Kind}
use Rattle.wam_machine.specs.declared.bodies.Kind.TheVariants as kind
use Rattle.wam_machine.specs.declared.bodies.Part.{Part as Met}
use Rattle.wam_machine.specs.declared.bodies.Part.TheVariants as met
use Rattle.wam_machine.specs.declared.build.Added.{Added}
use Rattle.wam_machine.specs.declared.build.Added.TheVariants as is
use Rattle.wam_machine.specs.declared.terms.Terms.{Terms}

-- ---- control

-- what is asked of the database, where cells have these terms
abbrev pub access_in : (Cell → Tree) → Access → spec.Access
access_in tree (Assert end c) = spec.Assert end (tree c)
access_in tree (Inspect h b) = spec.Inspect (tree h) (tree b)
access_in tree (Retract c) = spec.Retract (tree c)
access_in tree (RetractAll h) = spec.RetractAll (tree h)
access_in tree (Abolish n) = spec.Abolish (tree n)

-- so it is of the cells of what is asked
abbrev pub IsOfAccess : (Cell → Type 0) → Access → Type 0
IsOfAccess P (Assert end c) = P c
IsOfAccess P (Inspect h b) = P h × P b
IsOfAccess P (Retract c) = P c
IsOfAccess P (RetractAll h) = P h
IsOfAccess P (Abolish n) = P n

abbrev pub IsAccess : {C : Type 0} → Terms C → Access → Type 0
IsAccess t a = IsOfAccess (IsBuilt t) a

-- what is found, where cells have these terms
abbrev pub control_in : (Cell → Tree) → Control → spec.Control
control_in tree True = spec.True
control_in tree Fail = spec.Fail
control_in tree Cut = spec.Cut
control_in tree Repeat = spec.Repeat
control_in tree (Both a b) = spec.Both (tree a) (tree b)
control_in tree (Either a b) = spec.Either (tree a) (tree b)
control_in tree (IfElse c t e) = spec.IfElse (tree c) (tree t) (tree e)
control_in tree (If c t) = spec.If (tree c) (tree t)
control_in tree (Not g) = spec.Not (tree g)
control_in tree (Call g added) = spec.Call (tree g) (trees_of tree added.items)
control_in tree (Once g) = spec.Once (tree g)
control_in tree (Catch g c r) = spec.Catch (tree g) (tree c) (tree r)
control_in tree (Findall t g l) = spec.Findall (tree t) (tree g) (tree l)
control_in tree (Throw b) = spec.Throw (tree b)
control_in tree Halt = spec.Halt
control_in tree (HaltWith n) = spec.HaltWith (tree n)
control_in tree (Database a) = spec.Database (access_in tree a)
control_in tree (Builtin row args) = spec.Builtin row (trees_of tree args.items)
control_in tree (User i) = spec.User i

-- so it is of its cells; at most seven arguments are added, and a builtin is one of the table
abbrev pub AreAmong : (Cell → Type 0) → Control → Type 0
AreAmong P True = Unit {0}
AreAmong P Fail = Unit {0}
AreAmong P Cut = Unit {0}
AreAmong P Repeat = Unit {0}
AreAmong P (Both a b) = P a × P b
AreAmong P (Either a b) = P a × P b
AreAmong P (IfElse c t e) = P c × P t × P e
AreAmong P (If c t) = P c × P t
AreAmong P (Not g) = P g
AreAmong P (Call g added) = P g × All P added.items × (length added.items < 8)
AreAmong P (Once g) = P g
AreAmong P (Catch g c r) = P g × P c × P r
AreAmong P (Findall t g l) = P t × P g × P l
AreAmong P (Throw b) = P b
AreAmong P Halt = Unit {0}
AreAmong P (HaltWith n) = P n
AreAmong P (Database a) = IsOfAccess P a
AreAmong P (Builtin row args) = (row < length builtins) × All P args.items
AreAmong P (User i) = Unit {0}

-- cells that are done as goals
abbrev pub AreGoals : (Cell → Type 0) → Control → Type 0
AreGoals P True = Unit {0}
AreGoals P Fail = Unit {0}
AreGoals P Cut = Unit {0}
AreGoals P Repeat = Unit {0}
AreGoals P (Both a b) = P a × P b
AreGoals P (Either a b) = P a × P b
AreGoals P (IfElse c t e) = P c × P t × P e
AreGoals P (If c t) = P c × P t
AreGoals P (Not g) = Unit {0}
AreGoals P (Call g added) = Unit {0}
AreGoals P (Once g) = Unit {0}
AreGoals P (Catch g c r) = Unit {0}
AreGoals P (Findall t g l) = Unit {0}
AreGoals P (Throw b) = Unit {0}
AreGoals P Halt = Unit {0}
AreGoals P (HaltWith n) = Unit {0}
AreGoals P (Database a) = Unit {0}
AreGoals P (Builtin row args) = Unit {0}
AreGoals P (User i) = Unit {0}

-- A goal, by the terms of these cells, is found to be this, whichever terms they have.
pub record IsFound (cells : List Cell) (goal : (Cell → Tree) → Tree) (c : Control) : Type 0 where
  pub is : (tree : Cell → Tree) → control_of (goal tree) ≡ Some (control_in tree c)
  pub among : (count : ℕ) (s : Shape) → All (HasTerm count s) cells → AreAmong (HasTerm count s) c

-- What is no control construct is found to be this, whichever terms these cells have.
pub record IsPlain (name : List ℕ) (cells : List Cell) (c : Control) : Type 0 where
  pub is : (tree : Cell → Tree) → plain name (trees_of tree cells) ≡ control_in tree c
  pub among : (count : ℕ) (s : Shape) → All (HasTerm count s) cells → AreAmong (HasTerm count s) c

-- what is no control construct and has one argument is found to be this
pub record IsAsked (name : List ℕ) (only : Cell) (c : Control) : Type 0 where
  pub is : (tree : Cell → Tree) → access_with_one name (tree only) ≡ control_in tree c
  pub among : (count : ℕ) (s : Shape) → All (HasTerm count s) (only ∷ []) → AreAmong (HasTerm count s) c

-- the same by the terms that the cells have now
pub record IsFoundNow {C : Type 0} (t : Terms C) (goal : Tree) (c : Control) : Type 0 where
  pub is : control_of goal ≡ Some (control_in (built t) c)
  pub among : AreAmong (IsBuilt t) c

-- and what is done as a goal can be done
pub record IsControl {C : Type 0} (t : Terms C) (goal : Tree) (c : Control) : Type 0 where
  pub is : control_of goal ≡ Some (control_in (built t) c)
  pub among : AreAmong (IsBuilt t) c
  pub goals : AreGoals (IsGoal t) c

-- the two sides of a `->`, or that it is none
abbrev pub IsArrow : {C : Type 0} → Terms C → Tree → Option (Cell × Cell) → Type 0
IsArrow t goal found =
    MatchOption found ((e : Tree) → control_of_either goal e ≡ spec.Either goal e)
    (λ p. (IsBuilt t p.0 × IsBuilt t p.1) × ((e : Tree) → control_of_either goal e ≡ spec.IfElse (built t p.0) (built t p.1) e))

-- what the machine does beside calls, cuts and the end of a run, within one step
abbrev pub IsConstruct : Control → Type 0
IsConstruct True = Unit {0}
IsConstruct Fail = Unit {0}
IsConstruct Cut = ⊥
IsConstruct Repeat = Unit {0}
IsConstruct (Both a b) = ⊥
IsConstruct (Either a b) = Unit {0}
IsConstruct (IfElse c t e) = Unit {0}
IsConstruct (If c t) = Unit {0}
IsConstruct (Not g) = Unit {0}
IsConstruct (Call g added) = Unit {0}
IsConstruct (Once g) = Unit {0}
IsConstruct (Catch g c r) = Unit {0}
IsConstruct (Findall t g l) = Unit {0}
IsConstruct (Throw b) = Unit {0}
IsConstruct Halt = ⊥
IsConstruct (HaltWith n) = ⊥
IsConstruct (Database a) = ⊥
IsConstruct (Builtin row args) = Unit {0}
IsConstruct (User i) = ⊥

-- no conjunction
abbrev pub IsSimple : Control → Type 0
IsSimple True = Unit {0}
IsSimple Fail = Unit {0}
IsSimple Cut = Unit {0}
IsSimple Repeat = Unit {0}
IsSimple (Both a b) = ⊥
IsSimple (Either a b) = Unit {0}
IsSimple (IfElse c t e) = Unit {0}
IsSimple (If c t) = Unit {0}
IsSimple (Not g) = Unit {0}
IsSimple (Call g added) = Unit {0}
IsSimple (Once g) = Unit {0}
IsSimple (Catch g c r) = Unit {0}
IsSimple (Findall t g l) = Unit {0}
IsSimple (Throw b) = Unit {0}
IsSimple Halt = Unit {0}
IsSimple (HaltWith n) = Unit {0}
IsSimple (Database a) = Unit {0}
IsSimple (Builtin row args) = Unit {0}
IsSimple (User i) = Unit {0}

-- ---- bodies

-- the term is a body as it is, or where its variables are called, or can't be one
abbrev pub IsOfKind : Tree → Kind → Type 0
IsOfKind t kind.Body = IsTrue (is_body t)
IsOfKind t kind.Open = IsSome (body_of t)
IsOfKind t kind.Broken = body_of t ≡ None

-- a part of a body's spine
abbrev pub part_now : {C : Type 0} → Terms C → Met → Part
part_now t (met.Variable c) = Leaf (built t c)
part_now t (met.Integer c) = Leaf (built t c)
part_now t (met.Goal c) = Leaf (built t c)
part_now t (met.Joint f) = Joint (text t.names f)

abbrev pub IsPart : {C : Type 0} → Terms C → Met → Type 0
IsPart t (met.Variable c) = IsBuilt t c × ((n : ℕ) × (built t c ≡ variable n))
IsPart t (met.Integer c) = IsBuilt t c × ((z : ℤ) × (built t c ≡ integer z))
IsPart t (met.Goal c) = IsBuilt t c × (is_plain_goal (built t c) ≡ true)
IsPart t (met.Joint f) = (f < length t.names) × (is_connective (text t.names f) ≡ true)

-- what a term is made a body to
abbrev pub IsMadeBody : {C : Type 0} → Tree → Terms C → Option Cell → Type 0
IsMadeBody goal t made = MatchOption made (body_of goal ≡ None) (λ c. (body_of goal ≡ Some (built t c)) × IsGoal t c)

-- ---- arguments added

-- what `call` does with a goal and these arguments, as far as to the body
abbrev pub IsAdded : {C : Type 0} → Tree → Trees → Terms C → Added → Type 0
IsAdded goal added t is.Unbound = (s : State) → calling_added goal added s ≡ raises Instantiation (call_with added) s
IsAdded goal added t is.TooMany = (s : State) → calling_added goal added s ≡ raises (Representation (codes "max_arity")) (call_with added) s
IsAdded goal added t (is.Made c) = IsBuilt t c × ((s : State) → calling_added goal added s ≡ running (built t c) (call_with added) s (body_of (built t c)))
