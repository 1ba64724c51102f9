-- A term that is evaluated: what is still to be done, and the values so far.
use Rattle.std.specs.Prelude.{◌≡◌, ℕ, ◌+◌, ◌*◌, ◌<◌, List, [], ◌∷◌, ◌++◌, length, reverse, All, ℤ, Option, Some, None, Result, Ok, Err}
use Rattle.prolog_terms.specs.Tree.{Tree}
use Rattle.term_store.specs.declared.cell.Cell.{Cell}
use Rattle.term_store.specs.Shape.{Shape}
use Rattle.term_store.specs.Terms.{term_of, HasTerm}
use Rattle.term_store.specs.Work.{size}
use Rattle.prolog_arith.specs.declared.operation.Operation.{Operation}
use Rattle.prolog_arith.specs.declared.operation.Operation.TheVariants.{One, Two}
use Rattle.prolog_arith.specs.declared.operate.NoValue.{NoValue}
use Rattle.prolog_arith.specs.declared.operate.NoValue.TheVariants.{Overflow, ZeroDivisor}
use Rattle.prolog_arith.specs.declared.faults.EvalFault.{EvalFault}
use Rattle.prolog_arith.specs.declared.faults.EvalFault.TheVariants as of_fault
use Rattle.prolog_arith.specs.declared.evaluation.Task.{Task}
use Rattle.prolog_arith.specs.declared.evaluation.Task.TheVariants.{Evaluate, Apply}
use Rattle.prolog_arith.specs.Arithmetic.{Value, Is, Raises, unary_value, binary_value, overflow, zero_divisor, evaluated}

-- ---- answers

abbrev pub outcome : Result ℤ NoValue → Value
outcome (Ok n) = Is n
outcome (Err Overflow) = overflow
outcome (Err ZeroDivisor) = zero_divisor

-- the fault is what is raised. Want is free
abbrev pub IsCause : EvalFault → Value → Type 0
IsCause (of_fault.Fault f) v = v ≡ Raises f
IsCause of_fault.Want v = Unit {0}

-- ---- the stacks, the newest first

-- what the operation gives of the newest values, and what stays below them
abbrev pub taken : Operation → List ℤ → Option (Value × List ℤ)
taken (One o) [] = None
taken (One o) (a ∷ xs) = Some (unary_value o a, xs)
taken (Two o) [] = None
taken (Two o) (b ∷ []) = None
taken (Two o) (b ∷ (a ∷ xs)) = Some (binary_value o a b, xs)

abbrev pub go_on : Value → (ℤ → Option Value) → Option Value
go_on (Is z) rest = rest z
go_on (Raises e) rest = Some (Raises e)

abbrev pub resumed : Option (Value × List ℤ) → (List ℤ → Option Value) → Option Value
resumed None rest = None
resumed (Some p) rest = go_on p.0 (λ z. rest (z ∷ p.1))

-- what the tasks come to over these values, where there are enough of them
abbrev pub finished : (Cell → Value) → List Task → List ℤ → Option Value
finished of [] [] = None
finished of [] (z ∷ []) = Some (Is z)
finished of [] (z ∷ (y ∷ xs)) = None
finished of (Evaluate c ∷ tasks) xs = go_on (of c) (λ z. finished of tasks (z ∷ xs))
finished of (Apply o ∷ tasks) xs = resumed (taken o xs) (finished of tasks)

-- ---- steps

-- the value is the last one
pub record IsPushed (v : Value) (old new : List ℤ) : Type 0 where
  pub given : ℤ
  pub is : v ≡ Is given
  pub new_is : new ≡ old ++ given ∷ []

-- the operation was applied to the newest values
pub record IsApplied (o : Operation) (old new : List ℤ) : Type 0 where
  pub given : ℤ
  pub below : List ℤ
  pub taken_is : taken o (reverse old) ≡ Some (Is given, below)
  pub new_is : reverse new ≡ given ∷ below

-- it raises this
pub record IsRefused (o : Operation) (old : List ℤ) (fault : EvalFault) : Type 0 where
  pub given : Value
  pub below : List ℤ
  pub taken_is : taken o (reverse old) ≡ Some (given, below)
  pub cause : IsCause fault given

-- the value of what a cell stands for
abbrev pub value_at : List (List ℕ) → Shape → Cell → Value
value_at texts s c = evaluated (term_of texts s c)

abbrev pub opened : List Cell → List Task
opened [] = []
opened (c ∷ cs) = Evaluate c ∷ opened cs

abbrev pub task_size : (Cell → Tree) → Task → ℕ
task_size tree (Evaluate c) = 2 * size (tree c)
task_size tree (Apply o) = 1

abbrev pub tasks_size : (Cell → Tree) → List Task → ℕ
tasks_size tree [] = 0
tasks_size tree (t ∷ ts) = task_size tree t + tasks_size tree ts

-- a cell that is to be evaluated has a term
abbrev pub HasCell : ℕ → Shape → Task → Type 0
HasCell count s (Evaluate c) = HasTerm count s c
HasCell count s (Apply o) = Unit {0}

-- the cell was evaluated as far as its operation: what was added to the tasks, before any others, comes to its value
pub record IsEvaluated (texts : List (List ℕ)) (s : Shape) (c : Cell) (tasks after : List Task) (values longer : List ℤ) : Type 0 where
  pub added : List Task
  pub after_is : reverse after ≡ added ++ reverse tasks
  pub valid : All (HasCell (length texts) s) added
  pub comes : (rest : List Task) → finished (value_at texts s) (added ++ rest) (reverse longer) ≡ go_on (value_at texts s c) (λ z. finished (value_at texts s) rest (z ∷ reverse values))
  pub smaller : tasks_size (term_of texts s) added < 2 * size (term_of texts s c)

-- the tasks that are left come to the value of the whole
pub record IsUnderWay (texts : List (List ℕ)) (s : Shape) (c : Cell) (tasks : List Task) (values : List ℤ) : Type 0 where
  pub valid : All (HasCell (length texts) s) (reverse tasks)
  pub comes : finished (value_at texts s) (reverse tasks) (reverse values) ≡ Some (value_at texts s c)
