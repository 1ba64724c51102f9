-- Calls of procedures, and what goals ask of the database (docs/LANGUAGE.md, "Dynamic procedures"): clauses that are tried, added,
-- shown and erased. It takes no notice of how clauses are found: a call tries its candidates, one after another.
use Rattle.std.specs.Prelude.{ℕ, ◌+◌, Bool, true, List, [], ◌∷◌, ◌++◌, replicate, if◌then◌else◌, Option, Some, None, codes, filter_map, map, option_map, is_some}
use Rattle.prolog_terms.specs.Tree.{Tree, variable, integer, atom, compound, count}
use Rattle.prolog_terms.specs.Substitutions.{numbered, renamed}
use Rattle.prolog_terms.specs.Faults.{two, indicator_tree}
use Rattle.prolog_terms.specs.Indicators.{indicator_of}
use Rattle.prolog_terms.specs.declared.entry.Clause.{Clause}
use Rattle.prolog_terms.specs.declared.entry.Indicator.{Indicator}
use Rattle.prolog_terms.specs.declared.entry.Kind.{Kind}
use Rattle.prolog_terms.specs.declared.entry.Kind.TheVariants.{Static, Dynamic}
use Rattle.prolog_terms.specs.declared.entry.End.{End}
use Rattle.prolog_terms.specs.declared.entry.End.TheVariants.{Front, Back}
use Rattle.prolog_terms.specs.declared.entry.What.TheVariants.{Declare, Add}
use Rattle.prolog_terms.specs.declared.fault.Fault.{Fault}
use Rattle.prolog_terms.specs.declared.fault.Fault.TheVariants.{Instantiation, Existence, Permission}
use Rattle.call_patterns.specs.Keys.{GoalKeys, keys}
use Rattle.journals.specs.Journal.{Journal, number_of, procedure_named, clause_named}
use Rattle.call_patterns.specs.Candidates.{candidates}
use Rattle.journal_base.specs.Goals.{Goal}
use Rattle.prolog_clauses.specs.Formed.{Parts, parts_of, clause_of}
use Rattle.prolog_clauses.specs.declared.clause.Formed.{Formed}
use Rattle.prolog_clauses.specs.declared.clause.Formed.TheVariants.{Clause as Made, Refused}
use Rattle.term_unifier.specs.Unifier.{unifier}
use Rattle.wam_machine.specs.Naming.{naming_of}
use Rattle.wam_machine.specs.Reserved.{is_reserved}
use Rattle.wam_machine.specs.Control.{Access, Assert, Inspect, Retract, RetractAll, Abolish, body_goals}
use Rattle.wam_machine.specs.declared.naming.Naming.{Naming}
use Rattle.wam_machine.specs.declared.naming.Naming.TheVariants.{Names, NamesNone}
use Rattle.wam_machine.specs.States.{Next, Do, Purpose, ToShow, ToErase, Use, Enter, Match, Candidate, Clauses, Looked, State, Setting, Outcome, Goes, Unfit, taking, fails, raises, not_callable, height, pushed, bound_further, asking, refusing, erasing}

-- ---- calls

-- A clause's variables are new ones, numbered in order of their first occurrence.
abbrev pub numbering : Clause → State → State
numbering c s = record s { fresh = s.fresh + c.vars }

-- the goals of a clause's body, its variables numbered from a number on; their cut goes back to a height
abbrev pub body_from : ℕ → ℕ → Clause → List Next
body_from from cut c = map (λ goal. Do (renamed from goal) cut) (body_goals c.body)

-- what is made one, on the side of a clause and on that of the call
abbrev pub side_of_clause : Use → Clause → Tree
side_of_clause Enter c = c.head
side_of_clause (Match purpose body) c = two (codes ":-") c.head c.body

abbrev pub side_of_call : Use → Tree → Tree
side_of_call Enter goal = goal
side_of_call (Match purpose body) goal = two (codes ":-") goal body

-- what comes first then
abbrev pub first_goals : Use → ℕ → ℕ → Clause → List Next
first_goals Enter from cut c = body_from from cut c
first_goals (Match purpose body) from cut c = []

abbrev pub retract_at : Indicator
retract_at = record { name = codes "retract"; arity = 1 }

abbrev pub serving : Setting → Purpose → ℕ → State → Outcome
serving x ToShow k s = Goes s
serving x ToErase k s = erasing x retract_at k s (λ t. Goes t) (λ t. fails t)

-- the two sides are one now
abbrev pub using : Setting → Use → ℕ → State → Outcome
using x Enter k s = Goes s
using x (Match purpose body) k s = serving x purpose k s

abbrev pub meeting : Setting → Use → ℕ → List Next → State → Option (ℕ → Tree) → Outcome
meeting x used k new s None = fails s
meeting x used k new s (Some m) = using x used k (bound_further m (record s { goals = new ++ s.goals }))

-- a clause is tried, its variables numbered from a number on; a cut of its body goes back to a height
abbrev pub entering : Setting → Use → Tree → Candidate → ℕ → ℕ → State → Outcome
entering x used goal c from cut s =
    meeting x used c.name (first_goals used from cut c.clause) s (unifier (renamed from (side_of_clause used c.clause)) (side_of_call used goal))

-- an alternative is left exactly where a clause is left
abbrev pub leaving : Use → Tree → List Candidate → State → State
leaving used goal [] s = s
leaving used goal (c ∷ cs) s = pushed (Clauses used goal (c ∷ cs)) s

-- the first of these clauses is tried; its cut takes the others away too
abbrev pub trying : Setting → Use → Tree → List Candidate → State → Outcome
trying x used goal [] s = fails s
trying x used goal (c ∷ cs) s = entering x used goal c s.fresh (height s) (numbering c.clause (leaving used goal cs (record s { tried = s.tried + 1 })))

abbrev pub candidate_named : Journal → ℕ → Option Candidate
candidate_named J k = option_map (λ c. record { name = k; clause = c }) (clause_named J k)

abbrev pub candidate_clauses : Journal → ℕ → GoalKeys → List Candidate
candidate_clauses J p goal = filter_map (candidate_named J) (candidates J p goal)

-- what the call of a goal looks for
abbrev pub call_of : ℕ → Tree → Goal
call_of p goal = record { procedure = p; keys = keys goal }

abbrev pub looked : ℕ → State → ℕ → Tree → State
looked before s p goal = record s { deeds = s.deeds ++ Looked (record { before = before; front = s.front; call = call_of p goal }) ∷ [] }

-- the clauses of a procedure that could match a goal are tried, in the journal that is seen, where the front before was so
abbrev pub searching : Setting → Use → Tree → ℕ → Journal → State → ℕ → Outcome
searching x used goal before seen s p = trying x used goal (candidate_clauses seen p (keys goal)) (looked before s p goal)

abbrev pub called : Setting → Tree → Indicator → ℕ → Journal → State → Option ℕ → Outcome
called x goal i before seen s None = raises (Existence i) i s
called x goal i before seen s (Some p) = searching x Enter goal before seen s p

abbrev pub calling : Setting → State → Tree → Indicator → Outcome
calling x s goal i = taking x s (λ seen t. called x goal i s.front seen t (number_of seen i))

-- ---- procedures that may not be used so

-- no goal may change the procedure of this name and arity
abbrev pub no_change : Indicator → Fault
no_change i = Permission (codes "modify") (codes "static_procedure") (indicator_tree i)

-- nor see its clauses
abbrev pub no_access : Indicator → Fault
no_access i = Permission (codes "access") (codes "private_procedure") (indicator_tree i)

-- ---- clauses that are added

abbrev pub assert_at : End → Indicator
assert_at Front = record { name = codes "asserta"; arity = 1 }
assert_at Back = record { name = codes "assertz"; arity = 1 }

-- a clause is added to the procedure of this number
abbrev pub adding : Setting → End → Clause → State → ℕ → Outcome
adding x end c s p = asking x (Add end p c) s (λ seen t. Goes t) (refusing x (assert_at end) (Add end p c))

-- to a procedure, unless it is static
abbrev pub adding_to : Setting → End → Indicator → Clause → State → ℕ → Kind → Outcome
adding_to x end i c s p Static = raises (no_change i) (assert_at end) s
adding_to x end i c s p Dynamic = adding x end c s p

-- to the procedure that was found, if there is one
abbrev pub adding_where : Setting → End → Indicator → Clause → State → Option (ℕ × Kind) → Outcome → Outcome
adding_where x end i c s None absent = absent
adding_where x end i c s (Some d) absent = adding_to x end i c s d.0 d.1

-- to a procedure that is declared dynamic first; another engine may have declared it meanwhile
abbrev pub declaring : Setting → End → Indicator → Clause → State → Outcome
declaring x end i c s =
    asking x (Declare i Dynamic) s
    (λ seen t. adding_where x end i c t (procedure_named seen i) Unfit)
    (λ seen t. adding_where x end i c t (procedure_named seen i) (refusing x (assert_at end) (Declare i Dynamic) seen t))

-- to the procedure of this name and arity, which is looked for in what is seen at the next front
abbrev pub adding_named : Setting → End → Indicator → Clause → State → Outcome
adding_named x end i c s = taking x s (λ seen t. adding_where x end i c t (procedure_named seen i) (declaring x end i c t))

-- to that of its head, unless that is a control construct or a builtin (each clause's head has a name)
abbrev pub adding_clause : Setting → End → Clause → State → Option Indicator → Outcome
adding_clause x end c s None = Unfit
adding_clause x end c s (Some i) = if is_reserved i then raises (no_change i) (assert_at end) s else adding_named x end i c s

abbrev pub adding_formed : Setting → End → State → Formed → Outcome
adding_formed x end s (Refused fault) = raises fault (assert_at end) s
adding_formed x end s (Made c) = adding_clause x end c s (indicator_of c.head)

-- a copy of a term is added as a clause, its variables numbered by first occurrence; what is amiss with the term comes first
abbrev pub asserting : Setting → End → Tree → State → Outcome
asserting x end t s = adding_formed x end s (clause_of (numbered t))

-- ---- clauses that are read and erased

-- by the name and arity of a head; a head without them is an error of this call
abbrev pub headed : Indicator → Tree → State → (Indicator → Outcome) → Outcome
headed at (variable n) s with = raises Instantiation at s
headed at (integer z) s with = raises (not_callable (integer z)) at s
headed at (atom a) s with = with (record { name = a; arity = 0 })
headed at (compound f ts) s with = with (record { name = f; arity = count ts })

abbrev pub clause_at : Indicator
clause_at = record { name = codes "clause"; arity = 2 }

-- the call with this purpose
abbrev pub call_for : Purpose → Indicator
call_for ToShow = clause_at
call_for ToErase = retract_at

-- its error for a procedure that is static, a control construct or a builtin
abbrev pub refusal_for : Purpose → Indicator → Fault
refusal_for ToShow i = no_access i
refusal_for ToErase i = no_change i

-- the clauses of a dynamic procedure that was found are tried
abbrev pub matching_kind : Setting → Purpose → Tree → Tree → Indicator → ℕ → Journal → State → ℕ → Kind → Outcome
matching_kind x purpose h b i before seen s p Static = raises (refusal_for purpose i) (call_for purpose) s
matching_kind x purpose h b i before seen s p Dynamic = searching x (Match purpose b) h before seen s p

abbrev pub matching_where : Setting → Purpose → Tree → Tree → Indicator → ℕ → Journal → State → Option (ℕ × Kind) → Outcome
matching_where x purpose h b i before seen s None = fails s
matching_where x purpose h b i before seen s (Some d) = matching_kind x purpose h b i before seen s d.0 d.1

-- the clauses of the procedure of this name and arity are tried, which is looked for in what is seen at the next front
abbrev pub matching : Setting → Purpose → Tree → Tree → State → Indicator → Outcome
matching x purpose h b s i =
    if is_reserved i then raises (refusal_for purpose i) (call_for purpose) s
    else taking x s (λ seen t. matching_where x purpose h b i s.front seen t (procedure_named seen i))

-- an integer is no body
abbrev pub unless_integer : Indicator → Tree → State → Outcome → Outcome
unless_integer at (variable n) s then_ = then_
unless_integer at (integer z) s then_ = raises (not_callable (integer z)) at s
unless_integer at (atom a) s then_ = then_
unless_integer at (compound f ts) s then_ = then_

-- the clauses of this head and body are shown
abbrev pub inspecting : Setting → Tree → Tree → State → Outcome
inspecting x h b s = headed clause_at h s (λ i. unless_integer clause_at b s (matching x ToShow h b s i))

-- those of the head and body of a clause are erased
abbrev pub retracting : Setting → Parts → State → Outcome
retracting x c s = headed retract_at c.head s (λ i. matching x ToErase c.head c.body s i)

-- ---- clauses that are erased in one step

-- Whether a clause is one of those that are erased: where a goal is given, those whose head and the goal have a unifier, and else all.
abbrev pub is_swept : Option Tree → Clause → State → Bool
is_swept None c s = true
is_swept (Some goal) c s = is_some (unifier (renamed s.fresh c.head) goal)

-- a clause is tried; its variables are new ones where its head is made one with a goal
abbrev pub one_tried : Option Tree → Clause → State → State
one_tried None c s = record s { tried = s.tried + 1 }
one_tried (Some goal) c s = numbering c (record s { tried = s.tried + 1 })

abbrev pub retract_all_at : Indicator
retract_all_at = record { name = codes "retractall"; arity = 1 }

abbrev pub abolish_at : Indicator
abolish_at = record { name = codes "abolish"; arity = 1 }

-- the call that erases such clauses
abbrev pub sweep_at : Option Tree → Indicator
sweep_at None = abolish_at
sweep_at (Some goal) = retract_all_at

-- Those of these clauses are erased, one after another; one that is gone is passed over, and nothing is bound.
abbrev pub sweeping : Setting → Option Tree → List Candidate → State → Outcome
sweeping x goal [] s = Goes s
sweeping x goal (c ∷ cs) s =
    if is_swept goal c.clause s
    then erasing x (sweep_at goal) c.name (one_tried goal c.clause s) (λ t. sweeping x goal cs t) (λ t. sweeping x goal cs t)
    else sweeping x goal cs (one_tried goal c.clause s)

-- what is looked for where all clauses are erased: at no position is there a key
abbrev pub swept_keys : Option Tree → GoalKeys
swept_keys None = replicate 40 None
swept_keys (Some goal) = keys goal

-- the clauses of a procedure are erased, in the journal that is seen, where the front before was so
abbrev pub sweeping_all : Setting → Option Tree → ℕ → Journal → State → ℕ → Outcome
sweeping_all x goal before seen s p =
    sweeping x goal (candidate_clauses seen p (swept_keys goal))
    (record s { deeds = s.deeds ++ Looked (record { before = before; front = s.front; call = record { procedure = p; keys = swept_keys goal } }) ∷ [] })

-- those of a static procedure may not be erased
abbrev pub sweeping_kind : Setting → Indicator → Option Tree → ℕ → Journal → State → ℕ → Kind → Outcome
sweeping_kind x i goal before seen s p Static = raises (no_change i) (sweep_at goal) s
sweeping_kind x i goal before seen s p Dynamic = sweeping_all x goal before seen s p

-- what was declared meanwhile has no clause that is to be erased
abbrev pub declared_as : Indicator → State → Kind → Outcome
declared_as i s Static = raises (no_change i) retract_all_at s
declared_as i s Dynamic = Goes s

abbrev pub declared_meanwhile : Setting → Indicator → Journal → State → Option (ℕ × Kind) → Outcome
declared_meanwhile x i seen s None = refusing x retract_all_at (Declare i Dynamic) seen s
declared_meanwhile x i seen s (Some d) = declared_as i s d.1

-- a procedure that isn't declared is declared dynamic; another engine may have declared it meanwhile
abbrev pub declaring_swept : Setting → Indicator → State → Outcome
declaring_swept x i s = asking x (Declare i Dynamic) s (λ seen t. Goes t) (λ seen t. declared_meanwhile x i seen t (procedure_named seen i))

-- what follows where the procedure isn't declared: nothing where all its clauses were to be erased
abbrev pub absent_swept : Setting → Option Tree → Indicator → State → Outcome
absent_swept x None i s = Goes s
absent_swept x (Some goal) i s = declaring_swept x i s

abbrev pub sweeping_where : Setting → Indicator → Option Tree → ℕ → Journal → State → Option (ℕ × Kind) → Outcome
sweeping_where x i goal before seen s None = absent_swept x goal i s
sweeping_where x i goal before seen s (Some d) = sweeping_kind x i goal before seen s d.0 d.1

-- the clauses of the procedure of this name and arity are erased, which is looked for in what is seen at the next front
abbrev pub sweeping_named : Setting → Option Tree → State → Indicator → Outcome
sweeping_named x goal s i =
    if is_reserved i then raises (no_change i) (sweep_at goal) s
    else taking x s (λ seen t. sweeping_where x i goal s.front seen t (procedure_named seen i))

-- the clauses are erased whose head and this one have a unifier
abbrev pub clearing : Setting → Tree → State → Outcome
clearing x h s = headed retract_all_at h s (λ i. sweeping_named x (Some h) s i)

-- all clauses of a procedure are erased; it stays declared, and where it isn't there is nothing to be done
abbrev pub abolishing : Setting → State → Naming → Outcome
abolishing x s (Names i) = sweeping_named x None s i
abolishing x s (NamesNone fault) = raises fault abolish_at s

-- the database is asked for something
unfoldable pub accessing : Setting → Access → State → Outcome
accessing x (Assert end t) s = asserting x end t s
accessing x (Inspect h b) s = inspecting x h b s
accessing x (Retract t) s = retracting x (parts_of t) s
accessing x (RetractAll h) s = clearing x h s
accessing x (Abolish t) s = abolishing x s (naming_of t)
