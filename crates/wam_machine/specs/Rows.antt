-- Worked rows: texts of clauses as journals, goals over them, and what their runs give.
use Rattle.std.specs.Prelude.{ℕ, zero, suc, pos, List, [], ◌∷◌, ◌++◌, length, codes, true, false}
use Rattle.prolog_terms.specs.Tree.{Tree, Trees, variable, integer, atom, compound, none, more}
use Rattle.prolog_terms.specs.Operators.{initial_operators}
use Rattle.prolog_terms.specs.Faults.{fault_tree, indicator_tree}
use Rattle.prolog_terms.specs.declared.entry.Entry.{Entry}
use Rattle.prolog_terms.specs.declared.entry.Indicator.{Indicator}
use Rattle.prolog_terms.specs.declared.entry.Kind.TheVariants.{Static, Dynamic}
use Rattle.prolog_terms.specs.declared.entry.End.TheVariants.{Front, Back}
use Rattle.prolog_terms.specs.declared.entry.End.{End}
use Rattle.prolog_terms.specs.declared.entry.What.TheVariants.{Declare, Add, Erase}
use Rattle.prolog_terms.specs.declared.fault.Fault.{Fault}
use Rattle.prolog_terms.specs.declared.fault.Fault.TheVariants.{Instantiation, OfType, Existence, Representation, Permission, Resource}
use Rattle.journals.specs.Journal.{Journal}
use Rattle.wam_machine.specs.States.{Setting, Deed}
use Rattle.wam_machine.specs.Machine.{Transcript, Misfits, beginning}
use Rattle.wam_machine.specs.declared.run.Event.{Event}
use Rattle.wam_machine.specs.declared.run.Event.TheVariants.{Answer}
use Rattle.wam_machine.specs.declared.run.RunEnd.{RunEnd}
use Rattle.wam_machine.specs.declared.run.RunEnd.TheVariants.{Exhausted, Ball, Spent, Halted}

-- ---- terms and clauses

abbrev pub a : Tree
a = atom (codes "a")

abbrev pub b : Tree
b = atom (codes "b")

abbrev pub c : Tree
c = atom (codes "c")

abbrev pub x : Tree
x = variable 0

abbrev pub truth : Tree
truth = atom (codes "true")

abbrev pub one : List ℕ → Tree → Tree
one f t = compound f (more t none)

abbrev pub two : List ℕ → Tree → Tree → Tree
two f t u = compound f (more t (more u none))

abbrev pub p : Tree → Tree
p t = one (codes "p") t

abbrev pub nil : Tree
nil = atom (codes "[]")

abbrev pub list_of : List Tree → Tree
list_of [] = nil
list_of (t ∷ ts) = two (codes ".") t (list_of ts)

abbrev pub declared : List ℕ → ℕ → Entry
declared f n = record { by = 0; what = Declare (record { name = f; arity = n }) Static }

abbrev pub clause : ℕ → Tree → Tree → ℕ → Entry
clause number head body vars = record { by = 0; what = Add Back number (record { head = head; body = body; vars = vars }) }

abbrev pub fact : ℕ → Tree → Entry
fact number head = clause number head truth 0

-- ---- what a run gives

abbrev pub on : Journal → ℕ → List Tree → Setting
on journal budget shown = record { engine = 1; journal = journal; words = 1000; updates = 100; start = length journal; budget = budget; shown = list_of shown; ops = initial_operators }

-- A goal gives these events, so many steps and this end at these fronts, whatever was done at the database.
pub record GivesIn (setting : Setting) (goal : Tree) (fronts : List ℕ) (events : List Event) (steps : ℕ) (end : RunEnd) : Type 0 where
  pub deeds : List Deed
  pub tried : ℕ
  pub transcript : Transcript setting goal fronts (record { events = events; deeds = deeds; tried = tried; steps = steps; end = end })

-- A goal with these shown variables, over this journal by engine 1, at these fronts and within this budget, gives these events, so many
-- steps and this end.
abbrev pub Gives : Journal → ℕ → Tree → List Tree → List ℕ → List Event → ℕ → RunEnd → Type 0
Gives journal budget goal shown fronts events steps end = GivesIn (on journal budget shown) goal fronts events steps end

-- a goal by engine 1 that begins when this journal is there, which so many words may have, and behind which there are these entries in the end
abbrev pub changed : ℕ → Journal → List Entry → List Tree → Setting
changed words before behind shown = record { engine = 1; journal = before ++ behind; words = words; updates = 100; start = length before; budget = 100; shown = list_of shown; ops = initial_operators }

-- such a goal, which shows nothing, is one ball at these fronts
abbrev pub Refuses : Journal → Tree → List ℕ → Fault → Indicator → Type 0
Refuses before goal fronts fault at = GivesIn (changed 1000 before [] []) goal fronts [] 1 (Ball (fault_tree fault at))

-- a goal by engine 1 over this journal, which shows nothing, comes to a move that doesn't fit these fronts
abbrev pub IsUnfit : Journal → Tree → List ℕ → Type 0
IsUnfit journal goal fronts = Misfits (on journal 100 []) (beginning (on journal 100 []) goal fronts)

abbrev pub closed : List Tree → Event
closed values = Answer (list_of values) false

abbrev pub opened : List Tree → Event
opened values = Answer (list_of values) true

-- p(a). p(b). p(c).
abbrev pub three_facts : Journal
three_facts = declared (codes "p") 1 ∷ fact 0 (p a) ∷ fact 0 (p b) ∷ fact 0 (p c) ∷ []

-- g(X) :- p(X), X = b. p(a). p(b).
abbrev pub a_rule : Journal
a_rule =
    declared (codes "g") 1 ∷ clause 0 (one (codes "g") x) (two (codes ",") (p x) (two (codes "=") x b)) 1
    ∷ declared (codes "p") 1 ∷ fact 1 (p a) ∷ fact 1 (p b) ∷ []

-- loop :- loop.
abbrev pub a_loop : Journal
a_loop = declared (codes "loop") 0 ∷ clause 0 (atom (codes "loop")) (atom (codes "loop")) 0 ∷ []

-- q(a). q(X). q(b).
abbrev pub any_between : Journal
any_between = declared (codes "q") 1 ∷ fact 0 (one (codes "q") a) ∷ clause 0 (one (codes "q") x) truth 1 ∷ fact 0 (one (codes "q") b) ∷ []

-- ---- goals

abbrev pub failure : Tree
failure = atom (codes "fail")

abbrev pub cut : Tree
cut = atom (codes "!")

abbrev pub repeats : Tree
repeats = atom (codes "repeat")

abbrev pub both : Tree → Tree → Tree
both t u = two (codes ",") t u

abbrev pub or : Tree → Tree → Tree
or t u = two (codes ";") t u

abbrev pub then : Tree → Tree → Tree
then t u = two (codes "->") t u

abbrev pub equal : Tree → Tree → Tree
equal t u = two (codes "=") t u

abbrev pub catches : Tree → Tree → Tree → Tree
catches g k r = compound (codes "catch") (more g (more k (more r none)))

-- findall(T, G, L)
abbrev pub finds : Tree → Tree → Tree → Tree
finds t g l = compound (codes "findall") (more t (more g (more l none)))

abbrev pub throws : Tree → Tree
throws t = one (codes "throw") t

abbrev pub halts : Tree
halts = atom (codes "halt")

abbrev pub halts_with : Tree → Tree
halts_with t = one (codes "halt") t

-- the name and arity of `catch`, of `findall`, of `throw`, and of `halt` with a number
abbrev pub catch_three : Indicator
catch_three = record { name = codes "catch"; arity = 3 }

abbrev pub findall_three : Indicator
findall_three = record { name = codes "findall"; arity = 3 }

abbrev pub throw_one : Indicator
throw_one = record { name = codes "throw"; arity = 1 }

abbrev pub halt_one : Indicator
halt_one = record { name = codes "halt"; arity = 1 }

abbrev pub denied : Tree → Tree
denied t = one (codes "\\+") t

abbrev pub once : Tree → Tree
once t = one (codes "once") t

abbrev pub cell : Tree → Tree → Tree
cell t u = two (codes ".") t u

abbrev pub mem : Tree → Tree → Tree
mem t u = two (codes "mem") t u

abbrev pub trees : List Tree → Trees
trees [] = none
trees (t ∷ ts) = more t (trees ts)

-- call(T, Ts..)
abbrev pub call : List Tree → Tree
call ts = compound (codes "call") (trees ts)

abbrev pub number : ℕ → Tree
number n = integer (pos n)

abbrev pub copies : ℕ → Tree → List Tree
copies zero t = []
copies (suc n) t = t ∷ copies n t

-- X = 1 ; X = 2
abbrev pub one_or_two : Tree
one_or_two = or (equal x (number 1)) (equal x (number 2))

abbrev pub y : Tree
y = variable 1

-- Y = 1 ; Y = 2
abbrev pub either_y : Tree
either_y = or (equal y (number 1)) (equal y (number 2))

abbrev pub called : ℕ → Indicator
called n = record { name = codes "call"; arity = n }

abbrev pub uncallable : Tree → Indicator → RunEnd
uncallable t at = Ball (fault_tree (OfType (codes "callable") t) at)

-- A goal over no clauses, which shows X, gives these answers, so many steps and this end.
abbrev pub Alone : Tree → List Event → ℕ → RunEnd → Type 0
Alone goal events steps end = Gives [] 100 goal (x ∷ []) [] events steps end

abbrev pub is_one : Event
is_one = closed (number 1 ∷ [])

abbrev pub is_two : Event
is_two = closed (number 2 ∷ [])

abbrev pub one_and_more : Event
one_and_more = opened (number 1 ∷ [])

abbrev pub is_free : Event
is_free = closed (variable 0 ∷ [])

-- ---- texts of clauses

-- f(a,b).
abbrev pub one_pair : Journal
one_pair = declared (codes "f") 2 ∷ fact 0 (two (codes "f") a b) ∷ []

-- c(X) :- p(X), !. c(d). p(a). p(b). p(c).
abbrev pub a_cut : Journal
a_cut =
    declared (codes "c") 1 ∷ clause 0 (one (codes "c") x) (both (p x) cut) 1 ∷ fact 0 (one (codes "c") (atom (codes "d")))
    ∷ declared (codes "p") 1 ∷ fact 1 (p a) ∷ fact 1 (p b) ∷ fact 1 (p c) ∷ []

-- mem(X,[X|_]). mem(X,[_|T]) :- mem(X,T).
abbrev pub members : Journal
members =
    declared (codes "mem") 2 ∷ clause 0 (mem x (cell x (variable 1))) truth 2
    ∷ clause 0 (mem x (cell (variable 1) (variable 2))) (mem x (variable 2)) 3 ∷ []

-- ---- updates

-- an engine declares a dynamic procedure
abbrev pub declares : ℕ → List ℕ → ℕ → Entry
declares engine f n = record { by = engine; what = Declare (record { name = f; arity = n }) Dynamic }

-- engine 1 adds a fact without variables at an end
abbrev pub adds : End → ℕ → Tree → Entry
adds end number head = record { by = 1; what = Add end number (record { head = head; body = truth; vars = 0 }) }

abbrev pub k : ℕ → Tree
k n = one (codes "k") (number n)

-- :- dynamic(k/1). k(1).
abbrev pub a_dynamic : Journal
a_dynamic = declares 0 (codes "k") 1 ∷ fact 0 (k 1) ∷ []

-- foo.
abbrev pub a_static : Journal
a_static = declared (codes "foo") 0 ∷ fact 0 (atom (codes "foo")) ∷ []

abbrev pub asserta : Tree → Tree
asserta t = one (codes "asserta") t

abbrev pub assertz : Tree → Tree
assertz t = one (codes "assertz") t

-- their names and arities
abbrev pub asserta_one : Indicator
asserta_one = record { name = codes "asserta"; arity = 1 }

abbrev pub assertz_one : Indicator
assertz_one = record { name = codes "assertz"; arity = 1 }

abbrev pub static : List ℕ → ℕ → Fault
static f n = Permission (codes "modify") (codes "static_procedure") (indicator_tree (record { name = f; arity = n }))

-- ---- clauses that are read and erased

-- an engine erases the clause of this name
abbrev pub erases : ℕ → ℕ → Entry
erases engine name = record { by = engine; what = Erase name }

-- :- dynamic(k/1). k(1). k(2).
abbrev pub two_dynamic : Journal
two_dynamic = declares 0 (codes "k") 1 ∷ fact 0 (k 1) ∷ fact 0 (k 2) ∷ []

-- :- dynamic(f/2). f(X,a).
abbrev pub dynamic_pair : Journal
dynamic_pair = declares 0 (codes "f") 2 ∷ clause 0 (two (codes "f") x a) truth 1 ∷ []

-- :- dynamic(g/1). g(X) :- p(X), X = b.
abbrev pub dynamic_rule : Journal
dynamic_rule = declares 0 (codes "g") 1 ∷ clause 0 (one (codes "g") x) (both (p x) (equal x b)) 1 ∷ []

abbrev pub any_k : Tree
any_k = one (codes "k") x

-- clause(H, B)
abbrev pub inspects : Tree → Tree → Tree
inspects h t = two (codes "clause") h t

abbrev pub retracts : Tree → Tree
retracts t = one (codes "retract") t

abbrev pub retracts_all : Tree → Tree
retracts_all h = one (codes "retractall") h

abbrev pub abolishes : Tree → Tree
abolishes t = one (codes "abolish") t

-- F/N
abbrev pub named : List ℕ → Tree → Tree
named f n = two (codes "/") (atom f) n

abbrev pub clause_two : Indicator
clause_two = record { name = codes "clause"; arity = 2 }

abbrev pub retract_one : Indicator
retract_one = record { name = codes "retract"; arity = 1 }

abbrev pub retract_all_one : Indicator
retract_all_one = record { name = codes "retractall"; arity = 1 }

abbrev pub abolish_one : Indicator
abolish_one = record { name = codes "abolish"; arity = 1 }

abbrev pub private : List ℕ → ℕ → Fault
private f n = Permission (codes "access") (codes "private_procedure") (indicator_tree (record { name = f; arity = n }))

abbrev pub copied_number : ℕ → ℕ → List ℕ
copied_number zero n = []
copied_number (suc k) n = n ∷ copied_number k n

pub record HasRows : Type 0 where
  -- `true` as a goal takes a step
  pub true_goal : Gives [] 100 truth [] [] (closed [] ∷ []) 1 Exhausted
  -- the last answer is closed
  pub each_fact : Gives three_facts 100 (p x) (x ∷ []) (4 ∷ []) (opened (a ∷ []) ∷ opened (b ∷ []) ∷ closed (c ∷ []) ∷ []) 3 Exhausted
  -- no alternative is left, although clauses follow
  pub one_fact : Gives three_facts 100 (p b) [] (4 ∷ []) (closed [] ∷ []) 1 Exhausted
  -- a clause with a variable is a candidate, one with another key is not
  pub middle : Gives any_between 100 (one (codes "q") b) [] (4 ∷ []) (opened [] ∷ closed [] ∷ []) 2 Exhausted
  -- a conjunction takes no step, taking an alternative takes one, and so does `=`
  pub through_a_rule : Gives a_rule 100 (one (codes "g") x) (x ∷ []) (5 ∷ 5 ∷ []) (closed (b ∷ []) ∷ []) 5 Exhausted
  pub budget_spent : Gives a_loop 10 (atom (codes "loop")) [] (copied_number 10 2) [] 10 (Spent 10)
  -- the fronts are exactly as many as are taken: none is left, and none is missing
  pub front_left : IsUnfit [] truth (0 ∷ [])
  pub front_missing : IsUnfit three_facts (p b) []
  -- none is lower than the one before, which is at first that of the beginning, and none is beyond the journal
  pub front_below : IsUnfit three_facts (p b) (3 ∷ [])
  pub front_beyond : IsUnfit three_facts (p b) (5 ∷ [])
  -- a variable is not bound to a term in which it stands
  pub occurring : Alone (equal x (one (codes "f") x)) [] 1 Exhausted
  -- a variable without a value is numbered from 0
  pub two_free : Gives [] 100 (equal (variable 7) (variable 3)) (variable 7 ∷ variable 3 ∷ []) [] (closed (variable 0 ∷ variable 0 ∷ []) ∷ []) 1 Exhausted
  -- a call of a procedure that isn't declared
  pub undeclared : Gives [] 100 (one (codes "foo") a) [] (0 ∷ []) [] 1
      (Ball (fault_tree (Existence (record { name = codes "foo"; arity = 1 })) (record { name = codes "foo"; arity = 1 })))
  -- ---- alternatives and cut
  -- X = 1 ; X = 2
  pub alternatives : Alone one_or_two (one_and_more ∷ is_two ∷ []) 4 Exhausted
  -- fail
  pub failing : Alone failure [] 1 Exhausted
  -- (X = 1 ; X = 2), !
  pub cut_after : Alone (both one_or_two cut) (is_one ∷ []) 3 Exhausted
  -- the same within its steps, and with one less
  pub cut_after_exactly : Gives [] 3 (both one_or_two cut) (x ∷ []) [] (is_one ∷ []) 3 Exhausted
  pub cut_after_spent : Gives [] 2 (both one_or_two cut) (x ∷ []) [] [] 2 (Spent 2)
  -- in the left side of `;`: (X = 1 ; X = 2), (! ; true)
  pub cut_left : Alone (both one_or_two (or cut truth)) (is_one ∷ []) 4 Exhausted
  -- in its right side: (X = 1 ; X = 2), (fail ; !)
  pub cut_right : Alone (both one_or_two (or failure cut)) (is_one ∷ []) 6 Exhausted
  -- in a clause's body it takes the other clauses away, and what the body left: c(X)
  pub cut_in_clause : Gives a_cut 100 (one (codes "c") x) (x ∷ []) (7 ∷ 7 ∷ []) (closed (a ∷ []) ∷ []) 3 Exhausted
  -- and no alternative from before the clause: (X = 1 ; X = 2), c(a)
  pub cut_outside : Gives a_cut 100 (both one_or_two (one (codes "c") a)) (x ∷ []) (7 ∷ 7 ∷ 7 ∷ 7 ∷ []) (one_and_more ∷ is_two ∷ []) 10 Exhausted
  -- ---- calls
  -- a cut in `call` is local: (X = 1 ; X = 2), call(!)
  pub cut_in_call : Alone (both one_or_two (call (cut ∷ []))) (one_and_more ∷ is_two ∷ []) 8 Exhausted
  -- call((!, fail ; true))
  pub cut_in_called : Alone (call (or (both cut failure) truth ∷ [])) [] 4 Exhausted
  -- arguments are added behind those of a goal, in order: call(f,X,Y), call(f(X),Y)
  pub added_to_atom : Gives one_pair 100 (call (atom (codes "f") ∷ x ∷ variable 1 ∷ [])) (x ∷ variable 1 ∷ []) (2 ∷ []) (closed (a ∷ b ∷ []) ∷ []) 2 Exhausted
  pub added_to_compound : Gives one_pair 100 (call (one (codes "f") x ∷ variable 1 ∷ [])) (x ∷ variable 1 ∷ []) (2 ∷ []) (closed (a ∷ b ∷ []) ∷ []) 2 Exhausted
  -- call(',',true,X = 1)
  pub added_to_control : Alone (call (atom (codes ",") ∷ truth ∷ equal x (number 1) ∷ [])) (is_one ∷ []) 3 Exhausted
  -- call((a,b),c) calls a procedure ','/3
  pub added_to_conjunction : Gives [] 100 (call (both a b ∷ c ∷ [])) [] (0 ∷ []) [] 2
      (Ball (fault_tree (Existence (record { name = codes ","; arity = 3 })) (record { name = codes ","; arity = 3 })))
  -- seven arguments may be added, and `call` with nine is no control construct
  pub call_of_eight : Gives [] 100 (call (a ∷ copies 7 b)) [] (0 ∷ []) [] 2
      (Ball (fault_tree (Existence (record { name = codes "a"; arity = 7 })) (record { name = codes "a"; arity = 7 })))
  pub call_of_nine : Gives [] 100 (call (a ∷ copies 8 b)) [] (0 ∷ []) [] 1 (Ball (fault_tree (Existence (called 9)) (called 9)))
  -- what is unbound when it becomes a body is called when its turn comes: call((X = true, X))
  pub called_later : Alone (call (both (equal x truth) x ∷ [])) (closed (truth ∷ []) ∷ []) 4 Exhausted
  -- what is bound by then is a goal of the body: X = !, call((X ; true))
  pub called_now : Gives [] 100 (both (equal x cut) (call (or x truth ∷ []))) [] [] (closed [] ∷ []) 4 Exhausted
  -- ---- bodies that can't be converted
  -- G
  pub unbound : Alone x [] 1 (Ball (fault_tree Instantiation (called 1)))
  -- 1
  pub integer_goal : Alone (number 1) [] 1 (uncallable (number 1) (called 1))
  -- call((foo,1))
  pub integer_in_body : Alone (call (both (atom (codes "foo")) (number 1) ∷ [])) [] 1 (uncallable (both (atom (codes "foo")) (number 1)) (called 1))
  -- call((Y,1)): the culprit's variables are numbered from 0
  pub free_culprit : Alone (call (both (variable 5) (number 1) ∷ [])) [] 1 (uncallable (both x (number 1)) (called 1))
  -- call(1,a)
  pub added_to_integer : Alone (call (number 1 ∷ a ∷ [])) [] 1 (uncallable (number 1) (called 2))
  -- call(X,a)
  pub added_to_unbound : Alone (call (x ∷ a ∷ [])) [] 1 (Ball (fault_tree Instantiation (called 2)))
  -- call((fail ; 1),a) calls a procedure ;/3
  pub added_to_either : Gives [] 100 (call (or failure (number 1) ∷ a ∷ [])) [] (0 ∷ []) [] 2
      (Ball (fault_tree (Existence (record { name = codes ";"; arity = 3 })) (record { name = codes ";"; arity = 3 })))
  -- call(;(fail),1): the culprit is the goal with what is added to it
  pub added_makes_no_body : Alone (call (one (codes ";") failure ∷ number 1 ∷ [])) [] 1 (uncallable (or failure (number 1)) (called 2))
  -- 255 arguments and one more
  pub too_many : Alone (call (compound (codes "f") (trees (copies 255 a)) ∷ a ∷ [])) [] 1 (Ball (fault_tree (Representation (codes "max_arity")) (called 2)))
  -- \+ 1, and \+ X: a variable's body is call(X)
  pub denied_integer : Alone (denied (number 1)) [] 1 (uncallable (number 1) (record { name = codes "\\+"; arity = 1 }))
  pub denied_unbound : Alone (denied x) [] 2 (Ball (fault_tree Instantiation (called 1)))
  -- ---- negation
  -- \+ X = 1, \+ fail, \+ \+ X = a
  pub denied_equal : Alone (denied (equal x (number 1))) [] 2 Exhausted
  pub denied_fail : Alone (denied failure) (is_free ∷ []) 2 Exhausted
  pub denied_twice : Alone (denied (denied (equal x a))) (is_free ∷ []) 3 Exhausted
  -- \+ \+ (X = 1 ; X = 2): nothing of it is left
  pub denied_alternatives : Alone (denied (denied one_or_two)) (is_free ∷ []) 4 Exhausted
  -- a cut in it is local: (X = 1 ; X = 2), \+ (!, fail)
  pub cut_in_denied : Alone (both one_or_two (denied (both cut failure))) (one_and_more ∷ is_two ∷ []) 10 Exhausted
  -- behind a `\+` its mark is gone: (\+ fail), (X = 1 ; X = 2)
  pub denied_closed : Alone (both (denied failure) one_or_two) (one_and_more ∷ is_two ∷ []) 6 Exhausted
  -- ---- conditions
  -- fail -> true ; X = 2
  pub else_taken : Alone (or (then failure truth) (equal x (number 2))) (is_two ∷ []) 4 Exhausted
  -- true -> X = 1 ; X = 2
  pub else_gone : Alone (or (then truth (equal x (number 1))) (equal x (number 2))) (is_one ∷ []) 3 Exhausted
  -- true -> fail ; X = 2: the else is gone too
  pub then_fails : Alone (or (then truth failure) (equal x (number 2))) [] 3 Exhausted
  -- without an else: true -> X = 1, fail -> true
  pub then_alone : Alone (then truth (equal x (number 1))) (is_one ∷ []) 3 Exhausted
  pub condition_fails : Alone (then failure truth) [] 2 Exhausted
  -- the condition's first answer alone: (X = 1 ; X = 2) -> true, and with an else
  pub first_answer : Alone (then one_or_two truth) (is_one ∷ []) 4 Exhausted
  pub first_answer_of_two : Alone (or (then one_or_two truth) truth) (is_one ∷ []) 4 Exhausted
  -- what comes after the condition keeps its alternatives: true -> (X = 1 ; X = 2)
  pub then_left_open : Alone (then truth one_or_two) (one_and_more ∷ is_two ∷ []) 6 Exhausted
  -- the left side of `;` is looked at as it is bound: X = (fail -> true), call((X ; X = Z))
  pub bound_condition : Gives [] 100 (both (equal x (then failure truth)) (call (or x truth ∷ []))) [] [] (closed [] ∷ []) 6 Exhausted
  -- a cut in the condition is local: (X = 1 ; X = 2), (! -> true ; fail)
  pub cut_in_condition : Alone (both one_or_two (or (then cut truth) failure)) (one_and_more ∷ is_two ∷ []) 10 Exhausted
  -- and leaves the else: (!, fail -> true ; X = 2)
  pub cut_in_failing_condition : Alone (or (then (both cut failure) truth) (equal x (number 2))) (is_two ∷ []) 5 Exhausted
  -- in what comes after it, it isn't: (X = 1 ; X = 2), (true -> ! ; fail)
  pub cut_in_then : Alone (both one_or_two (or (then truth cut) failure)) (is_one ∷ []) 5 Exhausted
  -- nor in the else: (X = 1 ; X = 2), (fail -> true ; !)
  pub cut_in_else : Alone (both one_or_two (or (then failure truth) cut)) (is_one ∷ []) 6 Exhausted
  -- (true -> fail ; true) -> X = 1 ; X = 2
  pub nested : Alone (or (then (or (then truth failure) truth) (equal x (number 1))) (equal x (number 2))) (is_two ∷ []) 6 Exhausted
  -- ---- once and repeat
  -- once((X = 1 ; X = 2))
  pub once_of_two : Alone (once one_or_two) (is_one ∷ []) 6 Exhausted
  -- once(repeat)
  pub once_repeat : Alone (once repeats) (is_free ∷ []) 5 Exhausted
  -- once(mem(X,[a,b]))
  pub once_member : Gives members 100 (once (mem x (list_of (a ∷ b ∷ [])))) (x ∷ []) (3 ∷ []) (closed (a ∷ []) ∷ []) 5 Exhausted
  -- once(1): the error is that of `call`
  pub once_integer : Alone (once (number 1)) [] 3 (uncallable (number 1) (called 1))
  -- repeat, !
  pub cut_after_repeat : Alone (both repeats cut) (is_free ∷ []) 2 Exhausted
  -- repeat, fail
  pub repeat_spent : Gives [] 10 (both repeats failure) [] [] [] 10 (Spent 10)
  -- repeat: an answer after each step, and after the last
  pub repeat_answers : Gives [] 3 repeats [] [] (opened [] ∷ opened [] ∷ opened [] ∷ []) 3 (Spent 3)
  -- ---- balls
  -- catch(throw(b), X, true)
  pub catch_b : Alone (catches (throws b) x truth) (closed (b ∷ []) ∷ []) 4 Exhausted
  -- the same, one step short
  pub catch_spent : Gives [] 3 (catches (throws b) x truth) (x ∷ []) [] [] 3 (Spent 3)
  -- a `catch` that was left catches nothing: catch(true, X, true), throw(b)
  pub catch_left : Alone (both (catches truth x truth) (throws b)) [] 3 (Ball b)
  -- also one that was left with alternatives: catch((X = 1 ; X = 2), a, true), X = 2, throw(a)
  pub catch_exited : Alone (both (catches one_or_two a truth) (both (equal x (number 2)) (throws a))) [] 8 (Ball a)
  -- bindings made since are undone: catch((X = 1, throw(a)), Y, true)
  pub catch_undone : Alone (catches (both (equal x (number 1)) (throws a)) (variable 5) truth) (is_free ∷ []) 5 Exhausted
  -- the innermost whose catcher unifies: catch(catch(throw(a), b, true), a, X = 1)
  pub catch_outer : Alone (catches (catches (throws a) b truth) a (equal x (number 1))) (is_one ∷ []) 5 Exhausted
  -- a ball that is raised in a recovery: catch(throw(a), X, throw(b)), and in an outer `catch`
  pub catch_recovery : Alone (catches (throws a) x (throws b)) [] 4 (Ball b)
  pub catch_rethrown : Alone (catches (catches (throws a) (variable 1) (throws b)) x truth) (closed (b ∷ []) ∷ []) 7 Exhausted
  -- an error is a ball: catch(call(X,a), f(X), true), whose catcher doesn't unify
  pub catch_error : Gives [] 100 (catches (call (x ∷ a ∷ [])) (one (codes "f") x) truth) [] [] [] 2 (Ball (fault_tree Instantiation (called 2)))
  -- a ball is a copy: catch(throw(f(X)), f(Y), Y = a)
  pub catch_copy : Gives [] 100 (catches (throws (one (codes "f") x)) (one (codes "f") (variable 1)) (equal (variable 1) a)) (x ∷ variable 1 ∷ []) [] (closed (variable 0 ∷ a ∷ []) ∷ []) 4 Exhausted
  -- a cut in it is local: (X = 1 ; X = 2), catch(!, b, true)
  pub cut_in_catch : Alone (both one_or_two (catches cut b truth)) (one_and_more ∷ is_two ∷ []) 8 Exhausted
  -- its own error is raised outside of it: catch(1, X, true); a variable's body is call(X): catch(X, Y, true)
  pub catch_integer : Alone (catches (number 1) x truth) [] 1 (uncallable (number 1) catch_three)
  pub catch_unbound : Alone (catches x (variable 1) truth) (is_free ∷ []) 4 Exhausted
  -- inside a `\+`: \+ catch(throw(a), Y, fail)
  pub catch_in_denied : Alone (denied (catches (throws a) (variable 1) failure)) (is_free ∷ []) 5 Exhausted
  -- throw(X)
  pub throw_unbound : Alone (throws x) [] 1 (Ball (fault_tree Instantiation throw_one))
  -- a cut in the condition of a `->` without else is local, too: (X = 1 ; X = 2), (! -> true)
  pub cut_in_lone_condition : Alone (both one_or_two (then cut truth)) (one_and_more ∷ is_two ∷ []) 10 Exhausted
  -- 254 arguments and one more
  pub most_arguments : Gives [] 100 (call (compound (codes "f") (trees (copies 254 a)) ∷ a ∷ [])) [] (0 ∷ []) [] 2
      (Ball (fault_tree (Existence (record { name = codes "f"; arity = 255 })) (record { name = codes "f"; arity = 255 })))
  -- a failure passes the mark, without a step: catch(fail, a, true), catch((X = 1 ; fail), a, true)
  pub catch_failing : Alone (catches failure a truth) [] 2 Exhausted
  pub catch_failing_later : Alone (catches (or (equal x (number 1)) failure) a truth) (one_and_more ∷ []) 5 Exhausted
  -- a ball from within a `\+`, a condition and `once`
  pub catch_out_of_denied : Alone (catches (denied (throws a)) a truth) (is_free ∷ []) 5 Exhausted
  pub catch_out_of_condition : Alone (catches (or (then (throws a) truth) truth) a truth) (is_free ∷ []) 5 Exhausted
  pub catch_out_of_once : Alone (catches (once (throws a)) a truth) (is_free ∷ []) 7 Exhausted
  -- what comes after a recovery has the alternatives from before: (X = 1 ; X = 2), catch(throw(a), a, true)
  pub catch_goes_on : Alone (both one_or_two (catches (throws a) a truth)) (one_and_more ∷ is_two ∷ []) 12 Exhausted
  -- catch(throw(1), X, true)
  pub catch_number : Alone (catches (throws (number 1)) x truth) (is_one ∷ []) 4 Exhausted
  -- ---- lists of what is found
  -- findall(Y, fail, X)
  pub found_none : Alone (finds y failure x) (closed (nil ∷ []) ∷ []) 2 Exhausted
  -- findall(Y, (Y = 1 ; Y = 2), X): its own step, and those of the goal
  pub found_two : Alone (finds y either_y x) (closed ((list_of (number 1 ∷ number 2 ∷ [])) ∷ []) ∷ []) 5 Exhausted
  -- the same within its steps, and with one less
  pub found_two_exactly : Gives [] 5 (finds y either_y x) (x ∷ []) [] (closed ((list_of (number 1 ∷ number 2 ∷ [])) ∷ []) ∷ []) 5 Exhausted
  pub found_two_spent : Gives [] 4 (finds y either_y x) (x ∷ []) [] [] 4 (Spent 4)
  -- findall(Y, findall(Z, (Z = 1 ; Z = 2), Y), X)
  pub found_nested : Alone (finds y (finds (variable 2) (or (equal (variable 2) (number 1)) (equal (variable 2) (number 2))) y) x) (closed (list_of ((list_of (number 1 ∷ number 2 ∷ [])) ∷ []) ∷ []) ∷ []) 6 Exhausted
  -- each copy has variables of its own: findall(Y, (true ; true), X), findall(f(Y,Y), (true ; true), X)
  pub found_free : Alone (finds y (or truth truth) x) (closed (list_of (variable 0 ∷ variable 1 ∷ []) ∷ []) ∷ []) 5 Exhausted
  pub found_free_twice : Alone (finds (two (codes "f") y y) (or truth truth) x) (closed (list_of (two (codes "f") (variable 0) (variable 0) ∷ two (codes "f") (variable 1) (variable 1) ∷ []) ∷ []) ∷ []) 5 Exhausted
  -- and none of the template's: findall(Y, true, X), Y = a
  pub found_copy : Gives [] 100 (both (finds y truth x) (equal y a)) (x ∷ y ∷ []) [] (closed (list_of (variable 0 ∷ []) ∷ a ∷ []) ∷ []) 3 Exhausted
  -- the copy is of what the template stands for by then, and no binding of the goal is left: findall(X, X = 1, Y)
  pub found_undone : Gives [] 100 (finds x (equal x (number 1)) y) (x ∷ y ∷ []) [] (closed (variable 0 ∷ list_of (number 1 ∷ []) ∷ []) ∷ []) 2 Exhausted
  -- inside a `\+`: \+ findall(Y, fail, [a]), \+ findall(Y, fail, [])
  pub found_in_denied : Alone (denied (finds y failure (list_of (a ∷ [])))) (is_free ∷ []) 3 Exhausted
  pub found_denied : Alone (denied (finds y failure nil)) [] 3 Exhausted
  -- a `\+` inside: findall(Y, \+ (Y = 1 ; Y = 2), X)
  pub denied_in_found : Alone (finds y (denied either_y) x) (closed (nil ∷ []) ∷ []) 4 Exhausted
  -- a ball from inside: findall(Y, (Y = 1 ; throw(a)), X), and in a `catch`; the mark is gone behind it
  pub found_ball : Alone (finds y (or (equal y (number 1)) (throws a)) x) [] 5 (Ball a)
  pub found_caught : Alone (catches (finds y (or (equal y (number 1)) (throws a)) x) (variable 2) truth) (is_free ∷ []) 8 Exhausted
  -- a `catch` inside: findall(Y, catch((Y = 1 ; throw(a)), a, Y = 2), X)
  pub caught_in_found : Alone (finds y (catches (or (equal y (number 1)) (throws a)) a (equal y (number 2))) x) (closed ((list_of (number 1 ∷ number 2 ∷ [])) ∷ []) ∷ []) 8 Exhausted
  -- a cut in it is local: findall(Y, ((Y = 1 ; Y = 2), !), X), (X = 1 ; X = 2), findall(Y, (!, fail ; true), [])
  pub cut_in_found : Alone (finds y (both either_y cut) x) (closed (list_of (number 1 ∷ []) ∷ []) ∷ []) 4 Exhausted
  pub cut_found : Alone (both one_or_two (finds y (or (both cut failure) truth) nil)) (one_and_more ∷ is_two ∷ []) 12 Exhausted
  -- behind it its mark is gone: findall(Y, (Y = 1 ; Y = 2), Z), (X = 1 ; X = 2)
  pub found_closed : Alone (both (finds y either_y (variable 2)) one_or_two) (one_and_more ∷ is_two ∷ []) 9 Exhausted
  -- the list may be bound: findall(Y, (Y = 1 ; Y = 2), [1,X]), and to one of another length: findall(Y, (Y = 1 ; Y = 2), [X])
  pub found_bound : Alone (finds y either_y (list_of (number 1 ∷ x ∷ []))) (is_two ∷ []) 5 Exhausted
  pub found_other_length : Alone (finds y either_y (list_of (x ∷ []))) [] 5 Exhausted
  -- or no list: findall(Y, true, a)
  pub found_no_list : Alone (finds y truth a) [] 2 Exhausted
  -- findall(Y, 1, X); a variable's body is call(Z): findall(Y, Z, X)
  pub found_integer : Alone (finds y (number 1) x) [] 1 (uncallable (number 1) findall_three)
  pub found_unbound : Alone (finds y (variable 2) x) [] 2 (Ball (fault_tree Instantiation (called 1)))
  -- ---- the end of a run
  -- (X = 1 ; X = 2), halt
  pub halted : Alone (both one_or_two halts) [] 3 (Halted (pos 0))
  -- halt(3), also inside a `catch`
  pub halted_with : Alone (halts_with (number 3)) [] 1 (Halted (pos 3))
  pub halted_in_catch : Alone (catches (halts_with (number 3)) x truth) [] 2 (Halted (pos 3))
  -- halt(X) and halt(a)
  pub halt_unbound : Alone (halts_with x) [] 1 (Ball (fault_tree Instantiation halt_one))
  pub halt_atom : Alone (halts_with a) [] 1 (Ball (fault_tree (OfType (codes "integer") a) halt_one))
  -- ---- clauses that are added
  -- assertz(k(1)): no procedure at the first front; it is declared at the second, and has its clause at the third
  pub added : GivesIn (changed 1000 [] (declares 1 (codes "k") 1 ∷ adds Back 0 (k 1) ∷ []) []) (assertz (k 1)) (0 ∷ 1 ∷ 2 ∷ []) (closed [] ∷ []) 1 Exhausted
  -- the declaration needs 17 words and the clause 13: the same within its words, with one word less for the clause, and for the declaration
  pub added_exactly : GivesIn (changed 30 [] (declares 1 (codes "k") 1 ∷ adds Back 0 (k 1) ∷ []) []) (assertz (k 1)) (0 ∷ 1 ∷ 2 ∷ []) (closed [] ∷ []) 1 Exhausted
  pub added_full : GivesIn (changed 29 [] (declares 1 (codes "k") 1 ∷ []) []) (assertz (k 1)) (0 ∷ 1 ∷ 1 ∷ []) [] 1 (Ball (fault_tree (Resource (codes "database")) assertz_one))
  pub declared_full : GivesIn (changed 16 [] [] []) (assertz (k 1)) (0 ∷ 0 ∷ []) [] 1 (Ball (fault_tree (Resource (codes "database")) assertz_one))
  -- another engine may declare it meanwhile
  pub added_beside : GivesIn (changed 1000 [] (declares 2 (codes "k") 1 ∷ adds Back 0 (k 1) ∷ []) []) (assertz (k 1)) (0 ∷ 1 ∷ 2 ∷ []) (closed [] ∷ []) 1 Exhausted
  -- assertz(foo) where foo is static, and asserta(true): no front for a name that is reserved
  pub added_static : Refuses a_static (assertz (atom (codes "foo"))) (2 ∷ []) (static (codes "foo") 0) assertz_one
  pub added_reserved : Refuses [] (asserta truth) [] (static (codes "true") 0) asserta_one
  -- assertz((foo :- 4)) and assertz(X)
  pub added_no_body : Refuses a_static (assertz (two (codes ":-") (atom (codes "foo")) (number 4))) [] (OfType (codes "callable") (number 4)) assertz_one
  pub added_unbound : Refuses [] (assertz x) [] Instantiation assertz_one
  -- assertz(k(1)), k(X): the call's front sees the clause
  pub added_called : GivesIn (changed 1000 [] (declares 1 (codes "k") 1 ∷ adds Back 0 (k 1) ∷ []) (x ∷ [])) (both (assertz (k 1)) (one (codes "k") x)) (0 ∷ 1 ∷ 2 ∷ 2 ∷ []) (is_one ∷ []) 2 Exhausted
  -- k(X), assertz(k(2)), fail over k(1): a call has the clauses of its front alone
  pub added_meanwhile : GivesIn (changed 1000 a_dynamic (adds Back 0 (k 2) ∷ []) []) (both (one (codes "k") x) (both (assertz (k 2)) failure)) (2 ∷ 2 ∷ 3 ∷ []) [] 3 Exhausted
  -- asserta(k(2)), k(X) over k(1): the new clause comes first
  pub added_first : GivesIn (changed 1000 a_dynamic (adds Front 0 (k 2) ∷ []) (x ∷ [])) (both (asserta (k 2)) (one (codes "k") x)) (2 ∷ 3 ∷ 3 ∷ []) (opened (number 2 ∷ []) ∷ is_one ∷ []) 3 Exhausted
  -- ---- clauses that are read and erased
  -- clause(k(X), Y)
  pub shown : GivesIn (changed 1000 a_dynamic [] (x ∷ y ∷ [])) (inspects any_k y) (2 ∷ []) (closed (number 1 ∷ truth ∷ []) ∷ []) 1 Exhausted
  -- clause(g(a), Y): the body as it is by then; and clause(g(X), true), whose body has no unifier with it
  pub shown_body : GivesIn (changed 1000 dynamic_rule [] (y ∷ [])) (inspects (one (codes "g") a) y) (2 ∷ []) (closed (both (p a) (equal a b) ∷ []) ∷ []) 1 Exhausted
  pub shown_no_body : GivesIn (changed 1000 dynamic_rule [] (x ∷ [])) (inspects (one (codes "g") x) truth) (2 ∷ []) [] 1 Exhausted
  -- an alternative is left where a clause is left: clause(k(X), true) over k(1) and k(2)
  pub shown_each : GivesIn (changed 1000 two_dynamic [] (x ∷ [])) (inspects any_k truth) (3 ∷ []) (one_and_more ∷ is_two ∷ []) 2 Exhausted
  -- of a procedure that isn't declared there are none; those of a static one, and of a name that is reserved, are private
  pub shown_undeclared : GivesIn (changed 1000 [] [] []) (inspects any_k y) (0 ∷ []) [] 1 Exhausted
  pub shown_static : Refuses a_static (inspects (atom (codes "foo")) y) (2 ∷ []) (private (codes "foo") 0) clause_two
  pub shown_reserved : Refuses [] (inspects (one (codes "atom") x) y) [] (private (codes "atom") 1) clause_two
  -- clause(X, Y), clause(4, Y), clause(X, 4) and clause(k(X), 4)
  pub shown_unbound : Refuses [] (inspects x y) [] Instantiation clause_two
  pub shown_integer : Refuses [] (inspects (number 4) y) [] (OfType (codes "callable") (number 4)) clause_two
  pub shown_unbound_first : Refuses [] (inspects x (number 4)) [] Instantiation clause_two
  pub shown_integer_body : Refuses [] (inspects any_k (number 4)) [] (OfType (codes "callable") (number 4)) clause_two
  -- retract(k(X)): the clause is looked up at the first front, and erased at the second
  pub retracted : GivesIn (changed 1000 a_dynamic (erases 1 1 ∷ []) (x ∷ [])) (retracts any_k) (2 ∷ 3 ∷ []) (is_one ∷ []) 1 Exhausted
  -- where another engine has erased it meanwhile, the next one is tried, by a step
  pub retracted_gone : GivesIn (changed 1000 a_dynamic (erases 2 1 ∷ []) (x ∷ [])) (retracts any_k) (2 ∷ 3 ∷ []) [] 1 Exhausted
  pub retracted_next : GivesIn (changed 1000 two_dynamic (erases 2 1 ∷ erases 1 2 ∷ []) (x ∷ [])) (retracts any_k) (3 ∷ 4 ∷ 5 ∷ []) (is_two ∷ []) 2 Exhausted
  -- retract((k(X) :- fail)): what isn't made one is not erased
  pub retracted_other : GivesIn (changed 1000 a_dynamic [] []) (retracts (two (codes ":-") any_k failure)) (2 ∷ []) [] 1 Exhausted
  -- with no update left for it, nothing is erased; it needs no words
  pub retracted_full : GivesIn (record (changed 30 a_dynamic [] []) { updates = 2 }) (retracts any_k) (2 ∷ 2 ∷ []) [] 1 (Ball (fault_tree (Resource (codes "database")) retract_one))
  pub retracted_exactly : GivesIn (record (changed 30 a_dynamic (erases 1 1 ∷ []) []) { updates = 3 }) (retracts any_k) (2 ∷ 3 ∷ []) (closed [] ∷ []) 1 Exhausted
  -- retract(k(X)), k(X) over k(1)
  pub retracted_called : GivesIn (changed 1000 a_dynamic (erases 1 1 ∷ []) (x ∷ [])) (both (retracts any_k) any_k) (2 ∷ 3 ∷ 3 ∷ []) [] 2 Exhausted
  pub retracted_static : Refuses a_static (retracts (atom (codes "foo"))) (2 ∷ []) (static (codes "foo") 0) retract_one
  -- retract(k(1)) where k/1 isn't declared; and retract(true), which takes no front
  pub retracted_undeclared : GivesIn (changed 1000 [] [] []) (retracts (k 1)) (0 ∷ []) [] 1 Exhausted
  pub retracted_reserved : Refuses [] (retracts truth) [] (static (codes "true") 0) retract_one
  -- retractall(k(X)) over k(1) and k(2): nothing is bound; and retractall(k(2)), which tries k(2) alone
  pub swept : GivesIn (changed 1000 two_dynamic (erases 1 1 ∷ erases 1 2 ∷ []) (x ∷ [])) (retracts_all any_k) (3 ∷ 4 ∷ 5 ∷ []) (is_free ∷ []) 1 Exhausted
  pub swept_one : GivesIn (changed 1000 two_dynamic (erases 1 2 ∷ []) []) (retracts_all (k 2)) (3 ∷ 4 ∷ []) (closed [] ∷ []) 1 Exhausted
  -- retractall(f(b,X)) over f(X,a): the clause's variables are others than the goal's of the same numbers
  pub swept_apart : GivesIn (changed 1000 dynamic_pair (erases 1 1 ∷ []) []) (retracts_all (two (codes "f") b x)) (2 ∷ 3 ∷ []) (closed [] ∷ []) 1 Exhausted
  -- one that is gone is passed over
  pub swept_gone : GivesIn (changed 1000 two_dynamic (erases 2 1 ∷ erases 1 2 ∷ []) []) (retracts_all any_k) (3 ∷ 4 ∷ 5 ∷ []) (closed [] ∷ []) 1 Exhausted
  -- what isn't declared is declared
  pub swept_undeclared : GivesIn (changed 1000 [] (declares 1 (codes "k") 1 ∷ []) []) (retracts_all any_k) (0 ∷ 1 ∷ []) (closed [] ∷ []) 1 Exhausted
  -- another engine declares it meanwhile: dynamic, and static
  pub swept_meanwhile : GivesIn (changed 1000 [] (declares 2 (codes "k") 1 ∷ []) []) (retracts_all (k 1)) (0 ∷ 1 ∷ []) (closed [] ∷ []) 1 Exhausted
  pub swept_static_meanwhile : GivesIn (changed 1000 [] (declared (codes "k") 1 ∷ []) []) (retracts_all (k 1)) (0 ∷ 1 ∷ []) [] 1 (Ball (fault_tree (static (codes "k") 1) retract_all_one))
  pub swept_static : Refuses a_static (retracts_all (atom (codes "foo"))) (2 ∷ []) (static (codes "foo") 0) retract_all_one
  -- abolish(k/1), k(X): it stays declared; and abolish(k/1) where it isn't declared
  pub abolished : GivesIn (changed 1000 two_dynamic (erases 1 1 ∷ erases 1 2 ∷ []) []) (both (abolishes (named (codes "k") (number 1))) any_k) (3 ∷ 4 ∷ 5 ∷ 5 ∷ []) [] 2 Exhausted
  pub abolished_undeclared : GivesIn (changed 1000 [] [] []) (abolishes (named (codes "k") (number 1))) (0 ∷ []) (closed [] ∷ []) 1 Exhausted
  -- abolish(foo/0), abolish(foo/X), abolish(foo/a), abolish(foo)
  pub abolished_static : Refuses a_static (abolishes (named (codes "foo") (number 0))) (2 ∷ []) (static (codes "foo") 0) abolish_one
  pub abolished_unbound : Refuses a_static (abolishes (named (codes "foo") x)) [] Instantiation abolish_one
  pub abolished_no_arity : Refuses a_static (abolishes (named (codes "foo") a)) [] (OfType (codes "integer") a) abolish_one
  pub abolished_no_indicator : Refuses a_static (abolishes (atom (codes "foo"))) [] (OfType (codes "predicate_indicator") (atom (codes "foo"))) abolish_one
