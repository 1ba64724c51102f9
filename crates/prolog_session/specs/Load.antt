-- The load of a text (docs/LANGUAGE.md, "Programs").
use Rattle.std.specs.Prelude.{◌≡◌, ℕ, ◌+◌, List, [], ◌∷◌, ◌++◌, map, length, Bool, true, false, ◌&&◌, ◌||◌, nat_le, nat_lt, Option, Some, None, if◌then◌else◌, codes}
use Rattle.prolog_terms.specs.Tree.{Tree}
use Rattle.prolog_terms.specs.Clauses.{IsClause}
use Rattle.prolog_terms.specs.Indicators.{indicator_of}
use Rattle.prolog_terms.specs.Operators.{Table, initial_operators}
use Rattle.prolog_terms.specs.Faults.{fault_tree}
use Rattle.prolog_terms.specs.declared.fault.Fault.{Fault}
use Rattle.prolog_terms.specs.declared.shown.Shown.{Shown}
use Rattle.prolog_terms.specs.declared.entry.Entry.{Entry}
use Rattle.prolog_terms.specs.declared.entry.Clause.{Clause as AClause}
use Rattle.prolog_terms.specs.declared.entry.Indicator.{Indicator}
use Rattle.prolog_terms.specs.declared.entry.Kind.{Kind}
use Rattle.prolog_terms.specs.declared.entry.Kind.TheVariants.{Static, Dynamic}
use Rattle.prolog_terms.specs.declared.entry.End.TheVariants.{Back}
use Rattle.prolog_terms.specs.declared.entry.What.{What}
use Rattle.prolog_terms.specs.declared.entry.What.TheVariants.{Declare, Add}
use Rattle.journals.specs.Journal.{Journal, procedures, number_of, procedure_named, same_indicator}
use Rattle.journal_base.specs.Space.{used, need}
use Rattle.journal_base.specs.declared.sizes.Sizes.{Sizes}
use Rattle.prolog_clauses.specs.Formed.{clause_of}
use Rattle.prolog_clauses.specs.declared.clause.Formed.{Formed}
use Rattle.prolog_clauses.specs.declared.clause.Formed.TheVariants.{Clause as Made, Refused as NoClause}
use Rattle.prolog_clauses.specs.Declarations.{error_of, table_after, HasPriority}
use Rattle.prolog_clauses.specs.Directives.{directive_of}
use Rattle.prolog_clauses.specs.declared.directive.Directive.{Directive}
use Rattle.prolog_clauses.specs.declared.directive.Directive.TheVariants.{Operators as ForOperators, Dynamic as ForProcedures, Nothing as ForNothing, Kept as ForTheEnd, Goal as ToRun}
use Rattle.prolog_clauses.specs.declared.dynamics.Dynamics.{Dynamics}
use Rattle.prolog_clauses.specs.declared.dynamics.Dynamics.TheVariants.{Declares as DeclaresDynamic, Raises as RaisesInstead}
use Rattle.prolog_lexer.specs.Streams.{tokens}
use Rattle.prolog_reader.specs.Texts.{Reading, Answer, a_term, nothing, refusal, Sentence, answer_of, sentences}
use Rattle.wam_machine.specs.declared.run.Run.{Run}
use Rattle.wam_machine.specs.declared.run.RunEnd.TheVariants.{Ball}
use Rattle.wam_machine.specs.States.{no_room}
use Rattle.wam_machine.specs.Procedures.{no_change}
use Rattle.wam_machine.specs.Reserved.{is_reserved}
use Rattle.wam_machine.specs.Runs.{AreShown}
use Rattle.prolog_session.specs.Runs.{IsRunBy}
use Rattle.prolog_session.specs.declared.refusal.Refusal.{Refusal}
use Rattle.prolog_session.specs.declared.kept.TextGoal.{TextGoal}
use Rattle.prolog_session.specs.declared.part.Part.{Part}
use Rattle.prolog_session.specs.declared.part.Part.TheVariants.{Clause, Operators, Procedures, Goal, Kept, Nothing, Raises}
use Rattle.prolog_session.specs.declared.part.Next.{Next}
use Rattle.prolog_session.specs.declared.part.Next.TheVariants.{Taken, Refused, End}

-- ---- what can't be added

-- the call that raises the error where a read-term can't be added
abbrev pub assertz : Indicator
assertz = record { name = codes "assertz"; arity = 1 }

-- that of a directive for dynamic procedures
abbrev pub dynamic : Indicator
dynamic = record { name = codes "dynamic"; arity = 1 }

-- a grammar rule, which is no clause
abbrev pub is_grammar_rule : Indicator → Bool
is_grammar_rule i = same_indicator i (record { name = codes "-->"; arity = 2 })

abbrev pub not_added : ℕ → Fault → Part
not_added line fault = Raises line fault assertz

-- ---- what a read-term is to a load

-- a clause, unless its head has the name and arity of a control construct or a builtin (each clause's head has a name)
abbrev pub part_of_clause : ℕ → AClause → Option Indicator → Part
part_of_clause line c None = Nothing
part_of_clause line c (Some i) = if is_reserved i then not_added line (no_change i) else Clause line i c

-- a clause, or a term that is none, with its error
abbrev pub part_of_formed : ℕ → Formed → Part
part_of_formed line (Made c) = part_of_clause line c (indicator_of c.head)
part_of_formed line (NoClause fault) = not_added line fault

-- a grammar rule can't be added either
abbrev pub part_of_term : ℕ → Tree → Option Indicator → Part
part_of_term line t None = part_of_formed line (clause_of t)
part_of_term line t (Some i) = if is_grammar_rule i then not_added line (no_change i) else part_of_formed line (clause_of t)

-- a goal of the text, whose shown variables are those of the directive
abbrev pub asked : ℕ → List Shown → Tree → TextGoal
asked line shown t = record { line = line; goal = record { term = t; shown = shown } }

abbrev pub part_of_directive : ℕ → List Shown → Directive → Part
part_of_directive line shown (ForOperators d) = Operators line d
part_of_directive line shown (ForProcedures d) = Procedures line d
part_of_directive line shown ForNothing = Nothing
part_of_directive line shown (ForTheEnd g) = Kept (asked line shown g)
part_of_directive line shown (ToRun g) = Goal (asked line shown g)

-- a directive, or another term
abbrev pub part_with : ℕ → Reading → Option Directive → Part
part_with line r None = part_of_term line r.term (indicator_of r.term)
part_with line r (Some d) = part_of_directive line r.shown d

abbrev pub part_of : ℕ → Reading → Part
part_of line r = part_with line r (directive_of r.term)

abbrev pub next_of : Answer → Next
next_of (a_term line r) = Taken (part_of line r)
next_of (refusal line fault) = Refused (record { line = line; fault = fault })
next_of nothing = End

-- a clause, of this name and arity
pub record IsClauseOf (i : Indicator) (c : AClause) : Type 0 where
  pub named : indicator_of c.head ≡ Some i
  pub clause : IsClause c

-- What a load needs of a read-term: a clause is one, the priority of a directive is one that an operator may have, or 0, and each shown
-- variable of a goal stands in it.
abbrev pub IsReadyPart : Part → Type 0
IsReadyPart (Clause line i c) = IsClauseOf i c
IsReadyPart (Operators line d) = HasPriority d
IsReadyPart (Procedures line d) = Unit {0}
IsReadyPart (Goal g) = AreShown g.goal
IsReadyPart (Kept g) = AreShown g.goal
IsReadyPart Nothing = Unit {0}
IsReadyPart (Raises line fault at) = Unit {0}

abbrev pub IsReadyNext : Next → Type 0
IsReadyNext (Taken part) = IsReadyPart part
IsReadyNext (Refused r) = Unit {0}
IsReadyNext End = Unit {0}

-- ---- the read-terms of a text

-- what a read-term has a load do: add a clause, declare procedures dynamic, give a run that ends in an error, or run a goal, which writes
-- under the operators at its place
pub data Item : Type 0 where
  a_clause : (line : ℕ) (indicator : Indicator) (clause : AClause) → Item
  a_declaration : (line : ℕ) (indicators : List Indicator) → Item
  an_error : (line : ℕ) (fault : Fault) (at : Indicator) → Item
  a_goal : (ops : Table) (goal : TextGoal) → Item

-- what the read-terms of a text have a load do, the operators that there are behind them, and the read-term at which the load ends, if
-- one is refused
pub record ReadText : Type 0 where
  pub items : List Item
  pub operators : Table
  pub refused : Option Refusal

abbrev pub op : Indicator
op = record { name = codes "op"; arity = 3 }

abbrev pub error_items : ℕ → Option Fault → List Item
error_items line None = []
error_items line (Some fault) = an_error line fault op ∷ []

abbrev pub dynamic_items : ℕ → Dynamics → List Item
dynamic_items line (DeclaresDynamic is) = a_declaration line is ∷ []
dynamic_items line (RaisesInstead fault) = an_error line fault dynamic ∷ []

-- what a read-term has a load do at its place, under these operators
abbrev pub items_of : Part → Table → List Item
items_of (Clause line i c) ops = a_clause line i c ∷ []
items_of (Operators line d) ops = error_items line (error_of ops d)
items_of (Procedures line d) ops = dynamic_items line d
items_of (Goal g) ops = a_goal ops g ∷ []
items_of (Kept g) ops = []
items_of Nothing ops = []
items_of (Raises line fault at) ops = an_error line fault at ∷ []

-- the operators behind a read-term
abbrev pub operators_after : Part → Table → Table
operators_after (Clause line i c) ops = ops
operators_after (Operators line d) ops = table_after ops d
operators_after (Procedures line d) ops = ops
operators_after (Goal g) ops = ops
operators_after (Kept g) ops = ops
operators_after Nothing ops = ops
operators_after (Raises line fault at) ops = ops

-- the goals that are kept for the end of the text
abbrev pub kept_after : Part → List TextGoal → List TextGoal
kept_after (Clause line i c) kept = kept
kept_after (Operators line d) kept = kept
kept_after (Procedures line d) kept = kept
kept_after (Goal g) kept = kept
kept_after (Kept g) kept = kept ++ g ∷ []
kept_after Nothing kept = kept
kept_after (Raises line fault at) kept = kept

abbrev pub goals : Table → List TextGoal → List Item
goals ops kept = map (a_goal ops) kept

abbrev pub ended : List Item → Table → Option Refusal → ReadText
ended items ops refused = record { items = items; operators = ops; refused = refused }

abbrev pub with_items : List Item → ReadText → ReadText
with_items items later = record later { items = items ++ later.items }

-- A read-term, under these operators and with these goals kept, and what comes behind it. At the end of the text the goals that were
-- kept are run; where a read-term is refused none of them is.
abbrev pub before : Next → Table → List TextGoal → (Part → ReadText) → ReadText
before (Taken part) ops kept later = with_items (items_of part ops) (later part)
before (Refused r) ops kept later = ended [] ops (Some r)
before End ops kept later = ended (goals ops kept) ops None

-- Each read-term is read under the operators that there are behind those before it.
abbrev pub text_under : Table → List TextGoal → List Sentence → ReadText
text_under ops kept [] = ended (goals ops kept) ops None
text_under ops kept (x ∷ xs) = before (next_of (answer_of ops x)) ops kept (λ part. text_under (operators_after part ops) (kept_after part kept) xs)

unfoldable pub text_of : List ℕ → ReadText
text_of text = text_under initial_operators [] (sentences (tokens text))

-- the operators behind a text, or at the read-term at which its load ends
abbrev pub operators_of : List ℕ → Table
operators_of text = (text_of text).operators

-- the read-term at which the load of this text ends, if it is refused; that is so for all sizes
abbrev pub refusal_of : List ℕ → Option Refusal
refusal_of text = (text_of text).refused

-- ---- what a clause adds

abbrev pub by_load : What → Entry
by_load what = record { by = 0; what = what }

-- the base has words enough for an update, and takes one more
abbrev pub has_room : Sizes → Journal → What → Bool
has_room sizes J what = nat_le (used J + need what) sizes.words && nat_lt (length J) sizes.updates

-- a journal, and whether all that was to be added to it had room
pub record Placed : Type 0 where
  pub journal : Journal
  pub fits : Bool

abbrev pub placed_if : Bool → Journal → What → Placed
placed_if true J what = record { journal = J ++ by_load what ∷ []; fits = true }
placed_if false J what = record { journal = J; fits = false }

-- an update is made where it has room
abbrev pub placed : Sizes → Journal → What → Placed
placed sizes J what = placed_if (has_room sizes J what) J what

abbrev pub with_procedure_of : Sizes → Journal → Indicator → Option ℕ → Placed
with_procedure_of sizes J i (Some p) = record { journal = J; fits = true }
with_procedure_of sizes J i None = placed sizes J (Declare i Static)

-- the procedure is declared static, unless it is declared already
abbrev pub with_procedure : Sizes → Journal → Indicator → Placed
with_procedure sizes J i = with_procedure_of sizes J i (number_of J i)

-- the number of a procedure, or how many there are, which is that of the next
abbrev pub number_or_next : Journal → Option ℕ → ℕ
number_or_next J (Some p) = p
number_or_next J None = length (procedures J)

-- a second update is made where the first had room and it has, too
abbrev pub placed_behind : Sizes → Placed → What → Placed
placed_behind sizes first what = if first.fits then placed sizes first.journal what else first

-- A clause is added behind those of its procedure, which is declared before it. What was declared stays where the clause has no room.
abbrev pub with_clause : Sizes → Journal → Indicator → AClause → Placed
with_clause sizes J i c = placed_behind sizes (with_procedure sizes J i) (Add Back (number_or_next J (number_of J i)) c)

-- ---- what is declared dynamic

-- a procedure is declared dynamic, unless it is declared already
abbrev pub with_dynamic_of : Sizes → Journal → Indicator → Option (ℕ × Kind) → Placed
with_dynamic_of sizes J i (Some d) = record { journal = J; fits = true }
with_dynamic_of sizes J i None = placed sizes J (Declare i Dynamic)

abbrev pub with_dynamic : Sizes → Journal → Indicator → Placed
with_dynamic sizes J i = with_dynamic_of sizes J i (procedure_named J i)

-- one after the other, until one has no room; what was declared stays
abbrev pub with_dynamics : Sizes → Placed → List Indicator → Placed
with_dynamics sizes placed [] = placed
with_dynamics sizes placed (i ∷ is) = if placed.fits then with_dynamics sizes (with_dynamic sizes placed.journal i) is else placed

abbrev pub is_static : Option (ℕ × Kind) → Bool
is_static None = false
is_static (Some (p, Static)) = true
is_static (Some (p, Dynamic)) = false

-- a control construct, a builtin or a static procedure may not be dynamic
abbrev pub is_fixed : Journal → Indicator → Bool
is_fixed J i = is_reserved i || is_static (procedure_named J i)

-- the first that may not be
abbrev pub first_fixed : Journal → List Indicator → Option Indicator
first_fixed J [] = None
first_fixed J (i ∷ is) = if is_fixed J i then Some i else first_fixed J is

-- ---- the load

-- the run of a read-term in this line that raises an error
unfoldable pub raised : ℕ → Fault → Indicator → Run
raised line fault at = record {
  engine = 0;
  line = line;
  shown = [];
  transcript = [];
  fronts = [];
  tally = record { looks = 0; scans = 0; kept = 0; wants = 0; visits = 0; built = 0; indexes = 0 };
  steps = 0;
  end = Ball (fault_tree fault at);
}

-- a load so far: its journal and its runs
pub record Loaded : Type 0 where
  pub journal : Journal
  pub runs : List Run

abbrev pub run_unless : Bool → ℕ → Indicator → List Run
run_unless true line at = []
run_unless false line at = raised line no_room at ∷ []

-- what was placed, and a run of its line where it had no room
abbrev pub after_placing : ℕ → Indicator → Loaded → Placed → Loaded
after_placing line at s p = record { journal = p.journal; runs = s.runs ++ run_unless p.fits line at }

abbrev pub after_clause : Sizes → ℕ → Indicator → AClause → Loaded → Loaded
after_clause sizes line i c s = after_placing line assertz s (with_clause sizes s.journal i c)

abbrev pub after_error : ℕ → Fault → Indicator → Loaded → Loaded
after_error line fault at s = record s { runs = s.runs ++ raised line fault at ∷ [] }

-- all are declared, unless one of them may not be
abbrev pub after_declaration_of : Sizes → ℕ → List Indicator → Loaded → Option Indicator → Loaded
after_declaration_of sizes line is s (Some i) = after_error line (no_change i) dynamic s
after_declaration_of sizes line is s None = after_placing line dynamic s (with_dynamics sizes (record { journal = s.journal; fits = true }) is)

abbrev pub after_declaration : Sizes → ℕ → List Indicator → Loaded → Loaded
after_declaration sizes line is s = after_declaration_of sizes line is s (first_fixed s.journal is)

-- a run of a goal, and the entries that it made
abbrev pub with_run : Loaded → List Entry → Run → Loaded
with_run s made run = record { journal = s.journal ++ made; runs = s.runs ++ run ∷ [] }

-- These items, one after the other, lead from the one load so far to the other. A goal is run by engine 0 over the journal at its place,
-- with the entries behind it that it makes, and under the operators there, within the budget; a run may be made in more than one way,
-- since its looks may.
abbrev pub Loads : Sizes → ℕ → Loaded → List Item → Loaded → Type 0
Loads sizes budget s [] t = t ≡ s
Loads sizes budget s (a_clause line i c ∷ rest) t = Loads sizes budget (after_clause sizes line i c s) rest t
Loads sizes budget s (a_declaration line is ∷ rest) t = Loads sizes budget (after_declaration sizes line is s) rest t
Loads sizes budget s (an_error line fault at ∷ rest) t = Loads sizes budget (after_error line fault at s) rest t
Loads sizes budget s (a_goal ops g ∷ rest) t = (run : Run) × ((made : List Entry) × (IsRunBy sizes ops 0 g.line g.goal s.journal made budget run × Loads sizes budget (with_run s made run) rest t))

abbrev pub unloaded : Loaded
unloaded = record { journal = []; runs = [] }

-- This journal and these runs are those of a load of the text into an empty base of these sizes. The runs are by engine 0, in order:
-- one for each clause that had no room, each read-term that can't be added, each directive for operators or dynamic procedures that
-- raised an error, and each goal.
abbrev pub IsLoadOf : Sizes → ℕ → List ℕ → Journal → List Run → Type 0
IsLoadOf sizes budget text journal runs = Loads sizes budget unloaded (text_of text).items (record { journal = journal; runs = runs })
