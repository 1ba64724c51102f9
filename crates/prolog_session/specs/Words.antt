-- The words of the command line.
use Rattle.std.specs.Prelude.{ℕ, ◌+◌, ◌-◌, ◌*◌, ◌≤◌, Bool, false, drop, List, [], ◌∷◌, ◌++◌, Option, Some, None, IfSome, ◌&&◌, nat_le, codes, if◌then◌else◌}
use Rattle.std.specs.List.{list_all}
use Rattle.prolog_terms.specs.Clauses.{is_named}
use Rattle.prolog_terms.specs.Operators.{initial_operators}
use Rattle.prolog_lexer.specs.Streams.{tokens}
use Rattle.prolog_reader.specs.Texts.{Reading, program}
use Rattle.wam_machine.specs.declared.run.Goal.{Goal}
use Rattle.wam_machine.specs.Runs.{AreShown}
use Rattle.prolog_session.specs.declared.words.Command.{Command}

-- ---- the budget of steps

-- the most steps of a run, unless the words give a number
abbrev pub step_budget : ℕ
step_budget = 10_000_000

-- the greatest number that the words may give
abbrev pub max_steps : ℕ
max_steps = 100_000_000_000

abbrev pub is_digit : ℕ → Bool
is_digit b = nat_le 48 b && nat_le b 57

-- the value of decimal digits, behind digits of this value
abbrev pub value_after : ℕ → List ℕ → ℕ
value_after n [] = n
value_after n (b ∷ bs) = value_after (n * 10 + (b - 48)) bs

abbrev pub value_of : List ℕ → ℕ
value_of digits = value_after 0 digits

-- a number of steps: decimal digits alone, whose value is from 1 to the greatest
unfoldable pub steps_of : List ℕ → Option ℕ
steps_of word = if list_all is_digit word && (nat_le 1 (value_of word) && nat_le (value_of word) max_steps) then Some (value_of word) else None

-- ---- the goal

-- a term and nothing else
abbrev pub only : List (ℕ × Reading) → Option (ℕ × ℕ) → Option Reading
only ((line, r) ∷ []) None = Some r
only terms refused = None

-- the one read-term of a text
unfoldable pub term_of : List ℕ → Option Reading
term_of text = only (program initial_operators (tokens text)).terms (program initial_operators (tokens text)).refused

-- the first of two that is there
abbrev pub or_else : Option Reading → Option Reading → Option Reading
or_else (Some r) other = Some r
or_else None other = other

-- A term as a goal, with its variables that are shown. Any term can be run.
abbrev pub goal_in : Option Reading → Option Goal
goal_in None = None
goal_in (Some r) = Some (record { term = r.term; shown = r.shown })

-- the goal of a word: its one read-term, or that of the word and a stop on a new line
unfoldable pub goal_of : List ℕ → Option Goal
goal_of word = goal_in (or_else (term_of word) (term_of (word ++ 10 ∷ 46 ∷ [])))

-- ---- the command

abbrev pub asks : ℕ → Option Goal → Command
asks steps goal = record { steps = steps; goal = goal }

abbrev pub with_goal : ℕ → Option Goal → Option Command
with_goal steps None = None
with_goal steps (Some goal) = Some (asks steps (Some goal))

-- at most one word is left, the goal's
abbrev pub within : Option ℕ → List (List ℕ) → Option Command
within None words = None
within (Some steps) [] = Some (asks steps None)
within (Some steps) (word ∷ []) = with_goal steps (goal_of word)
within (Some steps) (word ∷ other ∷ words) = None

-- behind `--steps`: a number, and then the words that are left
abbrev pub behind_steps : List (List ℕ) → Option Command
behind_steps [] = None
behind_steps (number ∷ words) = within (steps_of number) words

abbrev pub begins_steps : List (List ℕ) → Bool
begins_steps [] = false
begins_steps (word ∷ words) = is_named (codes "--steps") word

-- the command of these words: `--steps` and a number, or neither, and then at most one goal; `None` where the words are bad
unfoldable pub command_of : List (List ℕ) → Option Command
command_of words = if begins_steps words then behind_steps (drop 1 words) else within (Some step_budget) words

-- ---- what the machine asks of a command

-- the budget is one that a run may have, and each shown variable of the goal, if there is one, stands in it
pub record IsReady (command : Command) : Type 0 where
  pub least : 1 ≤ command.steps
  pub most : command.steps ≤ max_steps
  pub goal : IfSome command.goal AreShown
