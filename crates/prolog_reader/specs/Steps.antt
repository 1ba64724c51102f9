-- What a step of the parser is.
use Rattle.prolog_reader.specs.declared.rule.Fault.{Fault}
use Rattle.std.specs.Prelude.{◌≡◌, Result, Ok, Err}
use Rattle.prolog_terms.specs.Tree.{Trees}
use Rattle.prolog_reader.specs.Grammar.{State, Step, goes, goes_two, stops, Found}
use Rattle.prolog_reader.specs.Numberings.{Numbering}
use Rattle.prolog_reader.specs.declared.parser.Parser.{Parser}
use Rattle.prolog_reader.specs.declared.rule.Next.{Next}
use Rattle.prolog_reader.specs.declared.rule.Next.TheVariants.{One, Two, Stop}

abbrev pub state_of : Parser → State
state_of p = record { mode = p.mode; frames = p.frames; terms = p.terms; variables = p.variables }

-- the rule's step, by what a call answered and the state after it
abbrev pub Makes : Step → Next → State → Type 0
Makes step One new = step ≡ goes new
Makes step Two new = step ≡ goes_two new
Makes step (Stop f) new = step ≡ stops f

-- what all of the tokens gave, by what a call answered and the terms and variables after it
abbrev pub Finds : Result Found Fault → Result (Unit {0}) Fault → Trees → Numbering → Type 0
Finds found (Ok u) ts vs = found ≡ Ok (record { terms = ts; variables = vs })
Finds found (Err f) ts vs = found ≡ Err f

abbrev pub Reads : Result Found Fault → Result Parser Fault → Type 0
Reads found (Ok p) = found ≡ Ok (record { terms = p.terms; variables = p.variables })
Reads found (Err f) = found ≡ Err f
