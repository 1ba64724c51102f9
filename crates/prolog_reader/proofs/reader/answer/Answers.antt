use Rattle.prolog_reader.specs.Texts.{read_reading}
use Rattle.prolog_reader.proofs.Found.{found_one, found_cases, found_variables}
use Rattle.prolog_reader.proofs.Sound.{no_reading}
use Rattle.prolog_reader.proofs.Total.{read_stops}
use Rattle.prolog_reader.proofs.reader.answer.Goals as goal

pub found_term-requires : goal.found_term-requires
found_term-requires c =
    let e = rw c.in-Ok.is at c.in_ok-parser-in-Stopped.ensures in
    found_one c.args.ops.now c.args.tokens.now c.in-Ok.parser.terms c.in-Ok.parser.variables e

pub returns-in_ok-found_term-in-Ok-clause-cases : goal.returns-in_ok-found_term-in-Ok-clause-cases
returns-in_ok-found_term-in-Ok-clause-cases c =
    let e = rw c.in-Ok.is at c.in_ok-parser-in-Stopped.ensures in
    rw c.in-Stopped.is
    (found_cases c.args.ops.now c.args.tokens.now c.in-Ok.parser.terms c.in-Ok.parser.variables e (read_reading c.in_ok-found_term-in-Ok.field-0) c.in_ok-found_term-in-Ok.ensures.reading)

pub returns-in_ok-found_term-in-Ok-clause-variables : goal.returns-in_ok-found_term-in-Ok-clause-variables
returns-in_ok-found_term-in-Ok-clause-variables c =
    let e = rw c.in-Ok.is at c.in_ok-parser-in-Stopped.ensures in
    found_variables c.args.ops.now c.args.tokens.now c.in-Ok.parser.terms c.in-Ok.parser.variables e (read_reading c.in_ok-found_term-in-Ok.field-0) c.in_ok-found_term-in-Ok.ensures.reading

pub returns-in-Err-clause-cases : goal.returns-in-Err-clause-cases
returns-in-Err-clause-cases c =
    let e = rw c.in-Err.is at c.in_ok-parser-in-Stopped.ensures in
    rw c.in-Stopped.is (λ q t ws d. no_reading c.args.ops.now c.args.tokens.now c.in-Err.fault q t ws e d)

pub returns-in-Err-clause-faults : goal.returns-in-Err-clause-faults
returns-in-Err-clause-faults c =
    let e = rw c.in-Err.is at c.in_ok-parser-in-Stopped.ensures in
    let d = read_stops c.args.ops.now c.args.tokens.now c.in-Err.fault e in
    rw c.in-Stopped.is (rw c.in-Stopped.is at c.line_of-line.ensures, record { kind = c.in-Err.fault; left = d.0; stops = d.1; is = c.number.ensures })
