use Rattle.std.proofs.Common.{ap, sym, ◌∙◌}
use Rattle.std.specs.Option.{option_copied}
use Rattle.prolog_reader.specs.Numberings.{is_anonymous}
use Rattle.prolog_reader.proofs.Meets.{met_new}
use Rattle.prolog_reader.proofs.variables.Variables.number.Goals as goal

pub returns-in_ok-number-in-None-clause-met : goal.returns-in_ok-number-in-None-clause-met
returns-in_ok-number-in-None-clause-met c =
    met_new c.args.name.now c.bytes-2.result.now c.in_ok-clone-in-None.field-0 c.args.self.now c.next-in-None.new.self c.self.inside.numbers.entries c.insert.new.self.entries c.self.inside.count
    c.self.view_is c.bytes-2.ensures c.in_ok-clone-in-None.ensures.cases (ap is_anonymous (c.bytes-2.ensures ∙ sym c.bytes.ensures) ∙ sym c.is_anonymous.ensures ∙ c.if-is_anonymous.false)
    (sym c.get.ensures.value ∙ ap option_copied c.in-None.is) c.in_ok-insert-in-None.ensures.entries c.in_ok-number-in-None.ensures.count
