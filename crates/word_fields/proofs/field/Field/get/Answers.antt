use Rattle.std.proofs.Common.{◌<◌, ◌^◌, subst, sym, ℕ}
use Rattle.word_fields.proofs.Split.{got, field-lt}
use Rattle.word_fields.proofs.field.Field.get.Goals as goal

pub returns-clause-value : goal.returns-clause-value
returns-clause-value g c = got g.row.AT g.row.BITS c.args.word c.requires

pub returns-clause-small : goal.returns-clause-small
returns-clause-small g c =
    subst (λ (n : ℕ). n < 2 ^ g.row.BITS) (sym (got g.row.AT g.row.BITS c.args.word c.requires)) (field-lt g.row.AT g.row.BITS c.args.word)
