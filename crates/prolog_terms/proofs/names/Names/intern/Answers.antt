use Rattle.std.proofs.Common.{◌≡◌, length, slice_get, nat_eq, get_or, sym, ap, ◌∙◌, refl}
use Rattle.std.specs.Cmp.Lexicographic.{pointwise, bytes_decides}
use Rattle.std.proofs.lemmas.List.Quantifiers.{position-Some}
use Rattle.std.proofs.lemmas.Option.{slice_get_read}
use Rattle.prolog_terms.proofs.names.Names.intern.Goals as goal

pub returns-in-Some-clause-number : goal.returns-in-Some-clause-number
returns-in-Some-clause-number c =
    let text = c.args.text.now in
    let texts = c.self.inside.texts.keys in
    let number = c.in-Some.number in
    let found = position-Some (pointwise nat_eq text) texts number text (sym c.get_index_of.ensures.index ∙ c.in-Some.is) in
    let same : text ≡ get_or texts number text = (bytes_decides text (get_or texts number text)).0 found.1 in
    ap (λ xs. slice_get xs number) (sym c.self.view_is) ∙ slice_get_read texts (length texts) number text refl found.0 same
