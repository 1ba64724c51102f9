use Rattle.std.proofs.Common.{◌≡◌, sym, ◌∙◌}
use Rattle.std.specs.Cmp.Lexicographic.{bytes_decides}
use Rattle.term_store.proofs.Puts.{number-text}
use Rattle.term_store.proofs.Matched.{other-name, other-arity, goes-row, not-true, not-false}
use Rattle.term_store.proofs.store.Store.match_row.Goals as goal

pub returns-then-ne-clause-matches : goal.returns-then-ne-clause-matches
returns-then-ne-clause-matches c = λ ts enough valid.
    other-name c.args.self.now c.args.names.now c.args.place c.row-found.result.0 c.args.arity c.args.name.now c.row-found.result.1.now _ ts c.known.ensures c.requires.inside c.row-found.ensures enough
    (λ e.
    let same : c.text.result.now ≡ c.bytes.result.now = sym (number-text c.args.names.now c.row-found.result.0 c.text.result.now c.text.ensures) ∙ sym e ∙ sym c.bytes.ensures in
    not-true c.ne.result _ c.ne.ensures c.if-ne.true ((bytes_decides c.text.result.now c.bytes.result.now).1 same))

pub returns-then-arguments-arity-clause-matches : goal.returns-then-arguments-arity-clause-matches
returns-then-arguments-arity-clause-matches c = λ ts enough valid.
    other-arity c.args.self.now c.args.names.now c.args.place c.row-found.result.0 c.args.arity c.args.name.now c.row-found.result.1.now _ ts c.known.ensures c.requires.inside c.row-found.ensures enough
    c.if-arguments-arity.true

pub returns-clause-matches : goal.returns-clause-matches
returns-clause-matches c = λ ts enough valid.
    let same : c.text.result.now ≡ c.bytes.result.now = (bytes_decides c.text.result.now c.bytes.result.now).0 (not-false c.ne.result _ c.ne.ensures c.if-ne.false) in
    goes-row c.args.self.now c.args.names.now c.args.place c.row-found.result.0 c.args.arity c.args.name.now c.row-found.result.1.now _ ts c.known.ensures c.requires.inside c.row-found.ensures enough
    (sym c.bytes.ensures ∙ sym same ∙ sym (number-text c.args.names.now c.row-found.result.0 c.text.result.now c.text.ensures))
    c.if-arguments-arity.false c.requires.named _ c.in_ok-push_back.ensures valid
