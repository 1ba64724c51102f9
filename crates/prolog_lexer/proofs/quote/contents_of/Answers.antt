use Rattle.std.proofs.Common.{ap, sym, ◌∙◌, drop}
use Rattle.prolog_lexer.specs.Quotes.{lead, inside}
use Rattle.prolog_lexer.proofs.Insides.{stands, skips}
use Rattle.prolog_lexer.proofs.quote.contents_of.Goals as goal

pub bytes-preserved-in-Stands : goal.bytes-preserved-in-Stands
bytes-preserved-in-Stands c = record {
  within = c.passed-at.ensures.within;
  inside =
      ap (λ l. lead l c.passed-at.result (inside c.args.quote 0 (drop c.passed-at.result c.args.text.now))) c.in_ok-push-in-Stands.ensures.items
      ∙ stands c.args.quote c.args.text.now c.bytes.meant.items c.bytes.at c.in-Stands.k c.passed-at.result c.bytes-test.true c.passed-at.ensures.rest c.passed-at.ensures.place c.in-Stands.b (sym c.bit_at.ensures ∙ c.in-Stands.is)
      ∙ c.bytes.invariant.inside;
}

pub bytes-preserved : goal.bytes-preserved
bytes-preserved c = record {
  within = c.passed-at-in-Skips.ensures.within;
  inside =
      skips c.args.quote c.args.text.now c.bytes.meant.items c.bytes.at c.in-Skips.k c.passed-at-in-Skips.result c.bytes-test.true c.passed-at-in-Skips.ensures.rest c.passed-at-in-Skips.ensures.place (sym c.bit_at.ensures ∙ c.in-Skips.is)
      ∙ c.bytes.invariant.inside;
}
