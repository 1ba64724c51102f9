use Rattle.std.proofs.Common.{◌≡◌, ◌≤◌, ◌-◌, drop, length}
use Rattle.prolog_lexer.specs.Quotes as spec
use Rattle.prolog_lexer.proofs.quote.contents_of.Given as goal

abbrev pub invariant-bytes : goal.invariant-bytes
invariant-bytes l = record { within : l.at ≤ length l.text; inside : spec.lead l.meant.items l.at (spec.inside l.quote 0 (drop l.at l.text)) ≡ spec.inside l.quote 0 l.text }

abbrev pub decreases-bytes : goal.decreases-bytes
decreases-bytes l = length l.text - l.at
