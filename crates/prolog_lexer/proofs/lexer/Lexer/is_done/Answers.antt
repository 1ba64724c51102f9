use Rattle.std.proofs.Common.{◌≡◌, ◌≤◌, ◌≢◌, length, arith, ap, sym, ◌∙◌}
use Rattle.std.proofs.lemmas.Bool.{eqb-true, eqb-false}
use Rattle.prolog_lexer.specs.Streams.{Place}
use Rattle.prolog_lexer.proofs.Fits.{ahead_ended, rest_some}
use Rattle.prolog_lexer.proofs.lexer.Lexer.is_done.Goals as goal

pub returns-clause-done : goal.returns-clause-done
returns-clause-done c = λ h.
    let t : length c.self.inside.text.now ≡ length c.args.self.now.text = ap (λ (p : Place). length p.text) c.self.view_is in
    let a : c.self.inside.at ≡ c.args.self.now.at = ap (λ (p : Place). p.at) c.self.view_is in
    let e : c.self.inside.at ≡ length c.self.inside.text.now = eqb-true c.self.inside.at (length c.self.inside.text.now) h in
    ahead_ended c.args.self.now (sym a ∙ e ∙ t)

pub returns-clause-more : goal.returns-clause-more
returns-clause-more c = λ h.
    let t : length c.self.inside.text.now ≡ length c.args.self.now.text = ap (λ (p : Place). length p.text) c.self.view_is in
    let a : c.self.inside.at ≡ c.args.self.now.at = ap (λ (p : Place). p.at) c.self.view_is in
    let n : c.self.inside.at ≢ length c.self.inside.text.now = eqb-false c.self.inside.at (length c.self.inside.text.now) h in
    let w : c.self.inside.at ≤ length c.self.inside.text.now = c.self.invariant.within in
    rest_some c.args.self.now (omega arith)
