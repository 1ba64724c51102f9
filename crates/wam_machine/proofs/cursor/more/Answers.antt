use Rattle.std.proofs.Common.{◌≡◌, take, refl, ap, sym, subst, ◌∙◌}
use Rattle.journal_base.specs.View.{has_more}
use Rattle.wam_machine.specs.Cursors.{goal_of}
use Rattle.wam_machine.proofs.Begins.{seen_in}
use Rattle.wam_machine.proofs.Parts.{names_seen}
use Rattle.wam_machine.proofs.cursor.more.Goals as goal

pub returns : goal.returns
returns g c left same serves j b =
    let now = g.B.Base.view c.args.base.now in
    let here = subst (λ k. g.B.Base.serves c.args.base.now k (goal_of left)) same serves in
    seen_in now (λ J. c.more.result ≡ has_more (g.B.Base.rest c.args.call.now.cursor (goal_of left) J)) j (c.more.ensures (goal_of left) here) b
    ∙ ap (λ k. has_more (g.B.Base.rest k (goal_of left) (take now.seen j))) (sym same)
    ∙ ap has_more (names_seen g.B.Base.rest g.B.Base.looked_at g.met.B.Base.rest_local j now.seen left _ (g.met.B.Base.looked_seen _ _ _ serves) refl)
