use Rattle.std.proofs.Common.{◌-◌, ◌<◌, [], length, arith, refl}
use Rattle.std.proofs.lemmas.List.{get_or_read}
use Rattle.wam_machine.specs.Terms.{frame_at}
use Rattle.wam_machine.proofs.Active.{sought-first, sought-found, sought-on, sought-less, sought-none}
use Rattle.wam_machine.proofs.goals.active_catch.Goals as goal

pub loop-left-init : goal.loop-left-init
loop-left-init g c = sought-first c.args.terms.now c.requires

pub returns-in-CatchEnd : goal.returns-in-CatchEnd
returns-in-CatchEnd g c =
    let t = c.args.terms.now in
    let within = c.loop-left.invariant.within in
    let some = c.loop-left-test.true in
    let less : c.loop-left.left - 1 < length t.frames.items = omega (arith, within, some) in
    sought-found t c.requires c.loop-left.left (c.loop-left.left - 1) c.loop-left.invariant some refl c.index-frame.result.now
    (get_or_read t.frames.items (c.loop-left.left - 1) c.index-frame.result.now less c.index-frame.ensures (frame_at [] 0))
    c.in-CatchEnd.height c.in-CatchEnd.is

pub loop-left-preserved : goal.loop-left-preserved
loop-left-preserved g c =
    let t = c.args.terms.now in
    let within = c.loop-left.invariant.within in
    let some = c.loop-left-test.true in
    let less : c.loop-left.left - 1 < length t.frames.items = omega (arith, within, some) in
    sought-on t c.requires c.loop-left.left (c.loop-left.left - 1) c.loop-left.invariant some refl c.index-frame.result.now
    (get_or_read t.frames.items (c.loop-left.left - 1) c.index-frame.result.now less c.index-frame.ensures (frame_at [] 0))
    (λ h e. c.in_default.not-CatchEnd h e)

pub loop-left-smaller : goal.loop-left-smaller
loop-left-smaller g c =
    let t = c.args.terms.now in
    let within = c.loop-left.invariant.within in
    let some = c.loop-left-test.true in
    let less : c.loop-left.left - 1 < length t.frames.items = omega (arith, within, some) in
    sought-less t c.requires c.loop-left.left (c.loop-left.left - 1) c.loop-left.invariant some refl c.index-frame.result.now
    (get_or_read t.frames.items (c.loop-left.left - 1) c.index-frame.result.now less c.index-frame.ensures (frame_at [] 0))

pub returns : goal.returns
returns g c = sought-none c.args.terms.now c.loop-left.left c.loop-left.invariant c.loop-left-test.false
