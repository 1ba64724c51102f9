use Rattle.std.proofs.Common.{◌≡◌, ℕ, suc, ◌<◌, ◌≤◌, ◌-◌, [], length, arith, refl, sym, subst}
use Rattle.std.specs.Prelude.{reverse}
use Rattle.std.proofs.Math.Nat.{le-max_left, le-max_right}
use Rattle.std.proofs.lemmas.List.{get_or_read}
use Rattle.wam_machine.specs.Terms.{frame_at, frames_kept}
use Rattle.wam_machine.proofs.Popped.{said-none, keeps-cut, terms-pop, goals-pop, same-pop, next-pop}
use Rattle.wam_machine.proofs.goals.take_next.Goals as goal

pub returns-then-terms-eq0-clause-none : goal.returns-then-terms-eq0-clause-none
returns-then-terms-eq0-clause-none g c = said-none c.args.terms.now c.if-terms-eq0.true

pub returns : goal.returns
returns g c =
    let t = c.args.terms.now in
    let h = c.requires.terms in
    let next_is = h.next_is in
    let some = c.if-terms-eq0.false in
    let less : t.next - 1 < length t.frames.items = omega (arith, next_is, some) in
    let n : t.next ≡ suc (t.next - 1) = omega (arith, some) in
    let f = c.index-frame.result.now in
    let is = get_or_read t.frames.items (t.next - 1) f less c.index-frame.ensures (frame_at [] 0) in
    let asked = c.kept_frames-kept.ensures in
    let most = c.max.ensures in
    let low : t.next - 1 ≤ c.max.result = subst (λ (n : ℕ). t.next - 1 ≤ n) (sym most) (le-max_left (t.next - 1) c.kept_frames-kept.result) in
    let few : frames_kept (reverse t.choices.items) ≤ c.max.result = subst (λ (n : ℕ). n ≤ c.max.result) asked (subst (λ (n : ℕ). c.kept_frames-kept.result ≤ n) (sym most) (le-max_right (t.next - 1) c.kept_frames-kept.result)) in
    let k = keeps-cut t h c.truncate.new.self (t.next - 1) c.max.result less low c.truncate.ensures.items few in
    record {
      terms = terms-pop t h (t.next - 1) n f is c.truncate.new.self k;
      names = refl;
      none = goals-pop t h (t.next - 1) n f is c.truncate.new.self k;
      next = next-pop t h (t.next - 1) n f is c.truncate.new.self k;
      same = same-pop t h (t.next - 1) n f is c.truncate.new.self k;
    }
