use Rattle.std.proofs.Common.{◌≡◌, ◌+◌, ◌∙◌, refl, sym, ap, subst, arith, length, length-append}
use Rattle.journal_base.specs.Fates.{AreFates, alive_in}
use Rattle.journal_base.specs.Held.{Held}
use Rattle.journal_base.specs.declared.fate.Fate.TheVariants.{Alive}
use Rattle.journal_base.proofs.Fated.{fates-push, alive-push}
use Rattle.journal_base.proofs.ledger.Ledger.add.Goals as goal

pub invariant_of-self : goal.invariant_of-self
invariant_of-self c =
    let room = ap (λ (h : Held). h.room) c.self.view_is in
    let long : length c.push_reserved.new.self.items ≡ length c.self.inside.entries.items + 1 = ap length c.push_reserved.ensures.items ∙ length-append c.self.inside.entries.items _ in
    record {
      fates =
          subst (λ j. AreFates j c.push_reserved-2.new.self.items) (sym c.push_reserved.ensures.items)
          (subst (AreFates _) (sym c.push_reserved-2.ensures.items)
          (fates-push c.self.inside.entries.items c.self.inside.fates.items c.self.invariant.fates _ Alive (λ k. refl) (λ front. refl) (λ e. absurd cc)));
      alive = ap (λ n. n + 1) c.self.invariant.alive ∙ sym (ap alive_in c.push_reserved-2.ensures.items ∙ alive-push c.self.inside.fates.items Alive);
      entry_room = omega (arith, room, long, c.requires, c.push_reserved.ensures.capacity);
      fate_room = omega (arith, room, long, c.requires, c.push_reserved-2.ensures.capacity);
    }
