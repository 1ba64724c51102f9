use Rattle.std.proofs.Common.{◌≡◌, ◌≤◌, ◌+◌, ◌∙◌, ◌++◌, ◌∷◌, [], refl, sym, ap, subst, arith, length, length-append, slice_get, set, Some, false}
use Rattle.std.specs.Prelude.{IsSome}
use Rattle.journals.specs.Journal.{clause_named, is_erased}
use Rattle.journal_base.specs.Fates.{AreFates, alive_in}
use Rattle.journal_base.specs.Held.{Held}
use Rattle.journal_base.specs.declared.fate.Fate.TheVariants.{NoClause, Alive, ErasedBy}
use Rattle.journal_base.proofs.Fated.{fates-erase, alive-erase, some_alive, is_alive_there}
use Rattle.journal_base.proofs.ledger.Ledger.erase.Goals as goal
use Rattle.journal_base.proofs.ledger.Ledger.erase.Goals.{After-len-at}

alive_here : (c : After-len-at) → slice_get c.self.inside.fates.items c.args.clause ≡ Some Alive
alive_here c = is_alive_there c.self.inside.entries.items c.self.inside.fates.items c.self.invariant.fates c.args.clause
    (subst (λ (h : Held). IsSome (clause_named h.entries c.args.clause)) (sym c.self.view_is) c.requires.added)
    (subst (λ (h : Held). is_erased h.entries c.args.clause ≡ false) (sym c.self.view_is) c.requires.alive)

one_alive : (c : After-len-at) → 1 ≤ c.self.inside.alive
one_alive c = let some = some_alive c.self.inside.fates.items c.args.clause (alive_here c) in omega (arith, some, c.self.invariant.alive)

pub overflow_sub-self : goal.overflow_sub-self
overflow_sub-self c = one_alive (goal.at.overflow_sub-self c).After-len-at

pub push_reserved-requires : goal.push_reserved-requires
push_reserved-requires c = let some = one_alive (goal.at.push_reserved-requires c).After-len-at in omega (arith, some, c.self.invariant.entry_room, c.self.inside.entries.ok)

pub push_reserved-requires-2 : goal.push_reserved-requires-2
push_reserved-requires-2 c =
    let some = one_alive (goal.at.push_reserved-requires-2 c).After-len-at in
    omega (arith, some, c.self.invariant.fate_room, c.self.invariant.fates.long, c.self.inside.fates.ok)

pub invariant_of-self : goal.invariant_of-self
invariant_of-self c =
    let at = alive_here (goal.at.invariant_of-self c).After-len-at in
    let some = one_alive (goal.at.invariant_of-self c).After-len-at in
    let long : length c.push_reserved.new.self.items ≡ length c.self.inside.entries.items + 1 = ap length c.push_reserved.ensures.items ∙ length-append c.self.inside.entries.items _ in
    let there : c.len-at.result ≡ length c.self.inside.entries.items = omega (arith, c.len-at.ensures, c.self.inside.entries.ok) in
    let fates : c.push_reserved-2.new.self.items ≡ set c.self.inside.fates.items c.args.clause (ErasedBy (length c.self.inside.entries.items)) ++ NoClause ∷ [] =
    c.push_reserved-2.ensures.items ∙ ap (λ n. set c.self.inside.fates.items c.args.clause (ErasedBy n) ++ NoClause ∷ []) there in
    let fewer = alive-erase c.self.inside.fates.items c.args.clause (length c.self.inside.entries.items) at in
    record {
      fates =
          subst (λ j. AreFates j c.push_reserved-2.new.self.items) (sym c.push_reserved.ensures.items)
          (subst (AreFates _) (sym fates)
          (fates-erase c.self.inside.entries.items c.self.inside.fates.items c.self.invariant.fates _ c.args.clause at refl));
      alive = omega (arith, some, fewer, ap alive_in fates, c.self.invariant.alive);
      entry_room = omega (arith, some, long, c.self.invariant.entry_room, c.push_reserved.ensures.capacity);
      fate_room = omega (arith, some, long, c.self.invariant.fate_room, c.push_reserved-2.ensures.capacity);
    }
