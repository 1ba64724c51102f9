use Rattle.std.proofs.Common.{◌≡◌, ◌≤◌, All, ◌+◌, ℕ, List, length, sym, ap, ◌∙◌, subst, arith}
use Rattle.term_store.specs.declared.cell.Cell.{Cell}
use Rattle.term_store.specs.Shape.{Shape}
use Rattle.term_store.specs.Later.{IsLater}
use Rattle.term_store.specs.Copies.{behind, AreEnough, IsMet, IsMade, IsCopy}
use Rattle.term_store.proofs.Laws.{later-itself, later-further, later-variables}
use Rattle.term_store.proofs.Unfolds.{unfolding-enough, unfolding-some}
use Rattle.term_store.proofs.Rebuilds.{copied-ground, copied}
use Rattle.term_store.proofs.store.Store.copy_cell.Goals as goal
use Rattle.term_store.proofs.store.Store.copy_cell.Goals.{In_ok-copy}

pub returns-in_err-cells-clause-later : goal.returns-in_err-cells-clause-later
returns-in_err-cells-clause-later c = later-itself c.args.self.now

pub returns-then-count-eq0-clause-copy : goal.returns-then-count-eq0-clause-copy
returns-then-count-eq0-clause-copy c =
    copied-ground c.args.self.now c.args.cell c.in_ok-cells.cells.items c.unfold.new.seen c.requires c.in_ok-cells.ensures
    (let a = c.count-count.ensures in let b = c.if-count-eq0.true in omega (arith, a, b))

pub returns-then-count-eq0-clause-later : goal.returns-then-count-eq0-clause-later
returns-then-count-eq0-clause-later c = later-itself c.args.self.now

pub returns-in_err-from-clause-later : goal.returns-in_err-from-clause-later
returns-in_err-from-clause-later c = subst (IsLater c.args.self.now) (sym c.in_err-from.ensures.err) (later-itself c.args.self.now)

pub rebuild-requires-clause-enough : goal.rebuild-requires-clause-enough
rebuild-requires-clause-enough c =
    subst (λ (s : Shape). AreEnough s.compounds c.as_slice.result.now) (sym c.in_ok-from.ensures.ok)
    (subst (AreEnough c.args.self.now.compounds) (sym c.as_slice.ensures.value)
    (unfolding-enough c.args.self.now c.args.cell c.in_ok-cells.cells.items c.unfold.new.seen c.known.ensures c.requires c.in_ok-cells.ensures))

pub returns-in_err-copy-clause-later : goal.returns-in_err-copy-clause-later
returns-in_err-copy-clause-later c =
    let n = c.args.self.now.variables + c.count-count.result in
    later-further c.args.self.now c.fresh.new.self c.rebuild.new.self
    (subst (IsLater c.args.self.now) (sym c.in_ok-from.ensures.ok) (later-variables c.args.self.now n (omega arith))) c.in_err-copy.ensures.later

wide : (c : In_ok-copy) → c.fresh.new.self ≡ record c.args.self.now { variables = c.args.self.now.variables + length c.unfold.new.seen }
wide c = c.in_ok-from.ensures.ok ∙ ap (λ (n : ℕ). record c.args.self.now { variables = c.args.self.now.variables + n }) c.count-count.ensures

made : (c : In_ok-copy) → IsMade (behind c.args.self.now.variables c.unfold.new.seen) (record c.args.self.now { variables = c.args.self.now.variables + length c.unfold.new.seen }) c.rebuild.new.self c.in_ok-cells.cells.items c.in_ok-copy.copy
made c =
    subst (λ (s : Shape). IsMade (behind c.args.self.now.variables c.unfold.new.seen) s c.rebuild.new.self c.in_ok-cells.cells.items c.in_ok-copy.copy) (wide c)
    (subst (λ (n : ℕ). IsMade (behind n c.unfold.new.seen) c.fresh.new.self c.rebuild.new.self c.in_ok-cells.cells.items c.in_ok-copy.copy) c.in_ok-from.ensures.first
    (subst (λ (cs : List Cell). IsMade (behind c.in_ok-from.from c.unfold.new.seen) c.fresh.new.self c.rebuild.new.self cs c.in_ok-copy.copy) c.as_slice.ensures.value c.in_ok-copy.ensures.cell))

copy_is : (c : In_ok-copy) → IsCopy c.args.self.now c.rebuild.new.self c.args.cell c.in_ok-copy.copy
copy_is c =
    copied c.args.self.now c.rebuild.new.self c.args.cell c.in_ok-copy.copy c.in_ok-cells.cells.items c.unfold.new.seen c.known.ensures c.in_ok-cells.ensures
    (subst (λ (s : Shape). IsLater s c.rebuild.new.self) (wide c) c.in_ok-copy.ensures.later) (made c)

pub returns-clause-copy : goal.returns-clause-copy
returns-clause-copy c = copy_is (goal.at.returns-clause-copy c).In_ok-copy

pub returns-clause-later : goal.returns-clause-later
returns-clause-later c = (copy_is (goal.at.returns-clause-later c).In_ok-copy).later

pub rebuild-requires-clause-some : goal.rebuild-requires-clause-some
rebuild-requires-clause-some c =
    subst (λ (cs : List Cell). 1 ≤ length cs) (sym c.as_slice.ensures.value) (unfolding-some c.args.self.now c.args.cell c.in_ok-cells.cells.items c.unfold.new.seen c.in_ok-cells.ensures)

pub rebuild-requires-clause-met : goal.rebuild-requires-clause-met
rebuild-requires-clause-met c = subst (All (IsMet c.unfold.new.seen)) (sym c.as_slice.ensures.value) c.in_ok-cells.ensures.met
