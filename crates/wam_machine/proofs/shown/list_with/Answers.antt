use Rattle.std.proofs.Common.{◌<◌, ◌-◌, arith, refl, sym, ap, get_or, length}
use Rattle.prolog_terms.specs.declared.shown.Shown.{Shown}
use Rattle.wam_machine.proofs.ShownCells.{nothing_listed, pair_cells, one_listed, all_listed}
use Rattle.wam_machine.proofs.shown.list_with.Goals as goal

pub loop-left-init : goal.loop-left-init
loop-left-init c = record {
  within = omega arith;
  listed = nothing_listed c.args.names.now c.args.store.now c.args.end c.args.shown.now _ c.requires.named c.requires.end c.requires.empty refl;
}

pub compound-requires-clause-valid : goal.compound-requires-clause-valid
compound-requires-clause-valid c =
    let here : c.loop-left.left - 1 < length c.args.shown.now = omega (arith, c.loop-left.invariant.within, c.loop-left-test.true) in
    pair_cells c.args.names.now c.args.store.now c.loop-left.store c.loop-left.list c.args.dot (get_or c.args.shown.now (c.loop-left.left - 1) c.index-shown-left.result).var _
    c.loop-left.invariant.listed (c.requires.shown (c.loop-left.left - 1) c.index-shown-left.result here)

pub loop-left-preserved : goal.loop-left-preserved
loop-left-preserved c =
    let here : c.loop-left.left - 1 < length c.args.shown.now = omega (arith, c.loop-left.invariant.within, c.loop-left-test.true) in
    record {
      within = omega arith;
      listed = one_listed c.args.names.now c.args.store.now c.loop-left.store c.loop-left.list c.args.dot (get_or c.args.shown.now (c.loop-left.left - 1) c.index-shown-left.result).var
          c.args.shown.now c.index-shown-left.result c.loop-left.left (c.loop-left.left - 1) c.compound.new.self c.in_ok-list.list c.loop-left.invariant.within c.loop-left-test.true refl
          c.index-shown-left.is c.loop-left.invariant.listed c.known.ensures c.requires.dot (c.requires.shown (c.loop-left.left - 1) c.index-shown-left.result here)
          (ap (λ (s : Shown). s.var) (sym c.index-shown-left.is)) c.in_ok-list.ensures.ok c.in_ok-list.ensures.cell;
    }

pub returns-clause-term : goal.returns-clause-term
returns-clause-term c = all_listed c.args.names.now c.args.store.now c.loop-left.store c.loop-left.list c.args.shown.now c.loop-left.left c.loop-left-test.false c.loop-left.invariant.listed
