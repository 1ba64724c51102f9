use Rattle.std.proofs.Common.{◌++◌, List, reverse, sym, ap, arith}
use Rattle.term_store.specs.declared.cell.Cell.TheVariants.{Variable}
use Rattle.term_store.specs.declared.solve.Pair.{Pair}
use Rattle.term_store.proofs.Compared.{drop_pairs-all, pushed-back}
use Rattle.term_store.proofs.compare.push_pairs_back.Goals as goal

pub loop-at-init : goal.loop-at-init
loop-at-init c =
    let e = c.min-at.ensures in record {
      left = omega (arith, e);
      right = omega (arith, e);
      pushed = sym (ap (λ (ps : List Pair). ps ++ reverse c.args.todo.now.items) (drop_pairs-all c.args.left.now c.args.right.now c.min-at.result (omega (arith, e))));
    }

pub loop-at-preserved : goal.loop-at-preserved
loop-at-preserved c =
    let some = c.loop-at-test.true in let low = c.loop-at.invariant.left in let short = c.loop-at.invariant.right in record {
      left = omega (arith, low);
      right = omega (arith, short);
      pushed = pushed-back c.args.left.now c.args.right.now c.args.todo.now.items c.loop-at.todo.items c.push.new.self.items c.loop-at.at (Variable 0) (omega (arith, some)) low short
          c.loop-at.invariant.pushed c.in_ok-push.ensures.items;
    }
