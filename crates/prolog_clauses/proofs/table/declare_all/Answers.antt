use Rattle.std.proofs.Common.{arith}
use Rattle.prolog_clauses.proofs.Declared.{same_next, allowed_next}
use Rattle.prolog_clauses.proofs.table.declare_all.Goals as goal

pub loop-name-preserved : goal.loop-name-preserved
loop-name-preserved c =
    let p = c.args.declaration.now.priority in
    let k = c.args.declaration.now.kind in
    let names = c.items-names.result.now in
    let i = c.loop-name.name-index in
    let name = c.name-item.result in
    record {
      same = same_next p k names i name c.args.ops.now c.loop-name.ops c.declare_one.new.ops (omega arith) c.name-item.is c.loop-name.invariant.same c.in_ok-declare_one.ensures.ok;
      allowed = allowed_next p k names i name c.loop-name.ops c.declare_one.new.ops (omega arith) c.name-item.is c.loop-name.invariant.allowed c.in_ok-declare_one.ensures.alone;
    }
