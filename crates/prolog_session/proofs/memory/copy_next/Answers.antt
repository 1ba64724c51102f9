use Rattle.std.proofs.Common.{◌+◌, ◌≤◌, length, arith}
use Rattle.prolog_session.proofs.Pieces.{copied_then_left}
use Rattle.prolog_session.proofs.memory.copy_next.Goals as goal

pub returns-clause-moved : goal.returns-clause-moved
returns-clause-moved c =
    let within : c.args.at + c.min-count.result ≤ length c.args.bytes.now = omega arith in
    copied_then_left c.min-count.result c.args.at c.args.bytes.now _ _ within c.copy_from_slice.ensures.after
