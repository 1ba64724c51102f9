use Rattle.std.proofs.Common.{◌≡◌, [], drop}
use Rattle.prolog_writer.specs.Spaces.{all_added}
use Rattle.prolog_writer.specs.Frames.{walk}
use Rattle.prolog_writer.proofs.writing.put_front.Given as goal

abbrev pub invariant-loop-node : goal.invariant-loop-node
invariant-loop-node l = record {
  count : l.count ≡ l.node-index;
  text : all_added l.out (walk l.manner.ops.now l.manner.style l.manner.outer l.frames (drop l.node-index l.nodes)).pieces
      ≡ all_added l.fn.out (walk l.manner.ops.now l.manner.style l.manner.outer [] l.nodes).pieces;
  left : (walk l.manner.ops.now l.manner.style l.manner.outer l.frames (drop l.node-index l.nodes)).left ≡ (walk l.manner.ops.now l.manner.style l.manner.outer [] l.nodes).left;
}
