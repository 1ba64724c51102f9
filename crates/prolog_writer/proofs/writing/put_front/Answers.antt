use Rattle.std.proofs.Common.{◌+◌, ◌∙◌, sym, ap, drop}
use Rattle.prolog_writer.specs.Spaces.{all_added}
use Rattle.prolog_writer.specs.Frames.{Walk, node_pieces, walk}
use Rattle.prolog_writer.proofs.Joined.{all_added-append}
use Rattle.prolog_writer.proofs.Walks.{walk_more}
use Rattle.prolog_writer.proofs.writing.put_front.Goals as goal

pub loop-node-preserved : goal.loop-node-preserved
loop-node-preserved c =
    let o = c.args.manner.ops.now in
    let s = c.args.manner.style in
    let w = c.args.manner.outer in
    let ns = c.args.nodes.now in
    let more = walk_more o s w ns c.loop-node.node-index c.node-item.result c.loop-node.frames c.put_node.new.frames c.loop-node-test.true c.node-item.is c.in_ok-put_node.ensures.frames
    (sym c.is_empty.ensures ∙ c.if-is_empty.false) in
    let after : Walk = walk o s w c.put_node.new.frames (drop (c.loop-node.node-index + 1) ns) in
    record {
      count = ap (λ n. n + 1) c.loop-node.invariant.count;
      text = ap (λ t. all_added t after.pieces) c.in_ok-put_node.ensures.text
          ∙ sym (all_added-append c.loop-node.out (node_pieces o s w c.loop-node.frames c.node-item.result) after.pieces)
          ∙ ap (λ (x : Walk). all_added c.loop-node.out x.pieces) (sym more)
          ∙ c.loop-node.invariant.text;
      left = ap (λ (x : Walk). x.left) (sym more) ∙ c.loop-node.invariant.left;
    }
