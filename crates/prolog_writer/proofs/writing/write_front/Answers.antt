use Rattle.std.proofs.Common.{◌≡◌, ℕ, ◌+◌, length, length-append, length-drop, drop, List, [], ◌∙◌, ap, arith}
use Rattle.prolog_terms.specs.declared.node.Node.{Node}
use Rattle.prolog_terms.specs.Flat.{nodes as nodes_of}
use Rattle.prolog_writer.specs.declared.shape.Place.TheVariants.{Within}
use Rattle.prolog_writer.specs.Spaces.{Writing, all_added, no_piece_yet}
use Rattle.prolog_writer.specs.Pieces.{pieces, written}
use Rattle.prolog_writer.specs.Frames.{Walk, walk}
use Rattle.prolog_writer.proofs.Joined.{all_added-text}
use Rattle.prolog_writer.proofs.Walks.{walk_front}
use Rattle.prolog_writer.proofs.writing.write_front.Goals as goal

pub returns-clause-text : goal.returns-clause-text
returns-clause-text c t rest h e =
    let o = c.args.ops.now in
    let s = c.args.style in
    let w = Within c.args.max in
    let old = c.args.text.now.items in
    c.into_text.ensures
    ∙ ap (λ (x : Writing). x.text) (
    c.in_ok-count.ensures.text
    ∙ ap (λ (x : Writing). all_added x (walk o s w [] c.args.nodes.now).pieces) c.behind-out.ensures
    ∙ ap (λ (x : List ℕ). all_added (no_piece_yet x) (walk o s w [] c.args.nodes.now).pieces) (ap (λ v. v.items) c.replace.ensures.value)
    ∙ ap (λ (x : Walk). all_added (no_piece_yet old) x.pieces) (ap (walk o s w []) e ∙ walk_front o s w t rest h)
    )
    ∙ all_added-text (no_piece_yet old) (pieces o s w t)

pub returns-clause-count : goal.returns-clause-count
returns-clause-count c t rest h e =
    let walked = ap (walk c.args.ops.now c.args.style (Within c.args.max) []) e ∙ walk_front c.args.ops.now c.args.style (Within c.args.max) t rest h in
    let left : length (drop c.in_ok-count.count c.args.nodes.now) ≡ length rest = ap (length {A = Node}) (c.in_ok-count.ensures.left ∙ ap (λ (x : Walk). x.left) walked) in
    let whole : length c.args.nodes.now ≡ length (nodes_of t) + length rest = ap (length {A = Node}) e ∙ length-append (nodes_of t) rest in
    omega (arith, left, whole, length-drop c.in_ok-count.count c.args.nodes.now, c.in_ok-count.ensures.within)

pub returns-clause-read_again : goal.returns-clause-read_again
returns-clause-read_again c t rest h w e quotes =
    let o = c.args.ops.now in
    (written o c.args.style c.args.max t, returns-clause-text c t rest h e, c.written_is_read_again.ensures o c.args.style c.args.max t c.known.ensures.table quotes h w)
