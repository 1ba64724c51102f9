use Rattle.std.proofs.Common.{[], ◌∙◌, sym, append-nil}
use Rattle.prolog_terms.specs.Flat.{nodes as nodes_of}
use Rattle.prolog_session.proofs.texts.put_ball.Goals as goal

pub returns : goal.returns
returns c = c.in_ok-write_front.ensures.text c.args.ball.now [] c.nodes.ensures.arities (c.nodes.ensures.nodes ∙ sym (append-nil (nodes_of c.args.ball.now)))
