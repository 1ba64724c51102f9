use Rattle.std.proofs.Common.{sym, ◌∙◌}
use Rattle.term_store.specs.Terms.{text}
use Rattle.term_store.proofs.Values.{value-same}
use Rattle.term_store.proofs.Seen.{sees-value, sees-free}
use Rattle.term_store.proofs.store.Store.look.Goals as goal

pub returns-clause-looks : goal.returns-clause-looks
returns-clause-looks c = record {
  cell = c.follow-end.result;
  valid = c.follow-end.ensures.valid;
  named = c.follow-end.ensures.named;
  sees = c.node.ensures.sees;
  free = sees-free c.args.self.now c.follow-end.result c.node.result c.node.ensures.sees c.follow-end.ensures.free;
  same = λ name. value-same name c.args.self.now c.follow-end.result c.args.cell c.follow-end.ensures.formed (c.follow-end.ensures.same name);
}

pub returns-clause-term : goal.returns-clause-term
returns-clause-term c = λ texts.
    sym (value-same (text texts) c.args.self.now c.follow-end.result c.args.cell c.follow-end.ensures.formed (c.follow-end.ensures.same (text texts)))
    ∙ sees-value c.args.self.now c.follow-end.result c.node.result c.follow-end.ensures.formed c.node.ensures.sees
    (sees-free c.args.self.now c.follow-end.result c.node.result c.node.ensures.sees c.follow-end.ensures.free) (text texts)
