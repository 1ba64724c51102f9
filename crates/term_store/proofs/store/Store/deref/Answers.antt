use Rattle.term_store.specs.Terms.{text}
use Rattle.term_store.proofs.Values.{value-same}
use Rattle.term_store.proofs.Seen.{sees-free}
use Rattle.term_store.proofs.store.Store.deref.Goals as goal

pub returns-clause-looks : goal.returns-clause-looks
returns-clause-looks c = λ view sees. record {
  cell = c.follow.result;
  valid = c.follow.ensures.valid;
  named = c.follow.ensures.named;
  sees = sees;
  free = sees-free c.args.self.now c.follow.result view sees c.follow.ensures.free;
  same = λ name. value-same name c.args.self.now c.follow.result c.args.cell c.follow.ensures.formed (c.follow.ensures.same name);
}

pub returns-clause-term : goal.returns-clause-term
returns-clause-term c = λ texts. value-same (text texts) c.args.self.now c.follow.result c.args.cell c.follow.ensures.formed (c.follow.ensures.same (text texts))
