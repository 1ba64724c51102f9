use Rattle.term_store.specs.Terms.{text}
use Rattle.term_store.proofs.Seen.{sees-raw}
use Rattle.term_store.proofs.store.Store.node.Goals as goal

pub returns-clause-raw : goal.returns-clause-raw
returns-clause-raw c = λ texts. sees-raw c.args.self.now c.args.cell c.see.result c.known.ensures c.see.ensures (text texts)
