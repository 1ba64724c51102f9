use Rattle.std.proofs.Common.{List, sym, ap, ◌∙◌, subst}
use Rattle.std.proofs.lemmas.Result.{IfOk-weaker}
use Rattle.prolog_terms.specs.Tree.{count}
use Rattle.prolog_terms.specs.Flat.{forest}
use Rattle.prolog_terms.specs.declared.node.Node.{Node}
use Rattle.term_store.specs.Terms.{raw}
use Rattle.term_store.specs.Puts.{shifted, AreFit}
use Rattle.term_store.proofs.Laws.{at-want, taken-back}
use Rattle.term_store.proofs.Puts.{fit-term, forest-term, forest-only, grows-later}
use Rattle.term_store.proofs.store.Store.put.Goals as goal

pub put_nodes-requires-clause-one : goal.put_nodes-requires-clause-one
put_nodes-requires-clause-one c = ap (λ (ns : List Node). count (forest ns)) c.nodes.ensures.nodes ∙ ap count (forest-term c.args.term.now)

pub put_nodes-requires-clause-fit : goal.put_nodes-requires-clause-fit
put_nodes-requires-clause-fit c =
    subst (AreFit c.args.self.now.variables c.args.from) (sym c.nodes.ensures.nodes) (fit-term c.args.self.now.variables c.args.from c.args.term.now c.requires.variables c.nodes.ensures.arities)

pub returns-clause-term : goal.returns-clause-term
returns-clause-term c =
    IfOk-weaker c.put_nodes.result _ _ (λ d h. forest-only (shifted c.args.from) c.args.term.now (raw c.put_nodes.new.names c.put_nodes.new.self d) c.nodes.result.now c.nodes.ensures.nodes h) c.put_nodes.ensures.term

pub returns-clause-want : goal.returns-clause-want
returns-clause-want c = at-want c.put_nodes.result _ (taken-back c.args.self.now c.put_nodes.new.self (grows-later c.args.self.now c.put_nodes.new.self _ _ c.put_nodes.ensures.grows))
