use Rattle.std.proofs.Common.{◌<◌, [], arith, sym, ap, ◌∙◌}
use Rattle.term_store.specs.declared.cell.Cell.{Cell}
use Rattle.term_store.specs.Terms.{IsCell, IsNamed, raw_by}
use Rattle.term_store.specs.Work.{rank}
use Rattle.prolog_terms.specs.Substitutions.{substituted}
use Rattle.term_store.proofs.Values.{bound-in, bound-older, older-rank, bound-Solves}
use Rattle.term_store.proofs.store.Store.follow.Goals as goal

pub loop-cell-smaller : goal.loop-cell-smaller
loop-cell-smaller c =
    let older = bound-older (λ n. []) c.args.self.now.compounds c.args.self.now.bindings c.in-Variable.variable c.in-Some.next (c.known.ensures.triangular (λ n. [])) (sym c.in-Some.ensures.slot) in
    let h = older-rank c.in-Variable.variable c.in-Some.next older in
    let e = ap rank c.in-Variable.is in omega (arith, h, e)

pub loop-cell-preserved : goal.loop-cell-preserved
loop-cell-preserved c = record {
  valid = (bound-in (λ b. (b.0 < c.args.self.now.variables) × IsCell c.args.self.now b.1) c.args.self.now.bindings c.in-Variable.variable c.in-Some.next c.known.ensures.bindings (sym c.in-Some.ensures.slot)).1;
  named = λ count named was. bound-in (λ b. IsNamed count b.1) c.args.self.now.bindings c.in-Variable.variable c.in-Some.next named.bindings (sym c.in-Some.ensures.slot);
  same = λ name s k.
      bound-Solves name c.args.self.now.compounds s c.args.self.now.bindings c.in-Variable.variable c.in-Some.next k (sym c.in-Some.ensures.slot)
      ∙ sym (ap (λ (d : Cell). substituted s (raw_by name c.args.self.now.compounds d)) c.in-Variable.is) ∙ c.loop-cell.invariant.same name s k;
}
