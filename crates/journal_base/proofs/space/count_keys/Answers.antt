use Rattle.std.proofs.Common.{◌∙◌, sym, arith}
use Rattle.prolog_terms.specs.Flat.{tree}
use Rattle.journal_base.proofs.CountedKeys.{with_key, without_key, all_keys}
use Rattle.journal_base.proofs.space.count_keys.Goals as goal
use Rattle.journal_base.proofs.space.count_keys.Goals.{then-has_key, else-has_key}

pub loop-position-preserved : goal.loop-position-preserved
loop-position-preserved c = elim c.if-has_key.branch [
  | then-has_key w ↦ record {
    counted = w.count-is ∙ with_key c.args.nodes.now c.requires c.loop-position.position c.position_at.result c.position_at.ensures.place c.loop-position.count c.loop-position.invariant.counted (sym w.if-has_key.true ∙ c.has_key.ensures);
    few = omega arith;
  }
  | else-has_key w ↦ record {
    counted = w.count-is ∙ without_key c.args.nodes.now c.requires c.loop-position.position c.position_at.result c.position_at.ensures.place c.loop-position.count c.loop-position.invariant.counted (sym w.if-has_key.false ∙ c.has_key.ensures);
    few = omega arith;
  }
]

pub returns-clause-keys : goal.returns-clause-keys
returns-clause-keys c = all_keys (tree c.args.nodes.now) c.loop-position.position c.loop-position.count (omega arith) c.loop-position.invariant.counted
