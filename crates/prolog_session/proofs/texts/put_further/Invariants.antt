use Rattle.std.proofs.Common.{◌≡◌, ◌≤◌, ◌++◌, drop, length}
use Rattle.prolog_terms.specs.Tree.{Tree, HasArities}
use Rattle.prolog_terms.specs.Flat.{nodes}
use Rattle.prolog_session.specs.Output.{elements, further_text}
use Rattle.prolog_session.proofs.Answered.{Left}
use Rattle.prolog_session.proofs.texts.put_further.Given as goal

abbrev pub invariant-loop-variable : goal.invariant-loop-variable
invariant-loop-variable l = record {
  within : l.at ≤ length l.nodes;
  text : (t : Tree) → HasArities t → l.fn.nodes ≡ nodes t
      → Left l.ops (drop l.variable-index l.shown) (drop l.at l.nodes) l.text.items (l.fn.text.items ++ further_text l.ops l.fn.shown (elements t));
}
