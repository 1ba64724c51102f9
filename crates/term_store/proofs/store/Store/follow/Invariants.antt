use Rattle.std.proofs.Common.{◌≡◌, ℕ, List}
use Rattle.prolog_terms.specs.Tree.{Tree}
use Rattle.prolog_terms.specs.Substitutions.{substituted}
use Rattle.term_store.specs.Terms.{raw_by, bindings_by, IsCell, IsNamed, AreNamed}
use Rattle.term_store.specs.Work.{Solves, rank}
use Rattle.term_store.proofs.store.Store.follow.Given as goal

abbrev pub invariant-loop-cell : goal.invariant-loop-cell
invariant-loop-cell l = record {
  valid : IsCell l.self l.cell;
  named : (count : ℕ) → AreNamed count l.self → IsNamed count l.fn.cell → IsNamed count l.cell;
  same : (name : ℕ → List ℕ) (s : ℕ → Tree) → Solves s (bindings_by name l.self.compounds l.self.bindings)
      → substituted s (raw_by name l.self.compounds l.cell) ≡ substituted s (raw_by name l.self.compounds l.fn.cell);
}

abbrev pub decreases-loop-cell : goal.decreases-loop-cell
decreases-loop-cell l = rank l.cell
