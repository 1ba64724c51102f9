use Rattle.std.proofs.Common.{◌≡◌, ℕ, length, refl, sym, ap, ap₂, ◌∙◌, subst, ◌++◌, List}
use Rattle.term_store.specs.declared.cell.Cell.{Cell}
use Rattle.term_store.specs.declared.cell.Cell.TheVariants.{Compound}
use Rattle.term_store.specs.declared.solve.Pair.{Pair}
use Rattle.term_store.specs.Terms.{row_at}
use Rattle.term_store.specs.Work.{IsStep, pairs_of}
use Rattle.term_store.proofs.WorkSteps.{step-delete, step-compounds, clash-name, clash-arity}
use Rattle.term_store.proofs.store.Store.solve_compounds.Goals as goal
use Rattle.term_store.proofs.store.Store.solve_compounds.Goals.{After-row-right_name}

left_name : (c : After-row-right_name) → (row_at c.args.self.now.compounds c.args.i).0 ≡ c.row-left_name.result.0
left_name c = ap (λ (row : ℕ × List Cell). row.0) c.row-left_name.ensures

right_name : (c : After-row-right_name) → (row_at c.args.self.now.compounds c.args.j).0 ≡ c.row-right_name.result.0
right_name c = ap (λ (row : ℕ × List Cell). row.0) c.row-right_name.ensures

left : (c : After-row-right_name) → (row_at c.args.self.now.compounds c.args.i).1 ≡ c.row-left_name.result.1.now
left c = ap (λ (row : ℕ × List Cell). row.1) c.row-left_name.ensures

right : (c : After-row-right_name) → (row_at c.args.self.now.compounds c.args.j).1 ≡ c.row-right_name.result.1.now
right c = ap (λ (row : ℕ × List Cell). row.1) c.row-right_name.ensures

pub returns-then-i-j : goal.returns-then-i-j
returns-then-i-j c = record { outcome = step-delete c.args.self.now (Compound c.args.i) (Compound c.args.j) (ap Compound c.if-i-j.true) c.args.work.now.items }

pub returns-then-left_name-right_name : goal.returns-then-left_name-right_name
returns-then-left_name-right_name c =
    let d = (goal.at.returns-then-left_name-right_name c).After-row-right_name in record {
      outcome = (
        refl,
        clash-name c.args.self.now c.args.i c.args.j c.known.ensures c.requires.left c.requires.right
            (λ e. c.if-left_name-right_name.true (sym (left_name d) ∙ e ∙ right_name d)),
      );
    }

pub returns-then-left-right : goal.returns-then-left-right
returns-then-left-right c =
    let d = (goal.at.returns-then-left-right c).After-row-right_name in record {
      outcome = (
        refl,
        clash-arity c.args.self.now c.args.i c.args.j c.known.ensures c.requires.left c.requires.right
            (λ e. c.if-left-right.true (sym (ap length (left d)) ∙ e ∙ ap length (right d))),
      );
    }

pub returns : goal.returns
returns c =
    let d = (goal.at.returns c).After-row-right_name in record {
      outcome =
          subst (λ (ps : List Pair). IsStep c.args.self.now c.args.self.now c.args.work.now.items ps (Compound c.args.i) (Compound c.args.j))
          (ap (λ (ps : List Pair). c.args.work.now.items ++ ps) (ap₂ pairs_of (left d) (right d)) ∙ sym c.in_ok-push_pairs.ensures)
          (step-compounds c.args.self.now c.args.i c.args.j c.known.ensures c.requires.left c.requires.right
          (left_name d ∙ c.if-left_name-right_name.false ∙ sym (right_name d))
          (ap length (left d) ∙ c.if-left-right.false ∙ sym (ap length (right d))) c.args.work.now.items);
    }
