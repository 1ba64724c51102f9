-- What the database is asked for, by its kind.
use Rattle.std.proofs.Common.{◌≡◌, ap}
use Rattle.prolog_terms.specs.Tree.{Tree}
use Rattle.prolog_clauses.specs.Formed.{parts_of}
use Rattle.term_store.specs.declared.cell.Cell.{Cell}
use Rattle.wam_machine.specs.Goals.{access_in}
use Rattle.wam_machine.specs.States.{State, Setting}
use Rattle.wam_machine.specs.Procedures.{accessing, inspecting, retracting, clearing, abolishing}
use Rattle.wam_machine.specs.Naming.{naming_of}
use Rattle.wam_machine.specs.declared.control.Access.{Access}
use Rattle.wam_machine.specs.declared.control.Access.TheVariants.{Inspect, Retract, RetractAll, Abolish}

module _ (x : Setting) (tree : Cell → Tree) (a : Access) (s : State) where
  pub access_inspects : (h b : Cell) → a ≡ Inspect h b → accessing x (access_in tree a) s ≡ inspecting x (tree h) (tree b) s
  unfolding accessing
  access_inspects h b e = ap (λ (o : Access). accessing x (access_in tree o) s) e

  pub access_retracts : (c : Cell) → a ≡ Retract c → accessing x (access_in tree a) s ≡ retracting x (parts_of (tree c)) s
  unfolding accessing
  access_retracts c e = ap (λ (o : Access). accessing x (access_in tree o) s) e

  pub access_clears : (h : Cell) → a ≡ RetractAll h → accessing x (access_in tree a) s ≡ clearing x (tree h) s
  unfolding accessing
  access_clears h e = ap (λ (o : Access). accessing x (access_in tree o) s) e

  pub access_abolishes : (n : Cell) → a ≡ Abolish n → accessing x (access_in tree a) s ≡ abolishing x s (naming_of (tree n))
  unfolding accessing
  access_abolishes n e = ap (λ (o : Access). accessing x (access_in tree o) s) e
