-- What follows where two sides were made one, and where they have no unifier.
use Rattle.std.proofs.Common.{◌≡◌, ℕ, refl, ap, ◌∙◌, Bool, true, false}
use Rattle.prolog_terms.specs.Tree.{Tree}
use Rattle.journal_base.specs.View.{View}
use Rattle.term_store.specs.declared.cell.Cell.{Cell}
use Rattle.wam_machine.specs.States.{State, Setting, Goes, ToErase}
use Rattle.wam_machine.specs.Procedures.{serving}
use Rattle.wam_machine.specs.Terms.{use_of}
use Rattle.wam_machine.specs.View.{setting, state_of, IsFronted, Asks, where_met}
use Rattle.wam_machine.specs.declared.state.Host.{Host}
use Rattle.wam_machine.specs.declared.state.Machine.{Machine}
use Rattle.wam_machine.specs.declared.state.Mode.TheVariants.{Failing as IsFailing}
use Rattle.wam_machine.specs.declared.terms.Purpose.TheVariants as purpose_is
use Rattle.wam_machine.specs.declared.terms.Use.{Use}
use Rattle.wam_machine.specs.declared.terms.Use.TheVariants as use_is
use Rattle.wam_machine.proofs.Asked.{asks_as, asks_quiet}

module _ {C : Type 0} (h : Host) (old : Machine C) (tree : Cell → Tree) (used : Use) (k : ℕ) (met : Bool) where
  -- they have none
  pub serves_apart : (v : View) → met ≡ false → IsFronted v old.front → Asks v v (λ j s. where_met (setting h old j) (use_of tree used) k s met) old (record old { mode = IsFailing })
  serves_apart v is front =
      asks_quiet v v (λ j s. where_met (setting h old j) (use_of tree used) k s met) old (record old { mode = IsFailing }) refl front refl
      (λ j b rest at deeds tried fs. ap (where_met (setting h old j) (use_of tree used) k (state_of rest at j old deeds tried fs)) is)

  -- nothing further is asked
  pub serves_quiet : (v : View) (u : Use) → met ≡ true → used ≡ u → ((x : Setting) (s : State) → where_met x (use_of tree u) k s true ≡ Goes s) → IsFronted v old.front
      → Asks v v (λ j s. where_met (setting h old j) (use_of tree used) k s met) old old
  serves_quiet v u is same quiet front =
      asks_quiet v v (λ j s. where_met (setting h old j) (use_of tree used) k s met) old old refl front refl
      (λ j b rest at deeds tried fs.
      let s = state_of rest at j old deeds tried fs in
      ap (where_met (setting h old j) (use_of tree used) k s) is ∙ ap (λ (w : Use). where_met (setting h old j) (use_of tree w) k s true) same ∙ quiet (setting h old j) s)

  -- it is erased
  pub serves_erased : (v w : View) (new : Machine C) (body : Cell) → met ≡ true → used ≡ use_is.Match purpose_is.Erase body → Asks v w (λ j s. serving (setting h old j) ToErase k s) old new
      → Asks v w (λ j s. where_met (setting h old j) (use_of tree used) k s met) old new
  serves_erased v w new body is erase a =
      asks_as v w (λ j s. serving (setting h old j) ToErase k s) (λ j s. where_met (setting h old j) (use_of tree used) k s met) old new
      (λ j b s. ap (where_met (setting h old j) (use_of tree used) k s) is ∙ ap (λ (u : Use). where_met (setting h old j) (use_of tree u) k s true) erase) a
