-- What a load does with a read-term.
use Rattle.std.specs.Prelude.{◌≡◌, ℕ}
use Rattle.prolog_session.specs.declared.part.Part.{Part}
use Rattle.prolog_session.specs.declared.load.Loading.{Loading}
use Rattle.prolog_session.specs.Load.{items_of, operators_after, kept_after, Loads}
use Rattle.prolog_session.specs.Bases.{sizes_of, loaded_in}

-- the load has gone on by what the read-term has it do, each goal within the budget
pub record Takes (budget : ℕ) (old new : Loading) (part : Part) : Type 0 where
  pub base : new.base ≡ record old.base { entries = new.base.entries }
  pub loads : Loads (sizes_of old.base) budget (loaded_in old.base old.runs) (items_of part old.ops) (loaded_in new.base new.runs)
  pub operators : new.ops ≡ operators_after part old.ops
  pub kept : new.kept ≡ kept_after part old.kept
