-- What the call of a builtin on terms does to what the engine's terms say.
use Rattle.std.specs.Prelude.{◌≡◌, ℕ, ◌+◌, true, false, []}
use Rattle.prolog_terms.specs.Tree.{Trees}
use Rattle.prolog_terms.specs.Operators.{Table}
use Rattle.prolog_terms.specs.Faults.{fault_tree}
use Rattle.prolog_terms.specs.declared.entry.Indicator.{Indicator}
use Rattle.prolog_writer.specs.Pieces.{written}
use Rattle.term_builtins.specs.Answers.{row_at}
use Rattle.term_builtins.specs.Meanings.{Meaning, Holds, Equates, Writes, Puts, Raises, meaning}
use Rattle.term_builtins.specs.Table.{builtins, indicator}
use Rattle.wam_machine.specs.Terms.{Said, AreEquated}
use Rattle.wam_machine.specs.declared.builtins.Called.{Called}
use Rattle.wam_machine.specs.declared.builtins.Called.TheVariants.{Yes, No, Wrote, Ball}

-- what a builtin's call comes to was done, under these operators
abbrev pub IsCalled : {C : Type 0} → Table → Indicator → Meaning → Said C → Said C → Called → Type 0
IsCalled ops at (Holds b) old new Yes = (b ≡ true) × (new ≡ old)
IsCalled ops at (Holds b) old new No = (b ≡ false) × (new ≡ old)
IsCalled ops at (Equates added a b) old new Yes = AreEquated a b [] (record old { fresh = old.fresh + added }) new true
IsCalled ops at (Equates added a b) old new No = AreEquated a b [] (record old { fresh = old.fresh + added }) new false
IsCalled ops at (Writes style t) old new (Wrote bytes) = (bytes ≡ written ops style 1200 t) × (new ≡ old)
IsCalled ops at (Puts b) old new (Wrote bytes) = (bytes ≡ b) × (new ≡ old)
IsCalled ops at (Raises fault) old new (Ball t) = (t ≡ fault_tree fault at) × (new ≡ old)
IsCalled ops at m old new called = ⊥

-- the same of the builtin at a place of the table
unfoldable pub IsRowCalled : {C : Type 0} → Table → ℕ → Trees → Said C → Said C → Called → Type 0
IsRowCalled ops row args old new called = IsCalled ops (indicator (row_at builtins row)) (meaning (row_at builtins row).what old.fresh args) old new called
