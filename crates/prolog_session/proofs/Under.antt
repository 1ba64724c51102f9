-- What was prepared of a text that was taken whole, and the operators behind it.
use Rattle.std.proofs.Common.{◌≡◌, ℕ, List, length, Option, Some, None, IsSome, refl, sym, ◌∙◌, ap, subst}
use Rattle.std.specs.Prelude.{◌≤◌}
use Rattle.std.specs.Io.KnownBytes.{Consumes, IsAtEnd}
use Rattle.prolog_terms.specs.Operators.{Table}
use Rattle.journals.specs.Journal.{Journal}
use Rattle.journal_base.specs.Legal.{Legal}
use Rattle.journal_base.specs.Plain.{Plain, plain_view}
use Rattle.journal_base.specs.View.{IsSound}
use Rattle.journal_base.specs.declared.sizes.Sizes.{Sizes}
use Rattle.wam_machine.specs.declared.run.Run.{Run}
use Rattle.prolog_session.specs.WholeText.{max_text}
use Rattle.prolog_session.specs.declared.refusal.Refusal.{Refusal}
use Rattle.prolog_session.specs.declared.words.Command.{Command}
use Rattle.prolog_session.specs.Load.{IsLoadOf, operators_of, refusal_of}
use Rattle.prolog_session.specs.Bases.{sizes_of, holding}
use Rattle.prolog_session.specs.Runs.{AreRunsBehind}
use Rattle.prolog_session.specs.Headline.{HasLoaded, HasRun}
use Rattle.prolog_session.specs.Prepared.{HasLoadedUnder}

pub has_command : (command : Option Command) (asked : Command) → command ≡ Some asked → IsSome command
has_command None asked e = absurd cc
has_command (Some other) asked e = refl

pub no_refusal : (found : Option Refusal) → ((r : Refusal) → found ≡ Some r → ⊥) → found ≡ None
no_refusal None h = refl
no_refusal (Some r) h = absurd (h r refl)

-- the text that was taken, as the load has it
abbrev IsTaken : Option (List ℕ) → Option (List ℕ) → List ℕ → Type 0
IsTaken old new text = (length text ≤ max_text) × Consumes old new text × IsAtEnd new

abbrev loaded : (sizes : Sizes) (budget : ℕ) (old new : Option (List ℕ)) (text bytes : List ℕ) (journal : Journal) (runs : List Run) (refused : Option Refusal)
    → IsTaken old new text → bytes ≡ text → IsLoadOf sizes budget bytes journal runs → Legal sizes.words sizes.updates journal → refused ≡ refusal_of bytes
    → HasLoaded sizes budget old new journal runs refused
loaded sizes budget old new text bytes journal runs refused h same l legal e =
    let taken : IsTaken old new bytes = subst (IsTaken old new) (sym same) h in
    record { text = bytes; took = record { fits = taken.0; took = taken.1; all = taken.2 }; loads = l; legal = legal; refused_is = sym e }

-- the journal of a base of these sizes
pub base_legal : (sizes : Sizes) (b : Plain) → b ≡ holding sizes b.entries → IsSound (plain_view b) → Legal sizes.words sizes.updates b.entries
base_legal sizes b is sound = subst (λ (z : Sizes). Legal z.words z.updates b.entries) (ap sizes_of is) (sound.each b.entries refl).legal

-- a text that is refused
pub refused_under : (sizes : Sizes) (command : Option Command) (asked : Command) (old new : Option (List ℕ)) (text bytes : List ℕ) (journal entries : Journal) (runs : List Run) (ops : Table)
    (found : Option Refusal) (refusal : Refusal) → IsTaken old new text → bytes ≡ text → journal ≡ entries → Legal sizes.words sizes.updates entries
    → IsLoadOf sizes asked.steps bytes entries runs → ops ≡ operators_of bytes → found ≡ refusal_of bytes → found ≡ Some refusal → command ≡ Some asked
    → HasLoadedUnder sizes command old new journal runs ops refusal
refused_under sizes command asked old new text bytes journal entries runs ops found refusal h same j all l o e is asks =
    let loads : IsLoadOf sizes asked.steps bytes journal runs = subst (λ (J : Journal). IsLoadOf sizes asked.steps bytes J runs) (sym j) l in
    let legal : Legal sizes.words sizes.updates journal = subst (Legal sizes.words sizes.updates) (sym j) all in
    record { asked = asked; asked_is = asks; loaded = loaded sizes asked.steps old new text bytes journal runs (Some refusal) h same loads legal (sym is ∙ e); operators = o }

-- a text that isn't, and the run of the goal over its journal
pub ran_under : (sizes : Sizes) (command : Option Command) (asked : Command) (old new : Option (List ℕ)) (text bytes : List ℕ) (journal : Journal) (b : Plain) (loads runs : List Run) (ops : Table)
    (found : Option Refusal) → IsTaken old new text → bytes ≡ text → b ≡ holding sizes b.entries → IsSound (plain_view b) → IsLoadOf sizes asked.steps bytes b.entries loads
    → ops ≡ operators_of bytes → found ≡ refusal_of bytes → found ≡ None → command ≡ Some asked → AreRunsBehind (sizes_of b) ops loads b.entries asked journal runs
    → Legal b.words b.updates journal → HasRun sizes command old new journal runs ops
ran_under sizes command asked old new text bytes journal b loads runs ops found h same holds sound l o e is asks behind legal =
    record {
      asked = asked;
      asked_is = asks;
      loads = loads;
      first = b.entries;
      loaded = loaded sizes asked.steps old new text bytes b.entries loads None h same l (base_legal sizes b holds sound) (sym is ∙ e);
      runs_are = subst (λ (z : Sizes). AreRunsBehind z ops loads b.entries asked journal runs) (ap sizes_of holds) behind;
      legal = subst (λ (z : Sizes). Legal z.words z.updates journal) (ap sizes_of holds) legal;
      operators = o;
    }
