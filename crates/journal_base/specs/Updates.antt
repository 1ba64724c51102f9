-- What an update answers, and what it does to what the base shows.
use Rattle.std.specs.Prelude.{◌≡◌, ℕ, ◌+◌, ◌<◌, ◌⊎◌, length, Some, None, slice_get, true, false}
use Rattle.prolog_terms.specs.declared.entry.Kind.{Kind}
use Rattle.prolog_terms.specs.declared.entry.Indicator.{Indicator}
use Rattle.prolog_terms.specs.declared.entry.Entry.{Entry}
use Rattle.prolog_terms.specs.declared.entry.What.{What}
use Rattle.prolog_terms.specs.declared.entry.What.TheVariants.{Declare, Erase}
use Rattle.journals.specs.Journal.{procedure_named, is_erased, erases}
use Rattle.journal_base.specs.Space.{used, need}
use Rattle.journal_base.specs.View.{View, Looks, Appends, InSeen}
use Rattle.journal_base.specs.declared.answers.Declared.{Declared}
use Rattle.journal_base.specs.declared.answers.Declared.TheVariants as declared
use Rattle.journal_base.specs.declared.answers.Added.{Added}
use Rattle.journal_base.specs.declared.answers.Added.TheVariants as added
use Rattle.journal_base.specs.declared.answers.Erased.{Erased}
use Rattle.journal_base.specs.declared.answers.Erased.TheVariants as erased

-- the journal now seen uses so many words and is so long, and there is no room for an update
pub record IsFull (v : View) (what : What) (used' need' updates : ℕ) : Type 0 where
  pub needs : need what ≡ need'
  pub seen : InSeen v (λ J. (used J ≡ used') × (length J ≡ updates))
  pub full : (v.words < used' + need') ⊎ (updates ≡ v.updates)

abbrev pub IsDeclared : View → View → Indicator → Kind → Declared → Type 0
IsDeclared old new i k (declared.Done p) = Appends old new (Declare i k) × InSeen new (λ J. procedure_named J i ≡ Some (p, k))
IsDeclared old new i k (declared.Already p d) = Looks old new × InSeen new (λ J. procedure_named J i ≡ Some (p, d))
IsDeclared old new i k (declared.Full u n g) = Looks old new × InSeen new (λ J. procedure_named J i ≡ None) × IsFull new (Declare i k) u n g
IsDeclared old new i k declared.Want = Looks old new

abbrev pub IsAdded : View → View → What → Added → Type 0
IsAdded old new what (added.Done k) = Appends old new what × (new.seen ≡ k + 1)
IsAdded old new what (added.Full u n g) = Looks old new × IsFull new what u n g
IsAdded old new what added.Want = Looks old new

abbrev pub IsErased : View → View → ℕ → Erased → Type 0
IsErased old new k erased.Done = Appends old new (Erase k)
IsErased old new k (erased.Gone e) = Looks old new × InSeen new (λ J. (x : Entry) × ((slice_get J e ≡ Some x) × (erases k x.what ≡ true)))
IsErased old new k (erased.Full g) = Looks old new × InSeen new (λ J. (length J ≡ g) × (is_erased J k ≡ false)) × (g ≡ new.updates)
