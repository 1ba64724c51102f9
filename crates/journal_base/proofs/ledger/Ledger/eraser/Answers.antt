use Rattle.std.proofs.Common.{◌≡◌, ◌∙◌, true, false, Some, slice_get, refl, sym, ap, subst}
use Rattle.prolog_terms.specs.declared.entry.Entry.{Entry}
use Rattle.journals.specs.Journal.{erases, is_erased}
use Rattle.journal_base.specs.Held.{Held}
use Rattle.journal_base.specs.declared.fate.Fate.TheVariants.{NoClause, Alive}
use Rattle.journal_base.proofs.Fated.{not_erased, eraser_there}
use Rattle.journal_base.proofs.ledger.Ledger.eraser.Goals as goal

pub returns-in-NoClause-clause-none : goal.returns-in-NoClause-clause-none
returns-in-NoClause-clause-none c = λ _.
    subst (λ (h : Held). is_erased h.entries c.args.clause ≡ false) c.self.view_is
    (not_erased c.self.inside.entries.items c.self.inside.fates.items c.self.invariant.fates c.args.clause NoClause
    (ap (λ l. slice_get l c.args.clause) (sym c.as_slice.ensures.value) ∙ c.in-NoClause.ensures) (λ front. refl))

pub returns-in-Alive-clause-none : goal.returns-in-Alive-clause-none
returns-in-Alive-clause-none c = λ _.
    subst (λ (h : Held). is_erased h.entries c.args.clause ≡ false) c.self.view_is
    (not_erased c.self.inside.entries.items c.self.inside.fates.items c.self.invariant.fates c.args.clause Alive
    (ap (λ l. slice_get l c.args.clause) (sym c.as_slice.ensures.value) ∙ c.in-Alive.ensures) (λ front. refl))

pub returns-in-ErasedBy-clause-some : goal.returns-in-ErasedBy-clause-some
returns-in-ErasedBy-clause-some c =
    subst (λ (h : Held). (x : Entry) × ((slice_get h.entries c.in-ErasedBy.at ≡ Some x) × (erases c.args.clause x.what ≡ true))) c.self.view_is
    (eraser_there c.self.inside.entries.items c.self.inside.fates.items c.self.invariant.fates c.args.clause c.in-ErasedBy.at
    (ap (λ l. slice_get l c.args.clause) (sym c.as_slice.ensures.value) ∙ c.in-ErasedBy.ensures))
