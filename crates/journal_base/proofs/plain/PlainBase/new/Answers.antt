use Rattle.std.proofs.Common.{◌≡◌, [], length, refl, sym, subst, arith}
use Rattle.std.proofs.lemmas.Grind.{common_steps}
use Rattle.journals.specs.Journal.{procedures}
use Rattle.journal_base.specs.Legal.{Legal}
use Rattle.journal_base.specs.Space.{used}
use Rattle.journal_base.specs.PlainInside.{AreFound}
use Rattle.journal_base.proofs.Entries.{Legal-nil}
use Rattle.journal_base.proofs.plain.PlainBase.new.Goals as goal

used-nil : 0 ≡ used []
unfolding used
used-nil = refl

pub invariant_of-result : goal.invariant_of-result
invariant_of-result c = record {
  sizes = c.requires;
  legal = subst (Legal c.args.sizes.words c.args.sizes.updates) (sym c.new.ensures) (Legal-nil _ _);
  found_in = subst (λ J. AreFound J c.new-2.result) (sym c.new.ensures) (λ i. grind (arith, common_steps));
  counted = subst (λ J. 0 ≡ length (procedures J)) (sym c.new.ensures) refl;
  summed = subst (λ J. 0 ≡ used J) (sym c.new.ensures) used-nil;
}
