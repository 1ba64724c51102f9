use Rattle.std.proofs.Common.{◌+◌, ◌∙◌, ◌≡◌, ℕ, Option, None, Some, ap, sym}
use Rattle.std.specs.Prelude.{IfSome}
use Rattle.prolog_terms.specs.declared.entry.Clause.{Clause}
use Rattle.prolog_terms.specs.declared.entry.End.{End}
use Rattle.prolog_terms.specs.declared.entry.What.TheVariants.{Add}
use Rattle.journal_base.specs.Space.{need, clause_words}
use Rattle.journal_base.proofs.CountedKeys.{clause_sum, checked}
use Rattle.journal_base.proofs.Kept.{need-add}
use Rattle.journal_base.proofs.space.addition_words.Goals as goal

needed : (o : Option ℕ) (c : Clause) → IfSome o (λ n. n ≡ 4 + clause_words c) → IfSome o (λ n. (e : End) (p : ℕ) → n ≡ need (Add e p c))
needed None c h = tt
needed (Some n) c h = λ e p. h ∙ sym (need-add e p c)

pub returns : goal.returns
returns c =
    needed c.checked_add-2.result c.args.clause.now
    (checked _ c.checked_add-2.result _ _ c.checked_add-2.ensures
    (ap (λ n. n + (6 + c.count_keys.result)) c.in_ok-words.ensures.1
    ∙ clause_sum c.args.clause.now _ _ _ _ _ _ c.nodes.ensures.nodes c.nodes-2.ensures.nodes c.nodes-3.ensures.nodes c.in_ok-head.ensures c.in_ok-body.ensures c.count_keys.ensures.keys))
