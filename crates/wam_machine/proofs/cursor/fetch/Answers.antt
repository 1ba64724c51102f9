use Rattle.std.proofs.Common.{◌≡◌, ◌≤◌, Some, sym, ap, ◌∙◌, arith, take}
use Rattle.std.specs.Prelude.{is_some}
use Rattle.std.proofs.lemmas.Result.{IfOk-weaker}
use Rattle.prolog_terms.specs.Clauses.{IsClause}
use Rattle.journals.specs.Journal.{Journal, clause_named}
use Rattle.journal_base.specs.View.{InSeen}
use Rattle.wam_machine.specs.Cursors.{Begins}
use Rattle.wam_machine.proofs.Begins.{begins_self, begins_before, seen_in}
use Rattle.wam_machine.proofs.Named.{clause_stays, clause_is}
use Rattle.wam_machine.proofs.cursor.fetch.Goals as goal

pub fetch-requires : goal.fetch-requires
fetch-requires g c J s =
    let named = c.requires.named J (begins_self _ J s) in
    let le = g.met.B.Base.looked_seen _ _ _ c.requires.serves.1 in
    ap is_some (clause_stays J _ _ _ le named) ∙ named

pub returns-clause-clause : goal.returns-clause-clause
returns-clause-clause g c =
    let new = g.B.Base.view c.fetch.new.self in
    let at = g.B.Base.looked_at c.args.call.now.cursor in
    let low : at ≤ (g.B.Base.view c.args.base.now).seen = g.met.B.Base.looked_seen _ _ _ c.requires.serves.1 in
    let le : at ≤ new.seen = omega (arith, c.fetch.ensures.seen.grows.front) in
    IfOk-weaker c.fetch.result (λ x. InSeen new (λ J. clause_named J c.args.name ≡ Some x))
    (λ x. (j : Journal) → Begins new j → clause_named (take at j) c.args.name ≡ Some x)
    (λ x p j b. sym (clause_stays j at new.seen c.args.name le (c.requires.named j (begins_before _ new j c.fetch.ensures.seen.grows b)))
    ∙ seen_in new (λ J. clause_named J c.args.name ≡ Some x) j p b)
    c.fetch.ensures.clause

pub returns-clause-body : goal.returns-clause-body
returns-clause-body g c =
    let new = g.B.Base.view c.fetch.new.self in
    IfOk-weaker c.fetch.result (λ x. InSeen new (λ J. clause_named J c.args.name ≡ Some x)) IsClause
    (λ x p. clause_is new c.args.name x c.fetch.ensures.seen.grows.sound p)
    c.fetch.ensures.clause
