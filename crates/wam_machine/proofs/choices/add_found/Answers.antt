use Rattle.std.proofs.Common.{◌≡◌, ◌-◌, ℕ, length, refl, sym, ap, arith, List}
use Rattle.std.proofs.lemmas.List.{length-map}
use Rattle.wam_machine.specs.Terms.{Saved, Said, said, saved_of, found_in}
use Rattle.wam_machine.proofs.Told.{at_err}
use Rattle.wam_machine.proofs.FoundKept.{terms-changed, said-found, stack-same, kept-more, turn-more, turn-still, turn-other, past-in}
use Rattle.wam_machine.proofs.choices.add_found.Goals.{then-height-eq0-via-then-height-eq0, then-height-eq0-via-else-height-eq0+then-height-len}
use Rattle.wam_machine.proofs.choices.add_found.Goals as goal

pub returns-then-height-eq0-clause-said : goal.returns-then-height-eq0-clause-said
unfolding said
returns-then-height-eq0-clause-said g c =
    let t = c.args.terms.now in
    let ss : List (Saved _) = (said t).stack in
    ap (λ (l : List (Saved _)). let r : Said _ = record (said t) { stack = l } in r)
    (elim c.then-height-eq0.branch [
      | then-height-eq0-via-then-height-eq0 w ↦ sym (ap (λ (n : ℕ). found_in n c.args.copy ss) w.if-height-eq0.true)
      | then-height-eq0-via-else-height-eq0+then-height-len w ↦
          let a = t.choices.ok.0 in
          let b = w.len.ensures in
          let d = w.if-height-len.true in
          let e : length ss ≡ length t.choices.items = length-map t.choices.items (saved_of t.names t.store t.frames.items) in
          sym (past-in c.args.height c.args.copy ss (omega (arith, a, b, d, e)))
    ])

pub returns-in_err-push-clause-terms : goal.returns-in_err-push-clause-terms
returns-in_err-push-clause-terms g c =
    let t = c.args.terms.now in
    let a = t.choices.ok.0 in
    let b = c.len.ensures in
    let d = c.if-height-eq0.false in
    let e = c.if-height-len.false in
    terms-changed t _ (c.args.height - 1) c.index_mut.result.now _ (omega (arith, a, b, d, e)) c.index_mut.ensures.value refl c.requires.terms
    (kept-more _ c.in-FindallMark.field-0 c.in-FindallMark.found c.push.new.self c.in-FindallMark.is t.names)

pub returns-in_err-push-clause-err : goal.returns-in_err-push-clause-err
returns-in_err-push-clause-err g c =
    let t = c.args.terms.now in
    let a = t.choices.ok.0 in
    let b = c.len.ensures in
    let d = c.if-height-eq0.false in
    let e = c.if-height-len.false in
    at_err c.from_residual.result _
    (stack-same t _ (c.args.height - 1) c.index_mut.result.now _ (omega (arith, a, b, d, e)) c.index_mut.ensures.value refl
    (turn-still _ c.in-FindallMark.field-0 c.in-FindallMark.found c.push.new.self c.in-FindallMark.is c.in_err-push.ensures.items))

pub returns-in_ok-push-clause-terms : goal.returns-in_ok-push-clause-terms
returns-in_ok-push-clause-terms g c =
    let t = c.args.terms.now in
    let a = t.choices.ok.0 in
    let b = c.len.ensures in
    let d = c.if-height-eq0.false in
    let e = c.if-height-len.false in
    terms-changed t _ (c.args.height - 1) c.index_mut.result.now _ (omega (arith, a, b, d, e)) c.index_mut.ensures.value refl c.requires.terms
    (kept-more _ c.in-FindallMark.field-0 c.in-FindallMark.found c.push.new.self c.in-FindallMark.is t.names)

pub returns-in_ok-push-clause-said : goal.returns-in_ok-push-clause-said
returns-in_ok-push-clause-said g c =
    let t = c.args.terms.now in
    let a = t.choices.ok.0 in
    let b = c.len.ensures in
    let d = c.if-height-eq0.false in
    let e = c.if-height-len.false in
    said-found t _ (c.args.height - 1) c.index_mut.result.now _ (omega (arith, a, b, d, e)) c.index_mut.ensures.value refl c.args.height c.args.copy (omega (arith, d))
    (turn-more _ c.in-FindallMark.field-0 c.in-FindallMark.found c.push.new.self c.in-FindallMark.is c.args.copy (c.in_ok-push.ensures).items)

pub returns-in_default : goal.returns-in_default
returns-in_default g c =
    let t = c.args.terms.now in
    let a = t.choices.ok.0 in
    let b = c.len.ensures in
    let d = c.if-height-eq0.false in
    let e = c.if-height-len.false in
    record {
      terms = terms-changed t _ (c.args.height - 1) c.index_mut.result.now c.index_mut.result.now.what (omega (arith, a, b, d, e)) c.index_mut.ensures.value refl c.requires.terms (λ u h. h);
      said = said-found t _ (c.args.height - 1) c.index_mut.result.now c.index_mut.result.now.what (omega (arith, a, b, d, e)) c.index_mut.ensures.value refl c.args.height c.args.copy (omega (arith, d))
          (turn-other c.index_mut.result.now.what c.args.copy (λ l f q. c.in_default.not-FindallMark l f q));
      err = tt;
    }
