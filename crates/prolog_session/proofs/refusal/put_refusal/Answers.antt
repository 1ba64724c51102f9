use Rattle.std.proofs.Common.{append_assoc}
use Rattle.prolog_session.specs.Errors.{refusal_text}
use Rattle.prolog_session.proofs.refusal.put_refusal.Goals as goal

pub returns : goal.returns
unfolding refusal_text
returns c =
    rw (c.in_ok-put-3.ensures, c.in_ok-put_number-2.ensures, c.in_ok-put-2.ensures, c.in_ok-put_number.ensures, c.in_ok-put.ensures) (simp (append_assoc, c.into.ensures, c.into-2.ensures))
