use Rattle.std.proofs.Common.{◌≡◌, ◌++◌, codes, sym, subst}
use Rattle.std.proofs.lemmas.Result.{on_ok_weaker}
use Rattle.wam_machine.specs.declared.run.RunEnd.{RunEnd}
use Rattle.prolog_terms.specs.Tree.{integer}
use Rattle.prolog_writer.specs.Pieces.{written}
use Rattle.prolog_writer.specs.declared.style.Style.TheVariants.{Quoted}
use Rattle.prolog_session.specs.Output.{end_text, newline}
use Rattle.prolog_session.proofs.Pieces.{three_put}
use Rattle.prolog_session.proofs.texts.put_end.Goals as goal

pub returns-in_ok-put_code-in-Halted : goal.returns-in_ok-put_code-in-Halted
returns-in_ok-put_code-in-Halted c =
    on_ok_weaker c.put-in-Halted-2.result
    (λ e. subst (λ (end : RunEnd). c.put-in-Halted-2.new.text.items ≡ c.args.text.now.items ++ end_text c.args.ops.now c.args.events.now end) (sym c.in-Halted.is)
    (three_put c.args.text.now.items (codes "halted with ") (written c.args.ops.now Quoted 1200 (integer c.in-Halted.code)) (codes ".") newline _ _ _ c.in_ok-put-in-Halted.ensures c.in_ok-put_code-in-Halted.ensures e))
    c.put-in-Halted-2.ensures
