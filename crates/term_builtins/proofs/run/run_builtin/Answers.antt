use Rattle.term_store.proofs.Laws.{taken-back}
use Rattle.term_builtins.proofs.run.run_builtin.Goals as goal

pub returns-in-Ok-clause-want : goal.returns-in-Ok-clause-want
returns-in-Ok-clause-want c = λ e. taken-back c.args.store.now c.try_run.new.store c.try_run.ensures.further.later

pub returns-in-Err-clause-want : goal.returns-in-Err-clause-want
returns-in-Err-clause-want c = λ e. taken-back c.args.store.now c.try_run.new.store c.try_run.ensures.further.later
