use Rattle.prolog_clauses.proofs.Laws.{made_clause, made_renaming}
use Rattle.prolog_clauses.proofs.Only.{made_only}
use Rattle.prolog_clauses.proofs.law.clauses_are_renamings.Goals as goal

pub returns-clause-clause : goal.returns-clause-clause
returns-clause-clause c = made_clause

pub returns-clause-renaming : goal.returns-clause-renaming
returns-clause-renaming c = made_renaming

pub returns-clause-only : goal.returns-clause-only
returns-clause-only c = made_only
