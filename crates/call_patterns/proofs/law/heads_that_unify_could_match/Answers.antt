use Rattle.call_patterns.proofs.Matched.{one_terms_match}
use Rattle.call_patterns.proofs.law.heads_that_unify_could_match.Goals as goal

pub returns : goal.returns
returns c = one_terms_match
