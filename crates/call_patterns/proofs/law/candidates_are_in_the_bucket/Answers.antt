use Rattle.std.proofs.Common.{length, ap, sym, ◌∙◌}
use Rattle.std.proofs.lemmas.List.{length-map}
use Rattle.call_patterns.specs.declared.row.Row.{Row}
use Rattle.call_patterns.specs.Patterns.{pattern, pattern_codes}
use Rattle.call_patterns.specs.Rows.{bucket, rows}
use Rattle.call_patterns.proofs.Bucketed.{candidates_in_bucket, all_agree}
use Rattle.call_patterns.proofs.law.candidates_are_in_the_bucket.Goals as goal

pub returns-clause-candidates : goal.returns-clause-candidates
returns-clause-candidates c = candidates_in_bucket

pub returns-clause-all : goal.returns-clause-all
returns-clause-all c = λ J p g e. sym (length-map (bucket (rows J p) (pattern g) (pattern_codes g)) (λ (row : Row). row.clause)) ∙ ap length (all_agree J p g e)
