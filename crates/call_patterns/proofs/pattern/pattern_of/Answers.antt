use Rattle.std.proofs.Common.{sym, ap, ◌∙◌, subst}
use Rattle.call_patterns.specs.Calls.{goal_keys}
use Rattle.call_patterns.specs.Patterns.{IsPattern, has_key as is_key_there, pattern, positions}
use Rattle.call_patterns.proofs.Positioned.{with_key, without_key, all_taken}
use Rattle.call_patterns.proofs.pattern.pattern_of.Goals as goal
use Rattle.call_patterns.proofs.pattern.pattern_of.Goals.{then-has_key, else-has_key}

pub loop-argument-preserved : goal.loop-argument-preserved
loop-argument-preserved c =
    let i = c.loop-argument.invariant in
    elim c.if-has_key.branch [
      | then-has_key w ↦ record {
        pattern = subst IsPattern (sym w.pattern-is) w.with_position-pattern.ensures.pattern;
        positions = λ names.
            ap positions w.pattern-is
            ∙ with_key (is_key_there (goal_keys names c.args.keys.now.at)) c.loop-argument.argument (positions c.loop-argument.pattern) (positions w.with_position-pattern.result) c.loop-argument-test.true
            (sym (c.has_key.ensures names) ∙ w.if-has_key.true) (i.positions names) w.with_position-pattern.ensures.positions;
      }
      | else-has_key w ↦ record {
        pattern = subst IsPattern (sym w.pattern-is) i.pattern;
        positions = λ names.
            ap positions w.pattern-is
            ∙ without_key (is_key_there (goal_keys names c.args.keys.now.at)) c.loop-argument.argument (positions c.loop-argument.pattern) c.loop-argument-test.true
            (sym (c.has_key.ensures names) ∙ w.if-has_key.false) (i.positions names);
      }
    ]

pub returns-clause-positions : goal.returns-clause-positions
unfolding pattern
returns-clause-positions c = λ names.
    all_taken (is_key_there (goal_keys names c.args.keys.now.at)) c.loop-argument.argument (positions c.loop-argument.pattern) c.loop-argument-test.false (c.loop-argument.invariant.positions names)
