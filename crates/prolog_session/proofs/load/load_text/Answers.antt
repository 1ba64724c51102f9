use Rattle.std.proofs.Common.{◌<◌, sym, ◌∙◌, ap, subst, List}
use Rattle.journal_base.specs.Plain.{Plain}
use Rattle.prolog_lexer.specs.Streams.{Stream, ahead}
use Rattle.prolog_reader.specs.Texts.{size}
use Rattle.wam_machine.specs.declared.run.Run.{Run}
use Rattle.prolog_session.specs.Load.{IsReadyNext, IsLoadOf}
use Rattle.prolog_session.specs.Bases.{holding}
use Rattle.prolog_session.proofs.Loads.{shorter, loading-goes, loading-refused, loading-end}
use Rattle.prolog_session.proofs.load.load_text.Goals as goal

pub parts-smaller : goal.parts-smaller
parts-smaller g c =
    subst (λ (x : Stream). size x < size (ahead c.parts.lexer)) (sym c.in_ok-part.ensures.rest)
    (shorter c.parts.load.ops (ahead c.parts.lexer) c.in-Taken.part (sym c.in_ok-part.ensures.next ∙ c.in-Taken.is))

pub parts-preserved : goal.parts-preserved
parts-preserved g c =
    loading-goes c.args.sizes c.args.steps c.parts.load c.in_ok-load-in-Taken.load (ahead c.parts.lexer) (ahead c.next_part.new.lexer) c.args.text.now c.in-Taken.part
    c.parts.invariant (sym c.in_ok-part.ensures.next ∙ c.in-Taken.is) c.in_ok-part.ensures.rest (subst IsReadyNext c.in-Taken.is c.in_ok-part.ensures.ready) c.in_ok-load-in-Taken.ensures

pub returns-in-Refused : goal.returns-in-Refused
returns-in-Refused g c =
    let end = c.ended.ensures in
    let l = loading-refused c.args.sizes c.args.steps c.parts.load.base c.parts.load.ops c.parts.load.runs c.parts.load.kept (ahead c.parts.lexer) c.in-Refused.refusal c.args.text.now
    c.parts.invariant (sym c.in_ok-part.ensures.next ∙ c.in-Refused.is) in
    record {
      base = end.base ∙ l.base ∙ ap (λ (b : Plain). holding c.args.sizes b.entries) (sym end.base);
      runs = subst (λ (b : Plain). IsLoadOf c.args.sizes c.args.steps c.args.text.now b.entries c.ended.result.runs) (sym end.base)
          (subst (λ (runs : List Run). IsLoadOf c.args.sizes c.args.steps c.args.text.now c.parts.load.base.entries runs) (sym end.runs) l.loads);
      operators = end.operators ∙ l.operators;
      refused = end.refused ∙ l.refuses;
    }

pub returns-in-End : goal.returns-in-End
returns-in-End g c =
    let k = c.in_ok-run_kept-in-End.ensures in
    let l = loading-end c.args.sizes c.args.steps c.parts.load.base _ c.parts.load.ops c.parts.load.runs _ c.parts.load.kept (ahead c.parts.lexer) c.args.text.now
    c.parts.invariant (sym c.in_ok-part.ensures.next ∙ c.in-End.is) k.base k.runs in
    record {
      base = l.base;
      runs = l.loads;
      operators = k.operators ∙ l.operators;
      refused = k.refused ∙ l.refuses;
    }
