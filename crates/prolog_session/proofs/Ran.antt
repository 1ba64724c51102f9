-- A run over a base that keeps one list of entries.
use Rattle.std.proofs.Common.{◌≡◌, ◌≢◌, ℕ, List, [], ◌∷◌, ◌++◌, length, Option, Some, None, append-nil, refl, sym, ap, ◌∙◌, subst}
use Rattle.prolog_terms.specs.Tree.{Tree}
use Rattle.prolog_terms.specs.Operators.{Table}
use Rattle.journals.specs.Journal.{Journal}
use Rattle.journal_base.specs.View.{none_out}
use Rattle.journal_base.specs.declared.sizes.Sizes.{Sizes}
use Rattle.journal_base.specs.Plain.{Plain, plain_view, plain_out, IsContinued}
use Rattle.wam_machine.specs.States.{Setting}
use Rattle.wam_machine.specs.Runs.{IsRunOf, IsTranscribed}
use Rattle.wam_machine.specs.declared.run.Goal.{Goal}
use Rattle.wam_machine.specs.declared.run.Run.{Run}
use Rattle.wam_machine.specs.declared.run.RunEnd.TheVariants.{Want}
use Rattle.prolog_session.specs.declared.words.Command.{Command}
use Rattle.prolog_session.specs.Bases.{sizes_of, HasRunBy}
use Rattle.prolog_session.specs.Runs.{IsOneRun, AreRunsWithin, AreRunsBehind}
use Rattle.prolog_session.proofs.Plains.{out_none, continued_after}

pub out_before : (b e : Plain) → b.out ≡ 0 → e ≡ b → plain_out e.out ≡ none_out
out_before b e out same = out_none e.out (ap (λ (s : Plain). s.out) same ∙ out)

-- the line of a run tells nothing of its transcript
lined : (x : Setting) (causes : List ℕ) (goal : Tree) (run : Run) (line : ℕ) → IsTranscribed x causes goal run → IsTranscribed x causes goal (record run { line = line })
lined x causes goal run line h = record {
  deeds = h.deeds;
  tried = h.tried;
  transcript = h.transcript;
  hows = h.hows;
  fair = h.fair;
  counted = h.counted;
  scanned = h.scanned;
  kept = h.kept;
  wanted = h.wanted;
  most = h.most;
  least = h.least;
  unbuilt = h.unbuilt;
}

-- the run of a goal, with its line: what it made stands behind what there was
over_base : (ops : Table) (b n : Plain) (budget line : ℕ) (goal : Goal) (run : Run) → b.out ≡ 0 → IsContinued b n → plain_out n.out ≡ none_out
    → IsRunOf ops (plain_view n) (length b.entries) budget goal run → run.end ≢ Want → HasRunBy ops b n line goal budget (record run { line = line })
over_base ops b n budget line goal run out c empty h ended =
    let after : Plain = record b { entries = b.entries ++ c.added } in
    let base : n ≡ after = continued_after b n c (empty ∙ sym (out_none b.out out)) in
    let over : IsRunOf ops (plain_view after) (length b.entries) budget goal run = subst (λ (s : Plain). IsRunOf ops (plain_view s) (length b.entries) budget goal run) base h in
    record {
      made = c.added;
      base = base;
      run_is = record {
        engine_is = over.engine;
        line_is = refl;
        shown = over.shown ended;
        within = over.within;
        ended = ended;
        own = c.own;
        transcribed = lined _ _ goal.term run line (over.transcribed ended (b.entries ++ c.added) refl);
      };
    }

-- and so where the engine takes the base and hands it back
pub run_by : (ops : Table) (b e n r : Plain) (budget line : ℕ) (goal : Goal) (run : Run) → b.out ≡ 0 → e ≡ b → r ≡ n → IsContinued e n → plain_out n.out ≡ none_out
    → IsRunOf ops (plain_view n) (length e.entries) budget goal run → run.end ≢ Want → HasRunBy ops b r line goal budget (record run { line = line })
run_by ops b e n r budget line goal run out before after c empty h ended =
    let by : HasRunBy ops e n line goal budget (record run { line = line }) = over_base ops e n budget line goal run (ap (λ (s : Plain). s.out) before ∙ out) c empty h ended in
    subst (λ (s : Plain). HasRunBy ops s r line goal budget (record run { line = line })) before
    (subst (λ (s : Plain). HasRunBy ops e s line goal budget (record run { line = line })) (sym after) by)

-- the run of a goal of the command line stands behind those of the load, and its entries behind theirs
pub runs_after : (ops : Table) (b m r : Plain) (command : Command) (goal : Goal) (run : Run) (loads runs : List Run) (J : Journal) → m ≡ record b { number = 1 }
    → command.goal ≡ Some goal → HasRunBy ops m r 0 goal command.steps run → runs ≡ loads ++ run ∷ [] → J ≡ r.entries
    → AreRunsBehind (sizes_of b) ops loads b.entries command J runs
runs_after ops b m r command goal run loads runs J renumbered is h all journal =
    let by : HasRunBy ops (record b { number = 1 }) r 0 goal command.steps run = subst (λ (s : Plain). HasRunBy ops s r 0 goal command.steps run) renumbered h in
    let one : IsOneRun (sizes_of b) ops goal b.entries by.made command.steps (run ∷ []) = record { run = run; only = refl; by = by.run_is } in
    record {
      goals = run ∷ [];
      made = by.made;
      in_order = all;
      journal = journal ∙ ap (λ (s : Plain). s.entries) by.base;
      of_command = subst (λ (g : Option Goal). AreRunsWithin (sizes_of b) ops command.steps g b.entries by.made (run ∷ [])) (sym is) one;
    }

-- where there is no goal, nothing is behind them
pub runs_alone : (sizes : Sizes) (ops : Table) (loads : List Run) (loaded : Journal) (command : Command) (J : Journal) → command.goal ≡ None → J ≡ loaded
    → AreRunsBehind sizes ops loads loaded command J loads
runs_alone sizes ops loads loaded command J is journal = record {
  goals = [];
  made = [];
  in_order = sym (append-nil loads);
  journal = journal ∙ sym (append-nil loaded);
  of_command = subst (λ (g : Option Goal). AreRunsWithin sizes ops command.steps g loaded [] []) (sym is) (refl, refl);
}
