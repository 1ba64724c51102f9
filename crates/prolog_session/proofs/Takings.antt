-- What a load does with a read-term.
use Rattle.std.proofs.Common.{◌≡◌, ℕ, ◌+◌, ◌<◌, length, take, get_or, List, [], ◌∷◌, ◌++◌, Bool, Option, Some, None, append-nil, refl, sym, ◌∙◌, ap, subst}
use Rattle.std.proofs.lemmas.List.{take_more, map-append}
use Rattle.prolog_terms.specs.Operators.{Table}
use Rattle.prolog_terms.specs.declared.entry.Clause.{Clause as AClause}
use Rattle.prolog_terms.specs.declared.entry.Indicator.{Indicator}
use Rattle.prolog_terms.specs.declared.fault.Fault.{Fault}
use Rattle.journals.specs.Journal.{Journal}
use Rattle.journal_base.specs.Plain.{Plain}
use Rattle.journal_base.specs.declared.sizes.Sizes.{Sizes}
use Rattle.prolog_clauses.specs.Declarations.{error_of, table_after}
use Rattle.prolog_clauses.specs.declared.operators.Declaring.{Declaring}
use Rattle.prolog_clauses.specs.declared.dynamics.Dynamics.TheVariants.{Declares as DeclaresDynamic}
use Rattle.wam_machine.specs.declared.run.Goal.{Goal as AGoal}
use Rattle.wam_machine.specs.declared.run.Run.{Run}
use Rattle.prolog_session.specs.Runs.{IsRunBy}
use Rattle.wam_machine.specs.Runs.{AreShown}
use Rattle.prolog_session.proofs.Loads.{Loads-append, AreAllShown}
use Rattle.prolog_session.specs.declared.kept.TextGoal.{TextGoal}
use Rattle.prolog_session.specs.declared.load.Loading.{Loading}
use Rattle.prolog_session.specs.declared.part.Part.TheVariants.{Clause, Operators, Procedures, Goal, Kept, Nothing, Raises}
use Rattle.prolog_session.specs.Load.{assertz, with_clause, Placed, Loaded, run_unless, raised, error_items, after_declaration, Item, a_goal, goals, Loads}
use Rattle.prolog_session.specs.Bases.{sizes_of, loaded_in, error_runs, IsOfLoad, HasClause, HasRunBy}
use Rattle.prolog_session.specs.Taking.{Takes}

abbrev stands : Journal → List Run → Loaded
stands J runs = record { journal = J; runs = runs }

-- a goal has been run over what is loaded, and what it made is behind it
pub goal_added : (ops : Table) (b after : Plain) (budget : ℕ) (runs more : List Run) (g : TextGoal) (run : Run) → IsOfLoad b → HasRunBy ops b after g.line g.goal budget run → more ≡ runs ++ run ∷ []
    → Loads (sizes_of b) budget (loaded_in b runs) (a_goal ops g ∷ []) (loaded_in after more)
goal_added ops b after budget runs more g run h by adds =
    let journal : after.entries ≡ b.entries ++ by.made = ap (λ (s : Plain). s.entries) by.base in
    let over : IsRunBy (sizes_of b) ops 0 g.line g.goal b.entries by.made budget run = subst (λ (n : ℕ). IsRunBy (sizes_of b) ops n g.line g.goal b.entries by.made budget run) h.number by.run_is in
    (run, (by.made, (over, ap (λ (J : Journal). stands J more) journal ∙ ap (λ (l : List Run). stands (b.entries ++ by.made) l) adds)))

-- nothing but the entries of the base is another
pub goal_stays : (ops : Table) (b after : Plain) (budget line : ℕ) (goal : AGoal) (run : Run) → HasRunBy ops b after line goal budget run → after ≡ record b { entries = after.entries }
goal_stays ops b after budget line goal run by = by.base ∙ ap (λ (J : Journal). record b { entries = J }) (sym (ap (λ (s : Plain). s.entries) by.base))

-- ---- the parts

pub takes_clause : (budget : ℕ) (old new : Loading) (line : ℕ) (i at : Indicator) (c : AClause) (fits : Bool) → HasClause old.base new.base i c fits
    → new.runs ≡ old.runs ++ run_unless fits line at → at ≡ assertz → new.ops ≡ old.ops → new.kept ≡ old.kept → Takes budget old new (Clause line i c)
takes_clause budget old new line i at c fits has adds call ops kept =
    let p : Placed = with_clause (sizes_of old.base) old.base.entries i c in
    let entries : new.base.entries ≡ p.journal = ap (λ (b : Plain). b.entries) has.base in
    let runs : new.runs ≡ old.runs ++ run_unless p.fits line assertz =
    adds ∙ ap (λ (q : Bool). old.runs ++ run_unless q line at) has.room ∙ ap (λ (j : Indicator). old.runs ++ run_unless p.fits line j) call in
    record {
      base = has.base ∙ ap (λ (J : Journal). record old.base { entries = J }) (sym entries);
      loads = ap (λ (J : Journal). stands J new.runs) entries ∙ ap (λ (l : List Run). stands p.journal l) runs;
      operators = ops;
      kept = kept;
    }

-- the base is the same
stays : (old new : Plain) → new ≡ old → new ≡ record old { entries = new.entries }
stays old new e = e ∙ ap (λ (J : Journal). record old { entries = J }) (ap (λ (b : Plain). b.entries) (sym e))

goes : (old new : Plain) (before after : List Run) (more : List Run) → new ≡ old → after ≡ before ++ more → loaded_in new after ≡ record (loaded_in old before) { runs = before ++ more }
goes old new before after more e f = ap (λ (b : Plain). loaded_in b after) e ∙ ap (λ (l : List Run). loaded_in old l) f

errors_loaded : (sizes : Sizes) (budget line : ℕ) (s t : Loaded) (o : Option Fault) → t ≡ record s { runs = s.runs ++ error_runs line o } → Loads sizes budget s (error_items line o) t
errors_loaded sizes budget line s t None e = e ∙ ap (λ (l : List Run). record s { runs = l }) (append-nil s.runs)
errors_loaded sizes budget line s t (Some fault) e = e

pub takes_operators : (budget : ℕ) (old new : Loading) (line : ℕ) (d : Declaring) → new.base ≡ old.base → new.ops ≡ table_after old.ops d
    → new.runs ≡ old.runs ++ error_runs line (error_of old.ops d) → new.kept ≡ old.kept → Takes budget old new (Operators line d)
takes_operators budget old new line d base ops runs kept = record {
  base = stays old.base new.base base;
  loads = errors_loaded (sizes_of old.base) budget line (loaded_in old.base old.runs) (loaded_in new.base new.runs) (error_of old.ops d)
      (goes old.base new.base old.runs new.runs (error_runs line (error_of old.ops d)) base runs);
  operators = ops;
  kept = kept;
}

pub takes_declared : (budget : ℕ) (old new : Loading) (line : ℕ) (is : List Indicator) → new.base ≡ record old.base { entries = new.base.entries }
    → loaded_in new.base new.runs ≡ after_declaration (sizes_of old.base) line is (loaded_in old.base old.runs) → new.ops ≡ old.ops → new.kept ≡ old.kept
    → Takes budget old new (Procedures line (DeclaresDynamic is))
takes_declared budget old new line is base loads ops kept = record { base = base; loads = loads; operators = ops; kept = kept }

pub takes_goal : (budget : ℕ) (old new : Loading) (g : TextGoal) → new.base ≡ record old.base { entries = new.base.entries } → new.ops ≡ old.ops
    → Loads (sizes_of old.base) budget (loaded_in old.base old.runs) (a_goal old.ops g ∷ []) (loaded_in new.base new.runs) → new.kept ≡ old.kept → Takes budget old new (Goal g)
takes_goal budget old new g base ops loads kept = record { base = base; loads = loads; operators = ops; kept = kept }

pub takes_kept : (budget : ℕ) (old new : Loading) (g : TextGoal) → new.base ≡ old.base → new.ops ≡ old.ops → new.runs ≡ old.runs → new.kept ≡ old.kept ++ g ∷ []
    → Takes budget old new (Kept g)
takes_kept budget old new g base ops runs kept = record {
  base = stays old.base new.base base;
  loads = ap (λ (b : Plain). loaded_in b new.runs) base ∙ ap (λ (l : List Run). loaded_in old.base l) runs;
  operators = ops;
  kept = kept;
}

pub takes_nothing : (budget : ℕ) (load : Loading) → Takes budget load load Nothing
takes_nothing budget load = record { base = refl; loads = refl; operators = refl; kept = refl }

pub takes_raises : (budget : ℕ) (old new : Loading) (line : ℕ) (fault : Fault) (at : Indicator) (run : Run) → new.base ≡ old.base → new.ops ≡ old.ops → new.runs ≡ old.runs ++ run ∷ []
    → run ≡ raised line fault at → new.kept ≡ old.kept → Takes budget old new (Raises line fault at)
takes_raises budget old new line fault at run base ops runs is kept = record {
  base = stays old.base new.base base;
  loads = goes old.base new.base old.runs new.runs (raised line fault at ∷ []) base (runs ∙ ap (λ (r : Run). old.runs ++ r ∷ []) is);
  operators = ops;
  kept = kept;
}

-- ---- the goals that were kept

pub of_load_after : (b after : Plain) → IsOfLoad b → after ≡ record b { entries = after.entries } → IsOfLoad after
of_load_after b after h e = record { number = ap (λ (s : Plain). s.number) e ∙ h.number; out = ap (λ (s : Plain). s.out) e ∙ h.out }

pub kept_step : (ops : Table) (sizes : Sizes) (budget i : ℕ) (kept : List TextGoal) (g : TextGoal) (s u t : Loaded) → i < length kept → g ≡ get_or kept i g → Loads sizes budget s (goals ops (take i kept)) u
    → Loads sizes budget u (a_goal ops g ∷ []) t → Loads sizes budget s (goals ops (take (i + 1) kept)) t
kept_step ops sizes budget i kept g s u t low is h k =
    let items : goals ops (take (i + 1) kept) ≡ goals ops (take i kept) ++ a_goal ops g ∷ [] =
    ap (goals ops) (take_more kept i g low ∙ ap (λ (x : TextGoal). take i kept ++ x ∷ []) (sym is)) ∙ map-append (a_goal ops) (take i kept) (g ∷ []) in
    subst (λ (l : List Item). Loads sizes budget s l t) (sym items) (Loads-append sizes budget s (goals ops (take i kept)) (a_goal ops g ∷ []) u t h k)

-- the next of them has been run
pub kept_goes : (b now after : Plain) (ops there : Table) (budget i : ℕ) (kept : List TextGoal) (g : TextGoal) (first runs more : List Run) → i < length kept → g ≡ get_or kept i g
    → now ≡ record b { entries = now.entries } → there ≡ ops → Loads (sizes_of b) budget (loaded_in b first) (goals ops (take i kept)) (loaded_in now runs)
    → after ≡ record now { entries = after.entries } → Loads (sizes_of now) budget (loaded_in now runs) (a_goal there g ∷ []) (loaded_in after more)
    → (after ≡ record b { entries = after.entries }) × Loads (sizes_of b) budget (loaded_in b first) (goals ops (take (i + 1) kept)) (loaded_in after more)
kept_goes b now after ops there budget i kept g first runs more low is same table h base k =
    let under : Loads (sizes_of now) budget (loaded_in now runs) (a_goal ops g ∷ []) (loaded_in after more) =
    subst (λ (o : Table). Loads (sizes_of now) budget (loaded_in now runs) (a_goal o g ∷ []) (loaded_in after more)) table k in
    let sized : Loads (sizes_of b) budget (loaded_in now runs) (a_goal ops g ∷ []) (loaded_in after more) =
    subst (λ (z : Sizes). Loads z budget (loaded_in now runs) (a_goal ops g ∷ []) (loaded_in after more)) (ap sizes_of same) under in (
      base ∙ ap (λ (s : Plain). record s { entries = after.entries }) same,
      kept_step ops (sizes_of b) budget i kept g (loaded_in b first) (loaded_in now runs) (loaded_in after more) low is h sized,
    )

pub kept_shown : (i : ℕ) (kept : List TextGoal) (g : TextGoal) → i < length kept → g ≡ get_or kept i g → AreAllShown kept → AreShown g.goal
kept_shown i kept g low is h = subst (λ (x : TextGoal). AreShown x.goal) (sym is) (h i g low)
