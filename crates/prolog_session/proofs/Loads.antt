-- A load, one read-term after the other.
use Rattle.std.proofs.Common.{◌≡◌, ℕ, ◌<◌, List, [], ◌∷◌, ◌++◌, Bool, true, false, Option, Some, None, refl, sym, ◌∙◌, ap, subst, All}
use Rattle.std.specs.Prelude.{if◌then◌else◌}
use Rattle.std.proofs.lemmas.List.Elements.{All-append, All-cons, All-nil}
use Rattle.prolog_terms.specs.Tree.{Tree}
use Rattle.prolog_terms.specs.Indicators.{indicator_of}
use Rattle.prolog_terms.specs.Clauses.{IsClause}
use Rattle.prolog_terms.specs.Operators.{Table, initial_operators}
use Rattle.prolog_terms.specs.declared.entry.Clause.{Clause as AClause}
use Rattle.prolog_terms.specs.declared.entry.Indicator.{Indicator}
use Rattle.journal_base.specs.Plain.{Plain}
use Rattle.journal_base.specs.declared.sizes.Sizes.{Sizes}
use Rattle.prolog_clauses.specs.Formed.{clause_of}
use Rattle.prolog_clauses.specs.declared.clause.Formed.{Formed}
use Rattle.prolog_clauses.specs.declared.clause.Formed.TheVariants.{Clause as Made, Refused as NoClause}
use Rattle.prolog_clauses.proofs.Laws.{made_clause}
use Rattle.prolog_lexer.specs.Streams.{Stream, tokens}
use Rattle.prolog_reader.specs.Texts.{Answer, a_term, nothing, refusal, Sentence, sentences, read_of, tail, size}
use Rattle.prolog_reader.proofs.Sentences.{sentences-unfold, later, sentences-after, shorter_after}
use Rattle.wam_machine.specs.declared.run.Run.{Run}
use Rattle.wam_machine.specs.Procedures.{no_change}
use Rattle.wam_machine.specs.Reserved.{is_reserved}
use Rattle.wam_machine.specs.Runs.{AreShown}
use Rattle.prolog_session.specs.declared.refusal.Refusal.{Refusal}
use Rattle.prolog_session.specs.declared.kept.TextGoal.{TextGoal}
use Rattle.prolog_session.specs.declared.part.Part.{Part}
use Rattle.prolog_session.specs.declared.part.Part.TheVariants.{Clause, Operators, Procedures, Goal, Kept, Nothing, Raises}
use Rattle.prolog_session.specs.declared.part.Next.{Next}
use Rattle.prolog_session.specs.declared.part.Next.TheVariants.{Taken, Refused, End}
use Rattle.prolog_session.specs.Load.{not_added, is_grammar_rule, part_of_clause, part_of_formed, part_of_term, next_of, IsReadyPart, Item, a_clause, a_declaration, an_error, a_goal, ReadText, items_of, operators_after, kept_after, goals, with_items, before, text_under, text_of, Loaded, after_clause, after_declaration, after_error, with_run, Loads, unloaded, IsLoadOf, operators_of, refusal_of}
use Rattle.prolog_session.specs.declared.load.Loading.{Loading}
use Rattle.prolog_session.specs.Bases.{sizes_of, holding, loaded_in, IsOfLoad}
use Rattle.prolog_session.specs.Taking.{Takes}

-- ---- a clause that is added is one

ready-clause : (n : ℕ) (d : AClause) → IsClause d → (o : Option Indicator) → indicator_of d.head ≡ o → IsReadyPart (part_of_clause n d o)
ready-clause n d clause None e = tt
ready-clause n d clause (Some j) e = go (is_reserved j)
  where
    go : (b : Bool) → IsReadyPart (if b then not_added n (no_change j) else Clause n j d)
    go true = tt
    go false = record { named = e; clause = clause }

pub ready-formed : (n : ℕ) (t : Tree) (f : Formed) → clause_of t ≡ f → IsReadyPart (part_of_formed n f)
ready-formed n t (Made d) e = ready-clause n d (made_clause t d e) (indicator_of d.head) refl
ready-formed n t (NoClause fault) e = tt

pub ready-term : (n : ℕ) (t : Tree) (o : Option Indicator) → IsReadyPart (part_of_term n t o)
ready-term n t None = ready-formed n t (clause_of t) refl
ready-term n t (Some j) = go (is_grammar_rule j)
  where
    go : (b : Bool) → IsReadyPart (if b then not_added n (no_change j) else part_of_formed n (clause_of t))
    go true = tt
    go false = ready-formed n t (clause_of t) refl

-- ---- the read-term at the front of a text

abbrev pub text_at : Table → List TextGoal → Stream → ReadText
text_at ops kept s = text_under ops kept (sentences s)

-- what is at the front
abbrev pub next_at : Table → Stream → Next
next_at ops s = next_of (read_of ops s)

-- the read-terms behind the first one
rest_of : (ops : Table) (s : Stream) (p : Part) (a : Answer) → read_of ops s ≡ a → next_of a ≡ Taken p → later (tail s).how (tail s).rest ≡ sentences (tail s).rest
rest_of ops s p (a_term n r) e on = sentences-after ops s n r e
rest_of ops s p nothing e on = absurd cc
rest_of ops s p (refusal n f) e on = absurd cc

-- a text that goes on is its first read-term and what is behind it
pub text-goes : (ops : Table) (kept : List TextGoal) (s : Stream) (p : Part) → next_at ops s ≡ Taken p
    → text_at ops kept s ≡ with_items (items_of p ops) (text_at (operators_after p ops) (kept_after p kept) (tail s).rest)
unfolding read_of
text-goes ops kept s p e =
    let rest : later (tail s).how (tail s).rest ≡ sentences (tail s).rest = rest_of ops s p (read_of ops s) refl e in
    ap (text_under ops kept) (sentences-unfold s)
    ∙ ap (λ (xs : List Sentence). before (next_at ops s) ops kept (λ (q : Part). text_under (operators_after q ops) (kept_after q kept) xs)) rest
    ∙ ap (λ (n : Next). before n ops kept (λ (q : Part). text_at (operators_after q ops) (kept_after q kept) (tail s).rest)) e

-- and one that doesn't ends there
pub text-refused : (ops : Table) (kept : List TextGoal) (s : Stream) (r : Refusal) → next_at ops s ≡ Refused r → text_at ops kept s ≡ record { items = []; operators = ops; refused = Some r }
unfolding read_of
text-refused ops kept s r e =
    ap (text_under ops kept) (sentences-unfold s)
    ∙ ap (λ (n : Next). before n ops kept (λ (q : Part). text_under (operators_after q ops) (kept_after q kept) (later (tail s).how (tail s).rest))) e

pub text-end : (ops : Table) (kept : List TextGoal) (s : Stream) → next_at ops s ≡ End → text_at ops kept s ≡ record { items = goals ops kept; operators = ops; refused = None }
unfolding read_of
text-end ops kept s e =
    ap (text_under ops kept) (sentences-unfold s)
    ∙ ap (λ (n : Next). before n ops kept (λ (q : Part). text_under (operators_after q ops) (kept_after q kept) (later (tail s).how (tail s).rest))) e

-- what is behind it is shorter
pub shorter : (ops : Table) (s : Stream) (p : Part) → next_at ops s ≡ Taken p → size (tail s).rest < size s
shorter ops s p on = go (read_of ops s) refl on
  where
    go : (a : Answer) → read_of ops s ≡ a → next_of a ≡ Taken p → size (tail s).rest < size s
    go (a_term n r) e on = shorter_after ops s n r e
    go nothing e on = absurd cc
    go (refusal n f) e on = absurd cc

-- ---- one load behind another

pub Loads-append : (sizes : Sizes) (budget : ℕ) (s : Loaded) (xs ys : List Item) (u t : Loaded) → Loads sizes budget s xs u → Loads sizes budget u ys t → Loads sizes budget s (xs ++ ys) t
Loads-append sizes budget s [] ys u t h k = subst (λ (z : Loaded). Loads sizes budget z ys t) h k
Loads-append sizes budget s (a_clause line i c ∷ xs) ys u t h k = Loads-append sizes budget (after_clause sizes line i c s) xs ys u t h k
Loads-append sizes budget s (a_declaration line is ∷ xs) ys u t h k = Loads-append sizes budget (after_declaration sizes line is s) xs ys u t h k
Loads-append sizes budget s (an_error line fault at ∷ xs) ys u t h k = Loads-append sizes budget (after_error line fault at s) xs ys u t h k
Loads-append sizes budget s (a_goal ops g ∷ xs) ys u t h k = (h.0, (h.1.0, (h.1.1.0, Loads-append sizes budget (with_run s h.1.0 h.0) xs ys u t h.1.1.1 k)))

-- ---- the loop of a load

-- what a text begins as
abbrev pub text_whole : List ℕ → ReadText
text_whole text = text_at initial_operators [] (tokens text)

abbrev pub AreAllShown : List TextGoal → Type 0
AreAllShown kept = All (λ (g : TextGoal). AreShown g.goal) kept

-- what a load has done, and what is ahead, come to what the whole text does
pub record IsLoading (sizes : Sizes) (budget : ℕ) (b : Plain) (ops : Table) (runs : List Run) (kept : List TextGoal) (s : Stream) (text : List ℕ) : Type 0 where
  pub base : b ≡ holding sizes b.entries
  pub loads : (t : Loaded) → Loads sizes budget (loaded_in b runs) (text_at ops kept s).items t → Loads sizes budget unloaded (text_whole text).items t
  pub operators : (text_at ops kept s).operators ≡ (text_whole text).operators
  pub refuses : (text_at ops kept s).refused ≡ (text_whole text).refused
  pub shown : AreAllShown kept

pub loading-first : (sizes : Sizes) (budget : ℕ) (b : Plain) (ops : Table) (runs : List Run) (kept : List TextGoal) (s : Stream) (text : List ℕ)
    → b ≡ holding sizes [] → ops ≡ initial_operators → runs ≡ [] → kept ≡ [] → s ≡ tokens text → IsLoading sizes budget b ops runs kept s text
loading-first sizes budget b ops runs kept s text is table empty nothing_kept from =
    let first : IsLoading sizes budget (holding sizes []) initial_operators [] [] (tokens text) text =
    record { base = refl; loads = λ t k. k; operators = refl; refuses = refl; shown = All-nil (λ (g : TextGoal). AreShown g.goal) } in
    subst (λ (x : Plain). IsLoading sizes budget x ops runs kept s text) (sym is)
    (subst (λ (t : Table). IsLoading sizes budget (holding sizes []) t runs kept s text) (sym table)
    (subst (λ (l : List Run). IsLoading sizes budget (holding sizes []) initial_operators l kept s text) (sym empty)
    (subst (λ (l : List TextGoal). IsLoading sizes budget (holding sizes []) initial_operators [] l s text) (sym nothing_kept)
    (subst (λ (r : Stream). IsLoading sizes budget (holding sizes []) initial_operators [] [] r text) (sym from) first))))

-- the shown variables of each goal that is kept stand in it
kept-goes : (p : Part) (kept : List TextGoal) → IsReadyPart p → AreAllShown kept → AreAllShown (kept_after p kept)
kept-goes (Clause line i c) kept h k = k
kept-goes (Operators line d) kept h k = k
kept-goes (Procedures line d) kept h k = k
kept-goes (Goal g) kept h k = k
kept-goes (Kept g) kept h k =
    let P : TextGoal → Type 0 = λ g. AreShown g.goal in
    All-append P kept (g ∷ []) k (All-cons P g [] h (All-nil P))
kept-goes Nothing kept h k = k
kept-goes (Raises line fault at) kept h k = k

-- a read-term is taken, and the load goes on
pub loading-goes : (sizes : Sizes) (budget : ℕ) (old new : Loading) (s r : Stream) (text : List ℕ) (p : Part)
    → IsLoading sizes budget old.base old.ops old.runs old.kept s text → next_at old.ops s ≡ Taken p → r ≡ (tail s).rest → IsReadyPart p → Takes budget old new p
    → IsLoading sizes budget new.base new.ops new.runs new.kept r text
loading-goes sizes budget old new s r text p h e rest ready takes =
    let goes = text-goes old.ops old.kept s p e in
    let behind : ReadText = text_at (operators_after p old.ops) (kept_after p old.kept) (tail s).rest in
    let same : text_at new.ops new.kept r ≡ behind =
    ap (λ (t : Table). text_at t new.kept r) takes.operators
    ∙ ap (λ (l : List TextGoal). text_at (operators_after p old.ops) l r) takes.kept
    ∙ ap (λ (x : Stream). text_at (operators_after p old.ops) (kept_after p old.kept) x) rest in
    let loads : Loads sizes budget (loaded_in old.base old.runs) (items_of p old.ops) (loaded_in new.base new.runs) =
    subst (λ (z : Sizes). Loads z budget (loaded_in old.base old.runs) (items_of p old.ops) (loaded_in new.base new.runs)) (ap sizes_of h.base) takes.loads in
    record {
      base = takes.base ∙ ap (λ (b : Plain). record b { entries = new.base.entries }) h.base;
      loads = λ t k. h.loads t (subst (λ (x : ReadText). Loads sizes budget (loaded_in old.base old.runs) x.items t) (sym goes)
          (Loads-append sizes budget (loaded_in old.base old.runs) (items_of p old.ops) behind.items (loaded_in new.base new.runs) t loads
          (subst (λ (x : ReadText). Loads sizes budget (loaded_in new.base new.runs) x.items t) same k)));
      operators = ap (λ (x : ReadText). x.operators) same ∙ (sym (ap (λ (x : ReadText). x.operators) goes) ∙ h.operators);
      refuses = ap (λ (x : ReadText). x.refused) same ∙ (sym (ap (λ (x : ReadText). x.refused) goes) ∙ h.refuses);
      shown = subst AreAllShown (sym takes.kept) (kept-goes p old.kept ready h.shown);
    }

-- ---- the end of a load

pub record IsLoaded (sizes : Sizes) (budget : ℕ) (b : Plain) (ops : Table) (runs : List Run) (refused : Option Refusal) (text : List ℕ) : Type 0 where
  pub base : b ≡ holding sizes b.entries
  pub loads : IsLoadOf sizes budget text b.entries runs
  pub operators : ops ≡ operators_of text
  pub refuses : refused ≡ refusal_of text

-- the items ahead have led to this base and these runs
loading-over : (sizes : Sizes) (budget : ℕ) (b after : Plain) (ops : Table) (runs all : List Run) (kept : List TextGoal) (s : Stream) (items : List Item) (refused : Option Refusal) (text : List ℕ)
    → IsLoading sizes budget b ops runs kept s text → text_at ops kept s ≡ record { items = items; operators = ops; refused = refused } → after ≡ record b { entries = after.entries }
    → Loads sizes budget (loaded_in b runs) items (loaded_in after all) → IsLoaded sizes budget after ops all refused text
unfolding text_of
loading-over sizes budget b after ops runs all kept s items refused text h e same k =
    let whole : Loads sizes budget unloaded (text_whole text).items (loaded_in after all) =
    h.loads (loaded_in after all) (subst (λ (x : ReadText). Loads sizes budget (loaded_in b runs) x.items (loaded_in after all)) (sym e) k) in
    record {
      base = same ∙ ap (λ (x : Plain). record x { entries = after.entries }) h.base;
      loads = whole;
      operators = sym (ap (λ (t : ReadText). t.operators) e) ∙ h.operators;
      refuses = sym (ap (λ (t : ReadText). t.refused) e) ∙ h.refuses;
    }

pub loading-refused : (sizes : Sizes) (budget : ℕ) (b : Plain) (ops : Table) (runs : List Run) (kept : List TextGoal) (s : Stream) (r : Refusal) (text : List ℕ)
    → IsLoading sizes budget b ops runs kept s text → next_at ops s ≡ Refused r → IsLoaded sizes budget b ops runs (Some r) text
loading-refused sizes budget b ops runs kept s r text h e = loading-over sizes budget b b ops runs runs kept s [] (Some r) text h (text-refused ops kept s r e) refl refl

-- the goals that were kept have been run
pub loading-end : (sizes : Sizes) (budget : ℕ) (b after : Plain) (ops : Table) (runs all : List Run) (kept : List TextGoal) (s : Stream) (text : List ℕ)
    → IsLoading sizes budget b ops runs kept s text → next_at ops s ≡ End → after ≡ record b { entries = after.entries }
    → Loads (sizes_of b) budget (loaded_in b runs) (goals ops kept) (loaded_in after all) → IsLoaded sizes budget after ops all None text
loading-end sizes budget b after ops runs all kept s text h e same k =
    loading-over sizes budget b after ops runs all kept s (goals ops kept) None text h (text-end ops kept s e) same
    (subst (λ (z : Sizes). Loads z budget (loaded_in b runs) (goals ops kept) (loaded_in after all)) (ap sizes_of h.base) k)

pub loading-number : (sizes : Sizes) (budget : ℕ) (b : Plain) (ops : Table) (runs : List Run) (kept : List TextGoal) (s : Stream) (text : List ℕ)
    → IsLoading sizes budget b ops runs kept s text → IsOfLoad b
loading-number sizes budget b ops runs kept s text h = record { number = ap (λ (x : Plain). x.number) h.base; out = ap (λ (x : Plain). x.out) h.base }
