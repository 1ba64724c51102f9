-- Clauses that are erased one after another: what was done so far, and what is left.
use Rattle.std.proofs.Common.{◌≡◌, ℕ, ◌+◌, ◌<◌, ◌≤◌, List, [], ◌∷◌, ◌++◌, length, take, Bool, true, false, refl, sym, ap, ◌∙◌, subst, arith, append-nil, append_assoc, Option, Some, None}
use Rattle.std.specs.Prelude.{All, map, filter_map, option_map, slice_get, unwrap_or}
use Rattle.std.specs.List.{cons_option}
use Rattle.std.proofs.lemmas.List.{map-append, get_or_append_left}
use Rattle.std.proofs.lemmas.List.Elements.{All-nil, All-cons, All-head, All-tail}
use Rattle.std.proofs.lemmas.Option.{unwrap_or-slice_get}
use Rattle.prolog_terms.specs.Tree.{Tree}
use Rattle.prolog_terms.specs.declared.entry.Clause.{Clause}
use Rattle.prolog_terms.specs.declared.entry.Entry.{Entry}
use Rattle.call_patterns.specs.Calls.{AreKeysOf, IsKeyOf, goal_keys, key_of, text_of}
use Rattle.call_patterns.specs.Keys as keyed
use Rattle.call_patterns.specs.declared.key.Key.{Key}
use Rattle.call_patterns.specs.declared.key.Key.TheVariants as key_is
use Rattle.term_store.specs.Later.{AreLonger}
use Rattle.term_store.proofs.Laws.{longer-length}
use Rattle.journal_base.specs.Goals.{Goal}
use Rattle.journal_base.specs.declared.tally.Tally.{Tally}
use Rattle.journals.specs.Journal.{Journal, clause_named}
use Rattle.wam_machine.specs.States.{Setting, Deed, Updated, Candidate, Use}
use Rattle.wam_machine.specs.Procedures.{candidate_named, call_of, sweeping}
use Rattle.wam_machine.specs.Cursors.{part, names_left, clauses_left, visits_left, AreNamed, IsUsable}
use Rattle.wam_machine.specs.Sweeps.{Sweeps, SweepsOne, HasOnlySwept, where_on}
use Rattle.wam_machine.specs.Terms.{Left, Said, said}
use Rattle.wam_machine.specs.View.{setting, state_of, HasOnlyAsked}
use Rattle.wam_machine.specs.declared.state.Host.{Host}
use Rattle.wam_machine.specs.declared.state.Machine.{Machine}

-- ---- machines that have only swept

module _ {C : Type 0} where
  pub swept_asked : (old new : Machine C) → HasOnlyAsked old new → HasOnlySwept old new
  swept_asked old new same =
      same ∙ ap (λ (m : Machine C). let r : Machine C = record old { mode = new.mode; terms = m.terms; front = new.front; fronts = new.fronts; tally = m.tally } in r) (sym same)

  pub swept_trans : (old mid new : Machine C) → HasOnlySwept old mid → HasOnlySwept mid new → HasOnlySwept old new
  swept_trans old mid new p q =
      q ∙ ap (λ (m : Machine C). let r : Machine C = record m { mode = new.mode; terms = new.terms; front = new.front; fronts = new.fronts; tally = new.tally } in r) p

  -- the same setting
  pub setting_fresh : (h : Host) (old new : Machine C) (j : Journal) → said new.terms ≡ record (said old.terms) { fresh = (said new.terms).fresh } → setting h new j ≡ setting h old j
  setting_fresh h old new j e =
      ap (λ (s : Said C). let x : Setting = record { engine = h.engine; journal = j; words = h.sizes.words; updates = h.sizes.updates; start = h.start; budget = h.budget; shown = s.shown; ops = h.ops.now } in x) e

-- ---- keys under more names

kept_text : (old new : List (List ℕ)) (n : ℕ) → AreLonger old new → n < length old → text_of new n ≡ text_of old n
kept_text old new n l low =
    ap (λ (ts : List (List ℕ)). unwrap_or (slice_get ts n) []) l.texts
    ∙ unwrap_or-slice_get (old ++ l.added) n []
    ∙ get_or_append_left old l.added [] n low
    ∙ sym (unwrap_or-slice_get old n [])

kept_key : (old new : List (List ℕ)) (o : Option Key) → AreLonger old new → IsKeyOf old o → IsKeyOf new o × (option_map (key_of new) o ≡ option_map (key_of old) o)
kept_key old new None l h = (tt, refl)
kept_key old new (Some (key_is.Int z)) l h = (tt, refl)
kept_key old new (Some (key_is.Atom n)) l h = let le = longer-length old new l in (omega (arith, h, le), ap (λ (t : List ℕ). Some (keyed.atom_key t)) (kept_text old new n l h))
kept_key old new (Some (key_is.Functor n k)) l h = let le = longer-length old new l in (omega (arith, h, le), ap (λ (t : List ℕ). Some (keyed.functor_key t k)) (kept_text old new n l h))

kept_keys : (old new : List (List ℕ)) (ks : List (Option Key)) → AreLonger old new → All (IsKeyOf old) ks → All (IsKeyOf new) ks × (goal_keys new ks ≡ goal_keys old ks)
kept_keys old new [] l h = (All-nil (IsKeyOf new), refl)
kept_keys old new (k ∷ ks) l h =
    let first = kept_key old new k l (All-head (IsKeyOf old) k ks h) in
    let others = kept_keys old new ks l (All-tail (IsKeyOf old) k ks h) in
    (All-cons (IsKeyOf new) k ks first.0 others.0, ap (λ (x : Option keyed.Key). x ∷ goal_keys new ks) first.1 ∙ ap (λ (xs : List (Option keyed.Key)). option_map (key_of old) k ∷ xs) others.1)

pub keys_longer : (old new : List (List ℕ)) (ks : List (Option Key)) → AreLonger old new → AreKeysOf old ks → AreKeysOf new ks
keys_longer old new ks l h = record { whole = h.whole; numbered = (kept_keys old new ks l h.numbered).0 }

pub keys_same : (old new : List (List ℕ)) (ks : List (Option Key)) → AreLonger old new → AreKeysOf old ks → goal_keys new ks ≡ goal_keys old ks
keys_same old new ks l h = (kept_keys old new ks l h.numbered).1

-- ---- calls of which a name was taken

module _ {C : Type 0} (rest : C → Goal → Journal → List ℕ) (may : C → Goal → Journal → ℕ) (at : C → ℕ) (j : Journal) where
  -- the same goal
  pub names_same : (c : Left C) (u : Use) (t : Tree) → t ≡ c.goal → names_left rest at j (record c { used = u; goal = t }) ≡ names_left rest at j c
  unfolding names_left
  names_same c u t e = ap (λ (g : Tree). rest c.cursor (call_of c.procedure g) (part at j c)) e

  pub visits_same : (c : Left C) (u : Use) (t : Tree) → t ≡ c.goal → visits_left may at j (record c { used = u; goal = t }) ≡ visits_left may at j c
  unfolding visits_left
  visits_same c u t e = ap (λ (g : Tree). may c.cursor (call_of c.procedure g) (part at j c)) e

  clauses_none : (c : Left C) → names_left rest at j c ≡ [] → clauses_left rest at j c ≡ []
  unfolding clauses_left
  clauses_none c e = ap (filter_map (candidate_named (part at j c))) e

  module _ (c d : Left C) (k : ℕ) (same : at d.cursor ≡ at c.cursor) (names : names_left rest at j c ≡ k ∷ names_left rest at j d) where
    pub named_step : d.used ≡ c.used → AreNamed rest at j c → IsUsable c.used (part at j d) k × AreNamed rest at j d
    unfolding AreNamed
    named_step used named =
        let all : All (IsUsable c.used (part at j d)) (k ∷ names_left rest at j d) =
        subst (λ (J : Journal). All (IsUsable c.used J) (k ∷ names_left rest at j d)) (ap (λ n. take n j) (sym same)) (subst (All (IsUsable c.used (part at j c))) names named) in (
          All-head (IsUsable c.used (part at j d)) k (names_left rest at j d) all,
          subst (λ (u : Use). All (IsUsable u (part at j d)) (names_left rest at j d)) (sym used) (All-tail (IsUsable c.used (part at j d)) k (names_left rest at j d) all),
        )

    clauses_step : (clause : Clause) → clause_named (part at j d) k ≡ Some clause → clauses_left rest at j c ≡ record { name = k; clause = clause } ∷ clauses_left rest at j d
    unfolding clauses_left
    clauses_step clause named =
        ap (λ (J : Journal). filter_map (candidate_named J) (names_left rest at j c)) (ap (λ n. take n j) (sym same))
        ∙ ap (filter_map (candidate_named (part at j d))) names
        ∙ ap (λ (o : Option Clause). cons_option (option_map (λ (x : Clause). let r : Candidate = record { name = k; clause = x } in r) o) (filter_map (candidate_named (part at j d)) (names_left rest at j d))) named

-- ---- over one journal

-- the clauses of a call are erased as far as to those that are left of another
pub record HasSweptTo {C : Type 0} (rest : C → Goal → Journal → List ℕ) (may : C → Goal → Journal → ℕ) (at : C → ℕ) (ahead : C → ℕ) (made : List Entry) (x : Setting) (goal : Option Tree)
    (before after : Left C) (old new : Machine C) : Type 0 where
  pub given : ℕ
  pub added : List ℕ
  pub fronts_are : new.fronts.items ≡ old.fronts.items ++ added
  pub goes : (deeds : List Deed) (tried : ℕ) (fronts : List ℕ)
      → sweeping x goal (clauses_left rest at x.journal before) (state_of rest at x.journal old deeds tried (added ++ fronts))
      ≡ sweeping x goal (clauses_left rest at x.journal after) (state_of rest at x.journal new (deeds ++ map Updated made) (tried + given) fronts)
  pub most : new.tally.visits + visits_left may at x.journal after ≤ old.tally.visits + visits_left may at x.journal before
  pub least : old.tally.visits + given + ahead after.cursor ≤ new.tally.visits + ahead before.cursor

module _ {C : Type 0} (rest : C → Goal → Journal → List ℕ) (may : C → Goal → Journal → ℕ) (at : C → ℕ) (ahead : C → ℕ) (x : Setting) (goal : Option Tree) (before : Left C) (old : Machine C) where
  pub swept_start : HasSweptTo rest may at ahead [] x goal before before old old
  swept_start = record {
    given = 0;
    added = [];
    fronts_are = sym (append-nil old.fronts.items);
    goes = λ deeds tried fs.
        let none : tried ≡ tried + 0 = omega arith in
        ap (λ (l : List Deed). sweeping x goal (clauses_left rest at x.journal before) (state_of rest at x.journal old l tried fs)) (sym (append-nil deeds))
        ∙ ap (λ (n : ℕ). sweeping x goal (clauses_left rest at x.journal before) (state_of rest at x.journal old (deeds ++ []) n fs)) none;
    most = omega arith;
    least = omega arith;
  }

  module _ (made : List Entry) (c d : Left C) (n : Machine C) (t : Tally) (p : HasSweptTo rest may at ahead made x goal before c old n) where
    -- no clause is left
    pub swept_end : names_left rest at x.journal c ≡ [] → t.visits + visits_left may at x.journal d ≤ n.tally.visits + visits_left may at x.journal c
        → n.tally.visits + 0 + ahead d.cursor ≤ t.visits + ahead c.cursor
        → Sweeps rest may at ahead made x goal before d old (record n { tally = t })
    swept_end none visits least = record {
      given = p.given;
      added = p.added;
      fronts_are = p.fronts_are;
      goes = λ deeds tried fs.
          p.goes deeds tried fs
          ∙ ap (λ (cs : List Candidate). sweeping x goal cs (state_of rest at x.journal n (deeds ++ map Updated made) (tried + p.given) fs)) (clauses_none rest may at x.journal c none);
      most = omega (arith, p.most, visits);
      least = omega (arith, p.least, least);
    }

    module _ (more : List Entry) (k : ℕ) (new : Machine C) (on : Bool) (same : at d.cursor ≡ at c.cursor) (names : names_left rest at x.journal c ≡ k ∷ names_left rest at x.journal d)
        (one : SweepsOne rest at more x goal (part at x.journal d) k (record n { tally = t }) new on) where
      one_goes : (deeds : List Deed) (tried : ℕ) (fs : List ℕ)
          → sweeping x goal (clauses_left rest at x.journal before) (state_of rest at x.journal old deeds tried ((p.added ++ one.added) ++ fs))
          ≡ where_on x goal (clauses_left rest at x.journal d) (state_of rest at x.journal new (deeds ++ map Updated (made ++ more)) (tried + (p.given + 1)) fs) on
      one_goes deeds tried fs =
          let sum : tried + p.given + 1 ≡ tried + (p.given + 1) = omega arith in
          ap (λ (l : List ℕ). sweeping x goal (clauses_left rest at x.journal before) (state_of rest at x.journal old deeds tried l)) (append_assoc p.added one.added fs)
          ∙ p.goes deeds tried (one.added ++ fs)
          ∙ ap (λ (cs : List Candidate). sweeping x goal cs (state_of rest at x.journal n (deeds ++ map Updated made) (tried + p.given) (one.added ++ fs)))
          (clauses_step rest may at x.journal c d k same names one.clause one.clause_is)
          ∙ one.goes (clauses_left rest at x.journal d) (deeds ++ map Updated made) (tried + p.given) fs
          ∙ ap (λ (l : List Deed). where_on x goal (clauses_left rest at x.journal d) (state_of rest at x.journal new l (tried + p.given + 1) fs) on)
          (append_assoc deeds (map Updated made) (map Updated more) ∙ ap (λ (l : List Deed). deeds ++ l) (sym (map-append Updated made more)))
          ∙ ap (λ (q : ℕ). where_on x goal (clauses_left rest at x.journal d) (state_of rest at x.journal new (deeds ++ map Updated (made ++ more)) q fs) on) sum

      one_fronts : new.fronts.items ≡ old.fronts.items ++ (p.added ++ one.added)
      one_fronts = one.fronts_are ∙ ap (λ (l : List ℕ). l ++ one.added) p.fronts_are ∙ append_assoc old.fronts.items p.added one.added

      module _ (visits : t.visits + visits_left may at x.journal d ≤ n.tally.visits + visits_left may at x.journal c) (least : n.tally.visits + 1 + ahead d.cursor ≤ t.visits + ahead c.cursor) (tally : new.tally ≡ t) where
        visited : new.tally.visits ≡ t.visits
        visited = ap (λ (y : Tally). y.visits) tally

        -- others may follow
        pub swept_step : on ≡ true → HasSweptTo rest may at ahead (made ++ more) x goal before d old new
        swept_step yes_on = record {
          given = p.given + 1;
          added = p.added ++ one.added;
          fronts_are = one_fronts;
          goes = λ deeds tried fs. one_goes deeds tried fs ∙ ap (where_on x goal (clauses_left rest at x.journal d) (state_of rest at x.journal new (deeds ++ map Updated (made ++ more)) (tried + (p.given + 1)) fs)) yes_on;
          most = omega (arith, p.most, visits, visited);
          least = omega (arith, p.least, least, visited);
        }

        -- there was no room
        pub swept_stop : on ≡ false → Sweeps rest may at ahead (made ++ more) x goal before d old new
        swept_stop no_on = record {
          given = p.given + 1;
          added = p.added ++ one.added;
          fronts_are = one_fronts;
          goes = λ deeds tried fs. one_goes deeds tried fs ∙ ap (where_on x goal (clauses_left rest at x.journal d) (state_of rest at x.journal new (deeds ++ map Updated (made ++ more)) (tried + (p.given + 1)) fs)) no_on;
          most = omega (arith, p.most, visits, visited);
          least = omega (arith, p.least, least, visited);
        }
