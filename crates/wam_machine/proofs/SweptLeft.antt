-- The clauses that are left of a call are erased, over any base.
use Rattle.std.proofs.Common.{◌≡◌, ℕ, ◌+◌, ◌-◌, ◌<◌, ◌≤◌, List, [], ◌++◌, take, Bool, true, false, refl, sym, ap, ◌∙◌, subst, arith, append-nil, append_assoc, Option, Some, None}
use Rattle.std.specs.Prelude.{IsSome, option_map}
use Rattle.prolog_terms.specs.Tree.{Tree}
use Rattle.prolog_terms.specs.declared.entry.Entry.{Entry}
use Rattle.call_patterns.specs.Keys.{keys}
use Rattle.call_patterns.specs.Calls.{AreKeysOf, goal_keys}
use Rattle.call_patterns.specs.declared.key.Key.{Key}
use Rattle.term_store.specs.declared.cell.Cell.{Cell}
use Rattle.term_store.specs.Later.{AreLonger}
use Rattle.term_store.proofs.Laws.{longer-itself, longer-further}
use Rattle.journal_base.specs.Goals.{Goal}
use Rattle.journal_base.specs.Looks.{CountsVisits, HasRoom, given}
use Rattle.journal_base.specs.View.{View, Grows, Looks, IsSound, Gives, Out}
use Rattle.journal_base.specs.declared.tally.Tally.{Tally}
use Rattle.journals.specs.Journal.{Journal, clause_named}
use Rattle.wam_machine.specs.States.{Setting, Use, Match, ToErase}
use Rattle.wam_machine.specs.Procedures.{call_of}
use Rattle.wam_machine.specs.Cursors.{Begins, goal_of, part, names_left, visits_left, AreNamed, IsUsable, MayBeUsed, IsChangeable}
use Rattle.wam_machine.specs.Sweeps.{IsSwept, Sweeps, SweepsOne, HasOnlySwept}
use Rattle.wam_machine.specs.Terms.{Said, AreTerms, IsBuilt, KeepsCells, said, built, use_of, call_now}
use Rattle.wam_machine.specs.View.{setting, IsFronted, Makes}
use Rattle.wam_machine.specs.declared.state.Host.{Host}
use Rattle.wam_machine.specs.declared.state.Machine.{Machine}
use Rattle.wam_machine.specs.declared.terms.Call.{Call}
use Rattle.wam_machine.proofs.Begins.{begins_before, grows_refl, grows_trans, fronted_on}
use Rattle.wam_machine.proofs.Room.{bounded}
use Rattle.wam_machine.proofs.SweptKinds.{swept_trees}
use Rattle.wam_machine.proofs.SweptOn.{HasSweptTo, swept_start, swept_end, swept_step, swept_stop, swept_trans, setting_fresh, keys_longer, keys_same, names_same, visits_same, named_step}

-- the next name was taken of a call
pub record HasNext {C : Type 0} (u w : View) (serves after : C → Goal → Type 0) (group : C → ℕ) (out later : Out) (rest : C → Goal → Journal → List ℕ) (may : C → Goal → Journal → ℕ) (at : C → ℕ) (ahead : C → ℕ)
    (n : Machine C) (c d : Call C) (t : Tally) (name : Option ℕ) : Type 0 where
  pub seen : Looks u w
  pub others : (e : C) (g : Goal) → serves e g → after e g
  pub out_is : later ≡ out
  pub used : d.used ≡ c.used
  pub goal_is : d.goal ≡ c.goal
  pub at_is : at d.cursor ≡ at c.cursor
  pub group_is : group d.cursor ≡ group c.cursor
  pub serve : after d.cursor (goal_of (call_now n.terms d))
  pub gives : (j : Journal) → Begins w j → Gives name (names_left rest at j (call_now n.terms c)) (names_left rest at j (call_now n.terms d))
  pub visits : (j : Journal) → Begins w j → t.visits + visits_left may at j (call_now n.terms d) ≤ n.tally.visits + visits_left may at j (call_now n.terms c)
  pub counts : CountsVisits n.tally t
  pub ahead_is : n.tally.visits + given name + ahead d.cursor ≤ t.visits + ahead c.cursor

-- what may be said of the machine and the base at any time
pub record IsWhole {C : Type 0} (v u : View) (serves after : C → Goal → Type 0) (group : C → ℕ) (out later : Out) (m n : Machine C) (a c : Call C) : Type 0 where
  pub seen : Grows v u
  pub others : (e : C) (g : Goal) → serves e g → after e g
  pub out_is : later ≡ out
  pub group_is : group c.cursor ≡ group a.cursor
  pub serve : (g : Goal) × after c.cursor g
  pub same : HasOnlySwept m n
  pub stack : (said n.terms).stack ≡ (said m.terms).stack
  pub tally : CountsVisits m.tally n.tally

-- what was done to the terms and the fronts
pub record AreSwept {C : Type 0} (u : View) (m n : Machine C) : Type 0 where
  pub terms : AreTerms n.terms
  pub names : AreLonger m.terms.names n.terms.names
  pub cells : KeepsCells m.terms n.terms
  pub said_is : said n.terms ≡ record (said m.terms) { fresh = (said n.terms).fresh }
  pub front : IsFronted u n.front

-- what was done so far
pub record IsSweeping {C : Type 0} (v u : View) (serves after : C → Goal → Type 0) (group : C → ℕ) (out later : Out) (rest : C → Goal → Journal → List ℕ) (may : C → Goal → Journal → ℕ) (at : C → ℕ) (ahead : C → ℕ)
    (h : Host) (goal : Option Cell) (m n : Machine C) (a c : Call C) : Type 0 where
  pub whole : IsWhole v u serves after group out later m n a c
  pub terms : AreSwept u m n
  pub goal_is : c.goal ≡ a.goal
  pub used : c.used ≡ a.used
  pub serve : after c.cursor (goal_of (call_now m.terms c))
  pub made : List Entry
  pub own : u.own ≡ v.own ++ made
  pub so : (j : Journal) → Begins u j → HasSweptTo rest may at ahead made (setting h m j) (option_map (built m.terms) goal) (call_now m.terms a) (call_now m.terms c) m n
  pub named : (j : Journal) → Begins u j → AreNamed rest at j (call_now m.terms c)

-- what is done of one clause
pub record IsOneSwept {C : Type 0} (u w : View) (serves after : C → Goal → Type 0) (out later : Out) (rest : C → Goal → Journal → List ℕ) (at : C → ℕ)
    (h : Host) (goal : Option Cell) (n new : Machine C) (d : Call C) (k : ℕ) (on : Bool) : Type 0 where
  pub seen : Grows u w
  pub others : (e : C) (g : Goal) → serves e g → after e g
  pub out_is : later ≡ out
  pub same : HasOnlySwept n new
  pub terms : AreSwept w n new
  pub tally : new.tally ≡ n.tally
  pub sweeps : Makes u w (λ made. (j : Journal) → Begins w j → SweepsOne rest at made (setting h n j) (option_map (built n.terms) goal) (take (at d.cursor) j) k n new on)

module _ {C : Type 0} (v : View) (serves : C → Goal → Type 0) (group : C → ℕ) (out : Out) (rest : C → Goal → Journal → List ℕ) (may : C → Goal → Journal → ℕ) (at : C → ℕ) (ahead : C → ℕ)
    (h : Host) (goal : Option Cell) (m : Machine C) (a : Call C) where
  pub sweeping_start : IsSound v → AreTerms m.terms → IsFronted v m.front → serves a.cursor (goal_of (call_now m.terms a)) → ((j : Journal) → Begins v j → AreNamed rest at j (call_now m.terms a))
      → IsSweeping v v serves serves group out out rest may at ahead h goal m m a a
  sweeping_start sound terms front serve named = record {
    whole = record {
      seen = grows_refl v sound;
      others = λ e g s. s;
      out_is = refl;
      group_is = refl;
      serve = (goal_of (call_now m.terms a), serve);
      same = refl;
      stack = refl;
      tally = refl;
    };
    terms = record { terms = terms; names = longer-itself m.terms.names; cells = λ c k. (k, refl); said_is = refl; front = front };
    goal_is = refl;
    used = refl;
    serve = serve;
    made = [];
    own = sym (append-nil v.own);
    so = λ j b. swept_start rest may at ahead (setting h m j) (option_map (built m.terms) goal) (call_now m.terms a) m;
    named = named;
  }

  module _ (u : View) (after : C → Goal → Type 0) (later : Out) (n : Machine C) (c : Call C) (i : IsSweeping v u serves after group out later rest may at ahead h goal m n a c) (goal_built : IsBuilt m.terms a.goal) where
    -- a call's goal stands for what it stood for
    now_built : (d : Call C) → d.goal ≡ c.goal → IsBuilt n.terms d.goal × (built n.terms d.goal ≡ built m.terms d.goal)
    now_built d e = i.terms.cells d.goal (subst (IsBuilt m.terms) (sym (e ∙ i.goal_is)) goal_built)

    goal_same : (d : Call C) → d.goal ≡ c.goal → goal_of (call_now n.terms d) ≡ goal_of (call_now m.terms d)
    goal_same d e = ap (call_of d.procedure) (now_built d e).1

    names_now : (d : Call C) (j : Journal) → d.goal ≡ c.goal → names_left rest at j (call_now n.terms d) ≡ names_left rest at j (call_now m.terms d)
    names_now d j e = names_same rest may at j (call_now m.terms d) (call_now n.terms d).used (built n.terms d.goal) (now_built d e).1

    visits_now : (d : Call C) (j : Journal) → d.goal ≡ c.goal → visits_left may at j (call_now n.terms d) ≡ visits_left may at j (call_now m.terms d)
    visits_now d j e = visits_same rest may at j (call_now m.terms d) (call_now n.terms d).used (built n.terms d.goal) (now_built d e).1

    -- the next name may be asked for
    pub sweeping_cell : IsBuilt n.terms c.goal
    sweeping_cell = (now_built c refl).0

    pub sweeping_serves : after c.cursor (goal_of (call_now n.terms c))
    sweeping_serves = subst (after c.cursor) (sym (goal_same c refl)) i.serve

    pub sweeping_keys : (ks : List (Option Key)) → AreKeysOf m.terms.names ks → AreKeysOf n.terms.names ks
    sweeping_keys ks k = keys_longer m.terms.names n.terms.names ks i.terms.names k

    pub sweeping_of : (ks : List (Option Key)) → AreKeysOf m.terms.names ks → goal_keys m.terms.names ks ≡ keys (built m.terms a.goal) → goal_keys n.terms.names ks ≡ keys (built n.terms c.goal)
    sweeping_of ks k e =
        keys_same m.terms.names n.terms.names ks i.terms.names k ∙ e
        ∙ ap (λ (x : Cell). keys (built m.terms x)) (sym i.goal_is) ∙ sym (ap keys (now_built c refl).1)

    pub sweeping_room : HasRoom m.tally → ((j : Journal) → Begins v j → m.tally.visits + visits_left may at j (call_now m.terms a) ≤ 0x8000_0000_0000_0000) → HasRoom n.tally
    sweeping_room r most =
        subst HasRoom (sym i.whole.tally)
        (record {
          looks = r.looks;
          scans = r.scans;
          kept = r.kept;
          wants = r.wants;
          visits = bounded u n.tally.visits 0x8000_0000_0000_0000 i.whole.seen.sound (λ j b. low j b);
          built = r.built;
          indexes = r.indexes;
        })
      where
        low : (j : Journal) → Begins u j → n.tally.visits ≤ 0x8000_0000_0000_0000
        low j b =
            let p : n.tally.visits + visits_left may at j (call_now m.terms c) ≤ m.tally.visits + visits_left may at j (call_now m.terms a) = (i.so j b).most in
            let q = most j (begins_before v u j i.whole.seen b) in
            omega (arith, p, q)

    module _ (w : View) (serves1 : C → Goal → Type 0) (out1 : Out) (d : Call C) (t : Tally) where
      module _ (name : Option ℕ) (x : HasNext u w after serves1 group later out1 rest may at ahead n c d t name) where
        goal_next : d.goal ≡ a.goal
        goal_next = x.goal_is ∙ i.goal_is

        gives_now : (j : Journal) → Begins w j → Gives name (names_left rest at j (call_now m.terms c)) (names_left rest at j (call_now m.terms d))
        gives_now j b =
            subst (λ l. Gives name l (names_left rest at j (call_now m.terms d))) (names_now c j refl)
            (subst (Gives name (names_left rest at j (call_now n.terms c))) (names_now d j x.goal_is) (x.gives j b))

        visits_next : (j : Journal) → Begins w j → t.visits + visits_left may at j (call_now m.terms d) ≤ n.tally.visits + visits_left may at j (call_now m.terms c)
        visits_next j b = omega (arith, x.visits j b, visits_now c j refl, visits_now d j x.goal_is)

        serve_now : serves1 d.cursor (goal_of (call_now m.terms d))
        serve_now = subst (serves1 d.cursor) (goal_same d x.goal_is) x.serve

        -- with the next name taken, the same may be said
        pub sweeping_next : IsWhole v w serves serves1 group out out1 m (record n { tally = t }) a d
        sweeping_next = record {
          seen = grows_trans v u w i.whole.seen x.seen.grows;
          others = λ e g s. x.others e g (i.whole.others e g s);
          out_is = x.out_is ∙ i.whole.out_is;
          group_is = x.group_is ∙ i.whole.group_is;
          serve = (goal_of (call_now m.terms d), serve_now);
          same = swept_trans m n (record n { tally = t }) i.whole.same refl;
          stack = i.whole.stack;
          tally = x.counts ∙ ap (λ (y : Tally). let r : Tally = record y { visits = t.visits } in r) i.whole.tally;
        }

        pub next_front : IsFronted w n.front
        next_front = fronted_on u w n.front x.seen i.terms.front

      -- no clause is left
      pub sweeping_end : HasNext u w after serves1 group later out1 rest may at ahead n c d t None
          → Makes v w (λ made. (j : Journal) → Begins w j → Sweeps rest may at ahead made (setting h m j) (option_map (built m.terms) goal) (call_now m.terms a) (call_now m.terms d) m (record n { tally = t }))
      sweeping_end x = record {
        made = i.made;
        own = x.seen.own ∙ i.own;
        so = λ j b. swept_end rest may at ahead (setting h m j) (option_map (built m.terms) goal) (call_now m.terms a) m i.made (call_now m.terms c) (call_now m.terms d) n t
            (i.so j (begins_before u w j x.seen.grows b)) (gives_now None x j b).0 (visits_next None x j b) x.ahead_is;
      }

      module _ (k : ℕ) (x : HasNext u w after serves1 group later out1 rest may at ahead n c d t (Some k)) where
        used_step : (j : Journal) → Begins w j → IsUsable (call_now m.terms c).used (part at j (call_now m.terms d)) k × AreNamed rest at j (call_now m.terms d)
        used_step j b =
            named_step rest may at j (call_now m.terms c) (call_now m.terms d) k x.at_is (gives_now (Some k) x j b) (ap (use_of (built m.terms)) x.used)
            (i.named j (begins_before u w j x.seen.grows b))

        pub name_there : (j : Journal) → Begins w j → IsSome (clause_named (take (at d.cursor) j) k)
        name_there j b = (used_step j b).0.named

        pub name_changes : (body : Tree) → (call_now m.terms a).used ≡ Match ToErase body → (j : Journal) → Begins w j → IsChangeable (take (at d.cursor) j) k
        name_changes body e j b =
            subst (λ (u : Use). MayBeUsed u (take (at d.cursor) j) k) (ap (use_of (built m.terms)) i.used ∙ e) (used_step j b).0.may

        module _ (z : View) (serves2 : C → Goal → Type 0) (out2 : Out) (new : Machine C) where
          -- whatever becomes of the clause
          pub sweeping_on : Grows w z → ((e : C) (g : Goal) → serves1 e g → serves2 e g) → out2 ≡ out1 → HasOnlySwept (record n { tally = t }) new → (said new.terms).stack ≡ (said n.terms).stack → new.tally ≡ t
              → IsWhole v z serves serves2 group out out2 m new a d
          sweeping_on seen others out_is same stack tally =
              let q = sweeping_next (Some k) x in
              record {
                seen = grows_trans v w z q.seen seen;
                others = λ e g s. others e g (q.others e g s);
                out_is = out_is ∙ q.out_is;
                group_is = q.group_is;
                serve = (q.serve.0, others d.cursor q.serve.0 q.serve.1);
                same = swept_trans m (record n { tally = t }) new q.same same;
                stack = stack ∙ i.whole.stack;
                tally = tally ∙ q.tally ∙ ap (λ (y : Tally). let r : Tally = record m.tally { visits = y.visits } in r) (sym tally);
              }

          module _ (goal_swept : IsSwept (IsBuilt m.terms) goal) (on : Bool) (o : IsOneSwept w z serves1 serves2 out1 out2 rest at h goal (record n { tally = t }) new d k on) where
            pub one_terms : AreSwept z m new
            one_terms = record {
              terms = o.terms.terms;
              names = longer-further m.terms.names n.terms.names new.terms.names i.terms.names o.terms.names;
              cells = λ e b. let p = i.terms.cells e b in let q = o.terms.cells e p.0 in (q.0, q.1 ∙ p.1);
              said_is = o.terms.said_is ∙ ap (λ (s : Said C). let r : Said C = record s { fresh = (said new.terms).fresh } in r) i.terms.said_is;
              front = o.terms.front;
            }

            one_whole : IsWhole v z serves serves2 group out out2 m new a d
            one_whole = sweeping_on o.seen o.others o.out_is o.same (ap (λ (s : Said C). s.stack) o.terms.said_is) o.tally

            one_sweeps : (j : Journal) → Begins z j → SweepsOne rest at o.sweeps.made (setting h m j) (option_map (built m.terms) goal) (part at j (call_now m.terms d)) k (record n { tally = t }) new on
            one_sweeps j b =
                subst (λ (s : Setting). SweepsOne rest at o.sweeps.made s (option_map (built m.terms) goal) (take (at d.cursor) j) k (record n { tally = t }) new on) (setting_fresh h m n j i.terms.said_is)
                (subst (λ (g : Option Tree). SweepsOne rest at o.sweeps.made (setting h n j) g (take (at d.cursor) j) k (record n { tally = t }) new on) (swept_trees m.terms n.terms goal i.terms.cells goal_swept)
                (o.sweeps.so j b))

            one_own : z.own ≡ v.own ++ (i.made ++ o.sweeps.made)
            one_own = o.sweeps.own ∙ ap (λ (l : List Entry). l ++ o.sweeps.made) (x.seen.own ∙ i.own) ∙ append_assoc v.own i.made o.sweeps.made

            -- others may follow
            pub sweeping_step : on ≡ true → IsSweeping v z serves serves2 group out out2 rest may at ahead h goal m new a d
            sweeping_step e = record {
              whole = one_whole;
              terms = one_terms;
              goal_is = x.goal_is ∙ i.goal_is;
              used = x.used ∙ i.used;
              serve = o.others d.cursor (goal_of (call_now m.terms d)) (serve_now (Some k) x);
              made = i.made ++ o.sweeps.made;
              own = one_own;
              so = λ j b.
                  let before = begins_before w z j o.seen b in
                  swept_step rest may at ahead (setting h m j) (option_map (built m.terms) goal) (call_now m.terms a) m i.made (call_now m.terms c) (call_now m.terms d) n t
                  (i.so j (begins_before u w j x.seen.grows before)) o.sweeps.made k new on x.at_is (gives_now (Some k) x j before) (one_sweeps j b) (visits_next (Some k) x j before) x.ahead_is o.tally e;
              named = λ j b. (used_step j (begins_before w z j o.seen b)).1;
            }

            -- there was no room
            pub sweeping_stop : on ≡ false
                → Makes v z (λ made. (j : Journal) → Begins z j → Sweeps rest may at ahead made (setting h m j) (option_map (built m.terms) goal) (call_now m.terms a) (call_now m.terms d) m new)
            sweeping_stop e = record {
              made = i.made ++ o.sweeps.made;
              own = one_own;
              so = λ j b.
                  let before = begins_before w z j o.seen b in
                  swept_stop rest may at ahead (setting h m j) (option_map (built m.terms) goal) (call_now m.terms a) m i.made (call_now m.terms c) (call_now m.terms d) n t
                  (i.so j (begins_before u w j x.seen.grows before)) o.sweeps.made k new on x.at_is (gives_now (Some k) x j before) (one_sweeps j b) (visits_next (Some k) x j before) x.ahead_is o.tally e;
            }

            pub one_said : said new.terms ≡ record (said m.terms) { fresh = (said new.terms).fresh }
            one_said = one_terms.said_is

-- the loop comes to an end: the visits that were made ahead fall, or others rise, up to a bound
pub fewer : (v t c d : ℕ) → v + 1 + d ≤ t + c → t ≤ 0x8000_0000_0000_0000 → 0x8000_0000_0000_0000 + d - t < 0x8000_0000_0000_0000 + c - v
fewer v t c d h k = omega (arith, h, k)
