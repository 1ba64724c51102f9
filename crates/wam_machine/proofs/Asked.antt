-- What is asked of the database, as states of the machine: fronts that are taken, and what was made meanwhile.
use Rattle.std.proofs.Common.{◌≡◌, ℕ, ◌≤◌, List, [], ◌∷◌, ◌++◌, length, take, refl, sym, ap, ◌∙◌, subst, arith, append-nil, append_assoc, Bool, true, false}
use Rattle.std.specs.Prelude.{nat_le, map, if◌then◌else◌}
use Rattle.std.proofs.lemmas.Bool.Decides.{nat_tests}
use Rattle.std.proofs.lemmas.List.{map-append}
use Rattle.prolog_terms.specs.Tree.{Tree}
use Rattle.prolog_terms.specs.Faults.{fault_tree}
use Rattle.prolog_terms.specs.declared.entry.Entry.{Entry}
use Rattle.prolog_terms.specs.declared.entry.Indicator.{Indicator}
use Rattle.prolog_terms.specs.declared.entry.What.{What}
use Rattle.prolog_terms.specs.declared.fault.Fault.{Fault}
use Rattle.journal_base.specs.Goals.{Goal}
use Rattle.journals.specs.Journal.{Journal}
use Rattle.journal_base.specs.View.{View, Grows, Looks, Appends, IsSound}
use Rattle.journal_base.specs.Updates.{IsFull}
use Rattle.wam_machine.specs.States as spec
use Rattle.wam_machine.specs.States.{State, Setting, Outcome, Goes, Unfit, Deed, Updated, taking, asking, updated, is_done, is_full, raises, refusing, no_room}
use Rattle.wam_machine.specs.Cursors.{Begins}
use Rattle.wam_machine.specs.Terms.{Said, said}
use Rattle.wam_machine.specs.View.{setting, state_with, state_of, IsFronted, IsHostOf, HasOnlyAsked, Asks}
use Rattle.wam_machine.specs.declared.state.Host.{Host}
use Rattle.wam_machine.specs.declared.state.Machine.{Machine}
use Rattle.wam_machine.specs.declared.state.Mode.TheVariants.{Raising as RaisingBall}
use Rattle.wam_machine.proofs.Begins.{begins_before, long, fronted}
use Rattle.wam_machine.proofs.Fronted.{done_seen, not_done, full_seen}

-- ---- by the definition

at_most : (m n : ℕ) → m ≤ n → nat_le m n ≡ true
at_most m n h = grind (arith, nat_tests)

-- a front is taken
pub front_taken : (x : Setting) (s : State) (f : ℕ) (fs : List ℕ) (with : Journal → State → Outcome) → s.fronts ≡ f ∷ fs → s.front ≤ f → f ≤ length x.journal
    → taking x s with ≡ with (take f x.journal) (record s { front = f; fronts = fs })
front_taken x s f fs with e low high = rw (e, at_most s.front f low, at_most f (length x.journal) high) refl

-- an update is asked for at a front
module _ (x : Setting) (what : What) (s : State) (f : ℕ) (fs : List ℕ) (done refused : Journal → State → Outcome) (e : s.fronts ≡ f ∷ fs) (low : s.front ≤ f) (high : f ≤ length x.journal) where
  pub asked_done : is_done x s.front (take f x.journal) ≡ true → asking x what s done refused ≡ done (take f x.journal) (updated x what (record s { front = f; fronts = fs }))
  asked_done h =
      let t : State = record s { front = f; fronts = fs } in
      front_taken x s f fs (λ seen t. if is_done x s.front seen then done seen (updated x what t) else refused seen t) e low high
      ∙ ap (λ (b : Bool). if b then done (take f x.journal) (updated x what t) else refused (take f x.journal) t) h

  pub asked_refused : is_done x s.front (take f x.journal) ≡ false → asking x what s done refused ≡ refused (take f x.journal) (record s { front = f; fronts = fs })
  asked_refused h =
      let t : State = record s { front = f; fronts = fs } in
      front_taken x s f fs (λ seen t. if is_done x s.front seen then done seen (updated x what t) else refused seen t) e low high
      ∙ ap (λ (b : Bool). if b then done (take f x.journal) (updated x what t) else refused (take f x.journal) t) h

-- ---- machines that have only asked

module _ {C : Type 0} where
  -- the terms and what was counted are the same
  pub asked_terms : (old new : Machine C) → HasOnlyAsked old new → said new.terms ≡ said old.terms
  asked_terms old new same = ap (λ (m : Machine C). said m.terms) same

  pub asked_setting : (h : Host) (old new : Machine C) (j : Journal) → HasOnlyAsked old new → setting h new j ≡ setting h old j
  asked_setting h old new j same = ap (λ (t : Said C). let x : Setting = record { engine = h.engine; journal = j; words = h.sizes.words; updates = h.sizes.updates; start = h.start; budget = h.budget; shown = t.shown; ops = h.ops.now } in x) (asked_terms old new same)

  pub asked_trans : (old mid new : Machine C) → HasOnlyAsked old mid → HasOnlyAsked mid new → HasOnlyAsked old new
  asked_trans old mid new p q = q ∙ ap (λ (m : Machine C). let r : Machine C = record m { mode = new.mode; front = new.front; fronts = new.fronts } in r) p

  -- one more front is taken
  pub state_fronted : (rest : C → Goal → Journal → List ℕ) (at : C → ℕ) (j : Journal) (old new : Machine C) (deeds : List Deed) (tried : ℕ) (fronts : List ℕ) → HasOnlyAsked old new → new.mode ≡ old.mode
      → record (state_of rest at j old deeds tried fronts) { front = new.front } ≡ state_of rest at j new deeds tried fronts
  state_fronted rest at j old new deeds tried fronts same mode =
      let terms : said new.terms ≡ said old.terms = asked_terms old new same in
      let steps : new.steps ≡ old.steps = ap (λ (m : Machine C). m.steps) same in
      let events : new.events.items ≡ old.events.items = ap (λ (m : Machine C). m.events.items) same in
      rw (mode, terms, steps, events) refl

-- ---- one after another

module _ {C : Type 0} (v w : View) where
  -- the same by another function
  pub asks_as : (f g : Journal → State → Outcome) (old new : Machine C) → ((j : Journal) → Begins w j → (s : State) → g j s ≡ f j s) → Asks v w f old new → Asks v w g old new
  asks_as f g old new same a = record {
    added = a.added;
    made = a.made;
    own = a.own;
    front = a.front;
    fronts_are = a.fronts_are;
    goes = λ j b rest at deeds tried fronts. same j b (state_of rest at j old deeds tried (a.added ++ fronts)) ∙ a.goes j b rest at deeds tried fronts;
  }

  -- no front is taken
  pub asks_quiet : (f : Journal → State → Outcome) (old new : Machine C) → w.own ≡ v.own → IsFronted w new.front → new.fronts.items ≡ old.fronts.items
      → ((j : Journal) → Begins w j → (rest : C → Goal → Journal → List ℕ) (at : C → ℕ) (deeds : List Deed) (tried : ℕ) (fronts : List ℕ)
      → f j (state_of rest at j old deeds tried fronts) ≡ Goes (state_of rest at j new deeds tried fronts))
      → Asks v w f old new
  asks_quiet f old new own front fronts goes = record {
    added = [];
    made = [];
    own = own ∙ sym (append-nil v.own);
    front = front;
    fronts_are = fronts ∙ sym (append-nil old.fronts.items);
    goes = λ j b rest at deeds tried fs. goes j b rest at deeds tried fs ∙ ap (λ (l : List Deed). Goes (state_of rest at j new l tried fs)) (sym (append-nil deeds));
  }

module _ {C : Type 0} (v u w : View) (old mid new : Machine C) where
  -- a front is taken, with what was made meanwhile, and then others
  pub asks_next : (f g : Journal → State → Outcome) (made : List Entry) → u.own ≡ v.own ++ made → mid.fronts.items ≡ old.fronts.items ++ u.seen ∷ []
      → ((j : Journal) → Begins w j → (rest : C → Goal → Journal → List ℕ) (at : C → ℕ) (deeds : List Deed) (tried : ℕ) (fronts : List ℕ)
      → f j (state_of rest at j old deeds tried (u.seen ∷ fronts)) ≡ g j (state_of rest at j mid (deeds ++ map Updated made) tried fronts))
      → Asks u w g mid new → Asks v w f old new
  asks_next f g made own fronts step on = record {
    added = u.seen ∷ on.added;
    made = made ++ on.made;
    own = on.own ∙ ap (λ (l : List Entry). l ++ on.made) own ∙ append_assoc v.own made on.made;
    front = on.front;
    fronts_are = on.fronts_are ∙ ap (λ (l : List ℕ). l ++ on.added) fronts ∙ append_assoc old.fronts.items (u.seen ∷ []) on.added;
    goes = λ j b rest at deeds tried fs.
        step j b rest at deeds tried (on.added ++ fs)
        ∙ on.goes j b rest at (deeds ++ map Updated made) tried fs
        ∙ ap (λ (l : List Deed). Goes (state_of rest at j new l tried fs))
        (append_assoc deeds (map Updated made) (map Updated on.made) ∙ ap (λ (l : List Deed). deeds ++ l) (sym (map-append Updated made on.made)));
  }

-- the machine takes the front that is seen
pub record IsTaken {C : Type 0} (u : View) (old mid : Machine C) : Type 0 where
  pub same : HasOnlyAsked old mid
  pub mode : mid.mode ≡ old.mode
  pub front : mid.front ≡ u.seen
  pub fronts : mid.fronts.items ≡ old.fronts.items ++ u.seen ∷ []

pub taking_front : {C : Type 0} (u : View) (old mid : Machine C) → HasOnlyAsked old mid → mid.mode ≡ old.mode → mid.front ≡ u.seen → mid.fronts.items ≡ old.fronts.items ++ u.seen ∷ [] → IsTaken u old mid
taking_front u old mid same mode front fronts = record { same = same; mode = mode; front = front; fronts = fronts }

module _ {C : Type 0} (v u w : View) (h : Host) (old mid new : Machine C) (t : IsTaken u old mid) (g : Grows u w) (front : IsFronted v old.front) where
  -- a front is taken
  pub asks_taking : (with : Journal → Journal → State → Outcome) → Looks v u → Asks u w (λ j s. with j (take u.seen j) s) mid new → Asks v w (λ j s. taking (setting h old j) s (with j)) old new
  asks_taking with l on =
      asks_next v u w old mid new (λ j s. taking (setting h old j) s (with j)) (λ j s. with j (take u.seen j) s) [] (l.own ∙ sym (append-nil v.own)) t.fronts
      (λ j b rest at deeds tried fs.
      let low : old.front ≤ u.seen = omega (arith, front.reached, l.grows.front) in
      let high : u.seen ≤ length j = long u j l.grows.sound (begins_before u w j g b) in
      front_taken (setting h old j) (state_of rest at j old deeds tried (u.seen ∷ fs)) u.seen fs (with j) refl low high
      ∙ ap (with j (take u.seen j))
      (ap (λ (n : ℕ). let r : State = record (state_of rest at j old deeds tried fs) { front = n } in r) (sym t.front) ∙ state_fronted rest at j old mid deeds tried fs t.same t.mode
      ∙ ap (λ (l : List Deed). state_of rest at j mid l tried fs) (sym (append-nil deeds))))
      on

  module _ (k : IsHostOf h v) (what : What) (done refused : Journal → Journal → State → Outcome) where
    -- an update is asked for, and is done
    pub asks_done : IsSound v → Appends v u what → Asks u w (λ j s. done j (take u.seen j) s) mid new → Asks v w (λ j s. asking (setting h old j) what s (done j) (refused j)) old new
    asks_done sound a on =
        let is : h.engine ≡ u.number = k.engine ∙ sym a.grows.number in
        asks_next v u w old mid new (λ j s. asking (setting h old j) what s (done j) (refused j)) (λ j s. done j (take u.seen j) s) (record { by = u.number; what = what } ∷ []) a.own t.fronts
        (λ j b rest at deeds tried fs.
        let here : Begins u j = begins_before u w j g b in
        let low : old.front ≤ u.seen = omega (arith, front.reached, a.grows.front) in
        let high : u.seen ≤ length j = long u j a.grows.sound here in
        asked_done (setting h old j) what (state_of rest at j old deeds tried (u.seen ∷ fs)) u.seen fs (done j) (refused j) refl low high
        (done_seen (setting h old j) v u what old.front j is sound front.reached a here)
        ∙ ap (done j (take u.seen j))
        (ap (λ (n : ℕ). let r : State = record (state_of rest at j old (deeds ++ Updated (record { by = h.engine; what = what }) ∷ []) tried fs) { front = n } in r) (sym t.front)
        ∙ state_fronted rest at j old mid (deeds ++ Updated (record { by = h.engine; what = what }) ∷ []) tried fs t.same t.mode
        ∙ ap (λ (n : ℕ). state_of rest at j mid (deeds ++ Updated (record { by = n; what = what }) ∷ []) tried fs) is))
        on

    -- an update is asked for, and is refused
    pub asks_refused : Looks v u → Asks u w (λ j s. refused j (take u.seen j) s) mid new → Asks v w (λ j s. asking (setting h old j) what s (done j) (refused j)) old new
    asks_refused l on =
        let is : h.engine ≡ u.number = k.engine ∙ sym l.grows.number in
        asks_next v u w old mid new (λ j s. asking (setting h old j) what s (done j) (refused j)) (λ j s. refused j (take u.seen j) s) [] (l.own ∙ sym (append-nil v.own)) t.fronts
        (λ j b rest at deeds tried fs.
        let here : Begins u j = begins_before u w j g b in
        let low : old.front ≤ u.seen = omega (arith, front.reached, l.grows.front) in
        let high : u.seen ≤ length j = long u j l.grows.sound here in
        asked_refused (setting h old j) what (state_of rest at j old deeds tried (u.seen ∷ fs)) u.seen fs (done j) (refused j) refl low high
        (not_done (setting h old j) v u old.front j is l front here)
        ∙ ap (refused j (take u.seen j))
        (ap (λ (n : ℕ). let r : State = record (state_of rest at j old deeds tried fs) { front = n } in r) (sym t.front) ∙ state_fronted rest at j old mid deeds tried fs t.same t.mode
        ∙ ap (λ (l : List Deed). state_of rest at j mid l tried fs) (sym (append-nil deeds))))
        on

-- ---- where it ends

-- the machine has taken all that is seen
pub taken_front : {C : Type 0} (u : View) (old mid : Machine C) → IsSound u → IsTaken u old mid → IsFronted u mid.front
taken_front u old mid s t = subst (IsFronted u) (sym t.front) (fronted u u.seen s refl)

-- nothing further is asked
pub asks_nothing : {C : Type 0} (u : View) (m : Machine C) → IsFronted u m.front → Asks u u (λ j s. Goes s) m m
asks_nothing u m front = asks_quiet u u (λ j s. Goes s) m m refl front refl (λ j b rest at deeds tried fs. refl)

-- a ball is raised
pub asks_raised : {C : Type 0} (v w : View) (m : Machine C) (ball : Tree) (fault : Fault) (i : Indicator) → ball ≡ fault_tree fault i → w.own ≡ v.own → IsFronted w m.front
    → Asks v w (λ j s. raises fault i s) m (record m { mode = RaisingBall ball })
asks_raised v w m ball fault i is own front =
    asks_quiet v w (λ j s. raises fault i s) m (record m { mode = RaisingBall ball }) own front refl
    (λ j b rest at deeds tried fs. ap (λ (t : Tree). Goes (state_with rest at j (said m.terms) (spec.Raising t) m.steps m.events.items m.front deeds tried fs)) (sym is))

-- an update has no room in what is seen
pub refused_full : (h : Host) (u : View) (i : Indicator) (what : What) (n k g : ℕ) (x : Setting) (j : Journal) (s : State) → IsHostOf h u → x.words ≡ h.sizes.words → x.updates ≡ h.sizes.updates
    → IsFull u what n k g → Begins u j → refusing x i what (take u.seen j) s ≡ raises no_room i s
refused_full h u i what n k g x j s host words updates full b =
    ap (λ (t : Bool). if t then raises no_room i s else Unfit) (full_seen x u what n k g j (words ∙ host.words) (updates ∙ host.updates) full b)
