-- What the load's base holds after the answers of its updates.
use Rattle.std.proofs.Common.{◌≡◌, ◌⊎◌, inl, inr, ℕ, ◌+◌, ◌<◌, [], ◌∷◌, ◌++◌, length, true, false, Some, None, refl, sym, ◌∙◌, ap, subst}
use Rattle.prolog_terms.specs.Clauses.{IsClause}
use Rattle.prolog_terms.specs.Indicators.{indicator_of}
use Rattle.prolog_terms.specs.declared.entry.Indicator.{Indicator}
use Rattle.prolog_terms.specs.declared.entry.Clause.{Clause}
use Rattle.prolog_terms.specs.declared.entry.End.TheVariants.{Back}
use Rattle.prolog_terms.specs.declared.entry.Kind.{Kind}
use Rattle.prolog_terms.specs.declared.entry.Kind.TheVariants.{Static}
use Rattle.prolog_terms.specs.declared.entry.What.{What}
use Rattle.prolog_terms.specs.declared.entry.What.TheVariants.{Declare, Add}
use Rattle.journals.specs.Journal.{Journal, number_of, procedure_named}
use Rattle.journal_base.specs.Space.{used, need}
use Rattle.journal_base.specs.Legal.{Legal, MayAdd}
use Rattle.journal_base.specs.View.{InSeen}
use Rattle.journal_base.specs.Updates.{IsFull, IsDeclared, IsAdded}
use Rattle.journal_base.specs.Plain.{Plain, plain_view, plain_out, IsContinued}
use Rattle.journal_base.specs.declared.answers.Declared.TheVariants as declared
use Rattle.journal_base.specs.declared.answers.Added.TheVariants as added
use Rattle.prolog_session.specs.Load.{by_load, has_room, Placed, with_procedure}
use Rattle.prolog_session.specs.Bases.{sizes_of, HasProcedure, HasClause}
use Rattle.prolog_session.proofs.Plains.{in_seen, to_seen, same_after, more_after}
use Rattle.prolog_session.proofs.Facts.{may_add, named-number, unnamed-number, room, no_room, declared-before, declared-now, not_declared, clause_placed, clause_left}

-- what a base has no room for
pub full : (s : Plain) (what : What) (u n g : ℕ) → IsFull (plain_view s) what u n g → has_room (sizes_of s) s.entries what ≡ false
full s what u n g h =
    let seen = in_seen s (λ J. (used J ≡ u) × (length J ≡ g)) h.seen in
    no_room (sizes_of s) s.entries what (go h.full seen)
  where
    go : (s.words < u + n) ⊎ (g ≡ s.updates) → (used s.entries ≡ u) × (length s.entries ≡ g) → (s.words < used s.entries + need what) ⊎ (length s.entries ≡ s.updates)
    go (inl more) seen = inl (subst (λ (x : ℕ). s.words < x) (ap (λ (x : ℕ). x + n) (sym seen.0) ∙ ap (λ (x : ℕ). used s.entries + x) (sym h.needs)) more)
    go (inr all) seen = inr (seen.1 ∙ all)

-- ---- a procedure

-- it is declared already
pub found : (s t : Plain) (i : Indicator) (p : ℕ) (k : Kind) → t ≡ s → procedure_named t.entries i ≡ Some (p, k) → HasProcedure s t i (Some p)
found s t i p k same named =
    let number : number_of t.entries i ≡ Some p = named-number t.entries i p k named in
    let before : number_of s.entries i ≡ Some p = subst (λ (b : Plain). number_of b.entries i ≡ Some p) same number in
    let w = declared-before (sizes_of s) s.entries i p before in
    record {
      holds = record {
        base = same ∙ ap (λ (x : Placed). record s { entries = x.journal }) (sym w);
        room = ap (λ (x : Placed). x.fits) (sym w);
      };
      numbered = number;
    }

declared_now : (s t : Plain) (i : Indicator) (p : ℕ) → s.number ≡ 0 → number_of s.entries i ≡ None
    → t ≡ record s { entries = s.entries ++ record { by = s.number; what = Declare i Static } ∷ [] } → Legal t.words t.updates t.entries
    → number_of t.entries i ≡ Some p → HasProcedure s t i (Some p)
declared_now s t i p zero absent is legal number =
    let now : t ≡ record s { entries = s.entries ++ by_load (Declare i Static) ∷ [] } =
    is ∙ ap (λ (n : ℕ). record s { entries = s.entries ++ record { by = n; what = Declare i Static } ∷ [] }) zero in
    let has = room (sizes_of s) s.entries (Declare i Static) (subst (λ (b : Plain). Legal b.words b.updates b.entries) now legal) in
    let w = declared-now (sizes_of s) s.entries i absent has in
    record {
      holds = record {
        base = now ∙ ap (λ (x : Placed). record s { entries = x.journal }) (sym w);
        room = ap (λ (x : Placed). x.fits) (sym w);
      };
      numbered = number;
    }

not_declared_now : (s t : Plain) (i : Indicator) (u n g : ℕ) → number_of s.entries i ≡ None → t ≡ s
    → IsFull (plain_view t) (Declare i Static) u n g → HasProcedure s t i None
not_declared_now s t i u n g absent same is =
    let none = subst (λ (b : Plain). has_room (sizes_of b) b.entries (Declare i Static) ≡ false) same (full t (Declare i Static) u n g is) in
    let w = not_declared (sizes_of s) s.entries i absent none in
    record {
      holds = record {
        base = same ∙ ap (λ (x : Placed). record s { entries = x.journal }) (sym w);
        room = ap (λ (x : Placed). x.fits) (sym w);
      };
      numbered = tt;
    }

-- it is declared now
pub declares_done : (s m t : Plain) (i : Indicator) (p : ℕ) → m ≡ s → s.number ≡ 0 → procedure_named m.entries i ≡ None
    → IsContinued m t → plain_out t.out ≡ plain_out m.out → IsDeclared (plain_view m) (plain_view t) i Static (declared.Done p) → HasProcedure s t i (Some p)
declares_done s m t i p same zero absent c o d =
    let go : HasProcedure m t i (Some p) =
    declared_now m t i p (subst (λ (b : Plain). b.number ≡ 0) (sym same) zero) (unnamed-number m.entries i absent) (more_after m t (Declare i Static) c d.0 o)
    (d.0.grows.sound.each t.entries refl).legal
    (named-number t.entries i p Static (in_seen t (λ J. procedure_named J i ≡ Some (p, Static)) d.1)) in
    subst (λ (b : Plain). HasProcedure b t i (Some p)) same go

-- it was declared meanwhile
pub declares_already : (s m t : Plain) (i : Indicator) (p : ℕ) (k : Kind) → m ≡ s
    → IsContinued m t → plain_out t.out ≡ plain_out m.out → IsDeclared (plain_view m) (plain_view t) i Static (declared.Already p k) → HasProcedure s t i (Some p)
declares_already s m t i p k same c o d =
    found s t i p k (same_after m t c d.0 o ∙ same) (in_seen t (λ J. procedure_named J i ≡ Some (p, k)) d.1)

-- its declaration has no room
pub declares_full : (s m t : Plain) (i : Indicator) (u n g : ℕ) → m ≡ s → procedure_named m.entries i ≡ None
    → IsContinued m t → plain_out t.out ≡ plain_out m.out → IsDeclared (plain_view m) (plain_view t) i Static (declared.Full u n g) → HasProcedure s t i None
declares_full s m t i u n g same absent c o d =
    not_declared_now s t i u n g (subst (λ (b : Plain). number_of b.entries i ≡ None) same (unnamed-number m.entries i absent)) (same_after m t c d.0 o ∙ same) d.2

-- ---- a clause

clause_done : (s m t : Plain) (i : Indicator) (p : ℕ) (c : Clause) → s.number ≡ 0 → HasProcedure s m i (Some p)
    → t ≡ record m { entries = m.entries ++ record { by = m.number; what = Add Back p c } ∷ [] } → Legal t.words t.updates t.entries → HasClause s t i c true
clause_done s m t i p c zero h is legal =
    let J' : Journal = (with_procedure (sizes_of s) s.entries i).journal in
    let what : What = Add Back p c in
    let now : t ≡ record s { entries = J' ++ by_load what ∷ [] } =
    is ∙ ap (λ (b : Plain). record b { entries = b.entries ++ record { by = b.number; what = what } ∷ [] }) h.holds.base
    ∙ ap (λ (n : ℕ). record s { entries = J' ++ record { by = n; what = what } ∷ [] }) zero in
    let has = room (sizes_of s) J' what (subst (λ (b : Plain). Legal b.words b.updates b.entries) now legal) in
    let number : number_of J' i ≡ Some p = subst (λ (b : Plain). number_of b.entries i ≡ Some p) h.holds.base h.numbered in
    let w = clause_placed (sizes_of s) s.entries i c p true (sym h.holds.room) number has in
    record {
      base = now ∙ ap (λ (x : Placed). record s { entries = x.journal }) (sym w);
      room = ap (λ (x : Placed). x.fits) (sym w);
    }

clause_full : (s m t : Plain) (i : Indicator) (p u n g : ℕ) (c : Clause) → HasProcedure s m i (Some p)
    → t ≡ m → IsFull (plain_view t) (Add Back p c) u n g → HasClause s t i c false
clause_full s m t i p u n g c h same is =
    let J' : Journal = (with_procedure (sizes_of s) s.entries i).journal in
    let what : What = Add Back p c in
    let now : t ≡ record s { entries = J' } = same ∙ h.holds.base in
    let none : has_room (sizes_of s) J' what ≡ false = subst (λ (b : Plain). has_room (sizes_of b) b.entries what ≡ false) now (full t what u n g is) in
    let number : number_of J' i ≡ Some p = subst (λ (b : Plain). number_of b.entries i ≡ Some p) h.holds.base h.numbered in
    let w = clause_placed (sizes_of s) s.entries i c p false (sym h.holds.room) number none in
    record {
      base = now ∙ ap (λ (x : Placed). record s { entries = x.journal }) (sym w);
      room = ap (λ (x : Placed). x.fits) (sym w);
    }

-- the clause may be added to the procedure's clauses
pub may_be_added : (s m : Plain) (i : Indicator) (p : ℕ) (c : Clause) → s.number ≡ 0 → HasProcedure s m i (Some p)
    → indicator_of c.head ≡ Some i → IsClause c → InSeen (plain_view m) (λ J. MayAdd J m.number p c)
may_be_added s m i p c zero h named clause =
    let may = may_add m.entries p i c h.numbered named clause in
    let number : 0 ≡ m.number = sym zero ∙ sym (ap (λ (b : Plain). b.number) h.holds.base) in
    to_seen m (λ J. MayAdd J m.number p c) (subst (λ (n : ℕ). MayAdd m.entries n p c) number may)

-- the clause is added
pub adds_done : (s m t : Plain) (i : Indicator) (p k : ℕ) (c : Clause) → s.number ≡ 0 → HasProcedure s m i (Some p)
    → IsContinued m t → plain_out t.out ≡ plain_out m.out → IsAdded (plain_view m) (plain_view t) (Add Back p c) (added.Done k) → HasClause s t i c true
adds_done s m t i p k c zero h on o d =
    clause_done s m t i p c zero h (more_after m t (Add Back p c) on d.0 o) (d.0.grows.sound.each t.entries refl).legal

-- the clause has no room
pub adds_full : (s m t : Plain) (i : Indicator) (p u n g : ℕ) (c : Clause) → HasProcedure s m i (Some p)
    → IsContinued m t → plain_out t.out ≡ plain_out m.out → IsAdded (plain_view m) (plain_view t) (Add Back p c) (added.Full u n g) → HasClause s t i c false
adds_full s m t i p u n g c h on o d = clause_full s m t i p u n g c h (same_after m t on d.0 o) d.1

-- the procedure had no room
pub adds_none : (s m : Plain) (i : Indicator) (c : Clause) → HasProcedure s m i None → HasClause s m i c false
adds_none s m i c h =
    let w = clause_left (sizes_of s) s.entries i c (sym h.holds.room) in
    record {
      base = h.holds.base ∙ ap (λ (x : Placed). record s { entries = x.journal }) (sym w);
      room = h.holds.room ∙ ap (λ (x : Placed). x.fits) (sym w);
    }
