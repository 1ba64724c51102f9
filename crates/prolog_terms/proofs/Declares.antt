-- What a declaration leaves.
use Rattle.std.proofs.Common.{◌≡◌, ◌≢◌, ℕ, Bool, true, false, List, [], ◌∷◌, refl, sym, ap, subst, ◌∙◌}
use Rattle.std.specs.Cmp.Lexicographic.{bytes_decides}
use Rattle.std.specs.Map.{lookup}
use Rattle.indexmap.specs.IndexMap.{insert_entry}
use Rattle.prolog_terms.specs.declared.ops.OpKind.{OpKind}
use Rattle.prolog_terms.specs.declared.ops.OpKind.TheVariants.{Xfx, Xfy, Yfx, Fy, Fx, Xf, Yf}
use Rattle.prolog_terms.specs.declared.ops.Definitions.{Definitions}
use Rattle.prolog_terms.specs.Operators.{Table, same_text, or_no_operator, definitions, defined, declared, AgreeBut, ChangesAlone}

abbrev found : Table → List ℕ → Definitions
found table name = or_no_operator (lookup (same_text name) table)

inserted-found : (p : ℕ) (kind : OpKind) (name : List ℕ) (table : Table) → insert_entry same_text table name (defined kind p (found table name)) ≡ declared p kind name table
inserted-found p kind name [] = refl
inserted-found p kind name (e ∷ table) = by (same_text name e.0) refl (inserted-found p kind name table)
  where
    by : (b : Bool) → same_text name e.0 ≡ b → insert_entry same_text table name (defined kind p (found table name)) ≡ declared p kind name table
        → insert_entry same_text (e ∷ table) name (defined kind p (found (e ∷ table) name)) ≡ declared p kind name (e ∷ table)
    by true h rest = rw h refl
    by false h rest = rw h (ap (λ t. e ∷ t) rest)

pub inserted : (p : ℕ) (kind : OpKind) (name : List ℕ) (table : Table) → insert_entry same_text table name (defined kind p (definitions table name)) ≡ declared p kind name table
unfolding definitions
inserted p kind name table = inserted-found p kind name table

-- the same, where the map's steps name the parts
pub put : (p : ℕ) (kind : OpKind) (name text : List ℕ) (old entries new : Table) (d : Definitions) → entries ≡ old → text ≡ name → d ≡ defined kind p (definitions old text)
    → new ≡ insert_entry same_text entries name d → new ≡ declared p kind name old
put p kind name text old entries new d e t g n =
    n ∙ ap (λ x. insert_entry same_text x name d) e ∙ ap (λ x. insert_entry same_text old name x) (g ∙ ap (λ x. defined kind p (definitions old x)) t) ∙ inserted p kind name old

same_self : (name : List ℕ) → same_text name name ≡ true
same_self name = (bytes_decides name name).1 refl

here : (p : ℕ) (kind : OpKind) (name : List ℕ) (table : Table) → found (declared p kind name table) name ≡ defined kind p (found table name)
here p kind name [] = rw (same_self name) refl
here p kind name (e ∷ table) = by (same_text name e.0) refl (here p kind name table)
  where
    by : (b : Bool) → same_text name e.0 ≡ b → found (declared p kind name table) name ≡ defined kind p (found table name)
        → found (declared p kind name (e ∷ table)) name ≡ defined kind p (found (e ∷ table) name)
    by true h rest = rw (h, h) refl
    by false h rest = rw (h, h) rest

other_text : (other name : List ℕ) → other ≢ name → same_text other name ≡ false
other_text other name differ = by (same_text other name) refl
  where
    by : (b : Bool) → same_text other name ≡ b → same_text other name ≡ false
    by true h = absurd (differ ((bytes_decides other name).0 h))
    by false h = h

others : (p : ℕ) (kind : OpKind) (name : List ℕ) (table : Table) (other : List ℕ) → other ≢ name → found (declared p kind name table) other ≡ found table other
others p kind name [] other differ = rw (other_text other name differ) refl
others p kind name (e ∷ table) other differ = by (same_text name e.0) (same_text other e.0) refl refl (others p kind name table other differ)
  where
    by : (b k : Bool) → same_text name e.0 ≡ b → same_text other e.0 ≡ k → found (declared p kind name table) other ≡ found table other
        → found (declared p kind name (e ∷ table)) other ≡ found (e ∷ table) other
    by true true h k rest = absurd (differ ((bytes_decides other e.0).0 k ∙ sym ((bytes_decides name e.0).0 h)))
    by true false h k rest = rw (h, k) refl
    by false true h k rest = rw (h, k) refl
    by false false h k rest = rw (h, k) rest

agree : (p : ℕ) (kind : OpKind) (d : Definitions) → AgreeBut kind d (defined kind p d)
agree p Fy d = (refl, refl)
agree p Fx d = (refl, refl)
agree p Xfx d = (refl, refl)
agree p Xfy d = (refl, refl)
agree p Yfx d = (refl, refl)
agree p Xf d = (refl, refl)
agree p Yf d = (refl, refl)

pub changes_alone : (p : ℕ) (kind : OpKind) (name : List ℕ) (old new : Table) → new ≡ declared p kind name old → ChangesAlone p kind name old new
unfolding definitions
changes_alone p kind name old new e =
    let h : found new name ≡ defined kind p (found old name) = ap (λ t. found t name) e ∙ here p kind name old in
    record {
      operator = h;
      classes = subst (λ d. AgreeBut kind (found old name) d) (sym h) (agree p kind (found old name));
      names = λ other differ. ap (λ t. found t other) e ∙ others p kind name old other differ;
    }
