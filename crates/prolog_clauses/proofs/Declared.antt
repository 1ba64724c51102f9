-- Names of one type and priority make no name refused.
use Rattle.std.proofs.Common.{◌≡◌, ℕ, ◌+◌, ◌<◌, length, take, drop, get_or, Bool, true, false, ◌&&◌, nat_lt, List, [], ◌∷◌, ◌++◌, Option, Some, None, if◌then◌else◌, refl, sym, ap, ◌∙◌}
use Rattle.std.specs.Cmp.Lexicographic.{bytes_decides}
use Rattle.std.proofs.lemmas.Bool.{true≢false}
use Rattle.std.proofs.lemmas.List.{take_more, drop_more}
use Rattle.prolog_terms.specs.Operators.{Table, same_text, definitions, defined, is_comma, is_reserved, clashes, refusal, declared, all_declared, ChangesAlone}
use Rattle.prolog_terms.specs.declared.ops.OpKind.{OpKind}
use Rattle.prolog_terms.specs.declared.ops.OpKind.TheVariants.{Xfx, Xfy, Yfx, Fy, Fx, Xf, Yf}
use Rattle.prolog_terms.specs.declared.ops.OpFault.{OpFault}
use Rattle.prolog_terms.specs.declared.ops.OpFault.TheVariants.{Comma, Reserved, Clash}
use Rattle.prolog_terms.specs.declared.ops.Definitions.{Definitions}
use Rattle.prolog_terms.specs.declared.fault.Fault.{Fault}
use Rattle.prolog_clauses.specs.Declarations.{refused_or, permission}

-- what clashes is of another class than the type
clashes-defined : (k : OpKind) (p : ℕ) (d : Definitions) → clashes k (defined k p d) ≡ clashes k d
clashes-defined Xfx p d = refl
clashes-defined Xfy p d = refl
clashes-defined Yfx p d = refl
clashes-defined Fy p d = refl
clashes-defined Fx p d = refl
clashes-defined Xf p d = refl
clashes-defined Yf p d = refl

clashes-same : (p : ℕ) (k : OpKind) (name : List ℕ) (old new : Table) → ChangesAlone p k name old new → (other : List ℕ) (b : Bool) → same_text other name ≡ b
    → clashes k (definitions new other) ≡ clashes k (definitions old other)
clashes-same p k name old new h other true e =
    let same : other ≡ name = (bytes_decides other name).0 e in
    ap (λ n. clashes k (definitions new n)) same ∙ (ap (clashes k) h.operator ∙ (clashes-defined k p (definitions old name) ∙ ap (λ n. clashes k (definitions old n)) (sym same)))
clashes-same p k name old new h other false e =
    ap (clashes k) (h.names other (λ same. absurd (true≢false (sym ((bytes_decides other name).1 same) ∙ e))))

refusal-same : (p : ℕ) (k : OpKind) (name : List ℕ) (old new : Table) → ChangesAlone p k name old new → (other : List ℕ) → refusal p k other new ≡ refusal p k other old
refusal-same p k name old new h other =
    ap (λ b. if is_comma other then Some Comma else if is_reserved other then Some Reserved else if nat_lt 0 p && b then Some Clash else None)
    (clashes-same p k name old new h other (same_text other name) refl)

pub permission-same : (p : ℕ) (k : OpKind) (name : List ℕ) (old new : Table) → ChangesAlone p k name old new → (names : List (List ℕ)) → permission new p k names ≡ permission old p k names
permission-same p k name old new h [] = refl
permission-same p k name old new h (n ∷ ns) =
    ap (λ r. refused_or n r (permission new p k ns)) (refusal-same p k name old new h n)
    ∙ ap (refused_or n (refusal p k n old)) (permission-same p k name old new h ns)

none_refused : (name : List ℕ) (r : Option OpFault) (later : Option Fault) → refused_or name r later ≡ None → (r ≡ None) × (later ≡ None)
none_refused name None later e = (refl, e)
none_refused name (Some why) later e = absurd cc

-- where no name is refused, none of the rest is after the first is declared
pub rest_allowed : (ops new : Table) (p : ℕ) (k : OpKind) (name : List ℕ) (names : List (List ℕ)) → ChangesAlone p k name ops new → permission ops p k (name ∷ names) ≡ None → permission new p k names ≡ None
rest_allowed ops new p k name names h e = permission-same p k name ops new h names ∙ (none_refused name (refusal p k name ops) (permission ops p k names) e).1

-- one name more
pub all_declared-push : (p : ℕ) (k : OpKind) (names : List (List ℕ)) (name : List ℕ) (ops : Table) → all_declared p k (names ++ name ∷ []) ops ≡ declared p k name (all_declared p k names ops)
all_declared-push p k [] name ops = refl
all_declared-push p k (n ∷ ns) name ops = all_declared-push p k ns name (declared p k n ops)

-- the loop goes on: the names so far are declared, and none of those that are left is refused
pub same_next : (p : ℕ) (k : OpKind) (names : List (List ℕ)) (i : ℕ) (name : List ℕ) (old ops new : Table) → i < length names → name ≡ get_or names i name
    → ops ≡ all_declared p k (take i names) old → new ≡ declared p k name ops → new ≡ all_declared p k (take (i + 1) names) old
same_next p k names i name old ops new low is h e =
    e ∙ (ap (declared p k name) h ∙ (sym (all_declared-push p k (take i names) name old)
    ∙ (ap (λ n. all_declared p k (take i names ++ n ∷ []) old) is ∙ ap (λ ns. all_declared p k ns old) (sym (take_more names i name low)))))

pub allowed_next : (p : ℕ) (k : OpKind) (names : List (List ℕ)) (i : ℕ) (name : List ℕ) (ops new : Table) → i < length names → name ≡ get_or names i name
    → permission ops p k (drop i names) ≡ None → ChangesAlone p k name ops new → permission new p k (drop (i + 1) names) ≡ None
allowed_next p k names i name ops new low is h alone =
    let split = drop_more names i name low ∙ ap (λ n. n ∷ drop (i + 1) names) (sym is) in
    rest_allowed ops new p k name (drop (i + 1) names) alone (ap (permission ops p k) (sym split) ∙ h)
