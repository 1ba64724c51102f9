-- What comes of the elements, by those that are behind names.
use Rattle.std.proofs.Common.{◌≡◌, ℕ, List, [], ◌∷◌, ◌++◌, refl, ap}
use Rattle.prolog_terms.specs.declared.ops.OpKind.{OpKind}
use Rattle.prolog_terms.specs.declared.fault.Fault.{Fault}
use Rattle.prolog_clauses.specs.declared.operators.Declaring.{Declaring}
use Rattle.prolog_clauses.specs.declared.operators.Declaring.TheVariants.{Declares, Raises}
use Rattle.prolog_clauses.specs.Declarations.{with_name, by_elements}

-- a declaration with names before its own
abbrev pub with_names : List (List ℕ) → Declaring → Declaring
with_names [] d = d
with_names (n ∷ ns) d = with_name n (with_names ns d)

pub with_names-push : (ns : List (List ℕ)) (n : List ℕ) (d : Declaring) → with_names (ns ++ n ∷ []) d ≡ with_names ns (with_name n d)
with_names-push [] n d = refl
with_names-push (m ∷ ns) n d = ap (with_name m) (with_names-push ns n d)

pub with_names-error : (ns : List (List ℕ)) (fault : Fault) → with_names ns (Raises fault) ≡ Raises fault
with_names-error [] fault = refl
with_names-error (n ∷ ns) fault = ap (with_name n) (with_names-error ns fault)

pub with_names-end : (ns : List (List ℕ)) (p : ℕ) (k : OpKind) → with_names ns (by_elements p k []) ≡ Declares (record { priority = p; kind = k; names = ns })
with_names-end [] p k = refl
with_names-end (n ∷ ns) p k = ap (with_name n) (with_names-end ns p k)
