use Rattle.std.proofs.Common.{◌≡◌, ℕ, ◌<◌, ◌≤◌, List, get_or, arith, ◌∙◌, ⊎_elim, Err}
use Rattle.std.proofs.lemmas.Bool.{cases_lt}
use Rattle.std.proofs.lemmas.List.{get_or_default}
use Rattle.std.proofs.lemmas.List.Sorted.{searched}
use Rattle.std.specs.List.{Contains}
use Rattle.std.specs.List.Sorted.{IsStrictlyIncreasing, IsBinarySearchResult}
use Rattle.std.specs.Ordering.{nat_cmp}
use Rattle.index_trees.proofs.Rising.{rising_le}
use Rattle.index_trees.proofs.parts.place.Goals as goal

lost : (codes : List ℕ) (code at : ℕ) → IsStrictlyIncreasing codes → Contains codes code
    → IsBinarySearchResult (λ y. nat_cmp y code) codes (Err at) → ⊥
lost codes code at up (k, lt, e) found =
    let s = searched codes code (Err at) found (rising_le codes up) in
    let is : get_or codes k 0 ≡ code = get_or_default codes k 0 code lt ∙ e in
    ⊎_elim (λ (below : k < at). let h = s.1 k below in omega arith)
    (λ (past : at ≤ k). let h = s.2 k past lt in omega arith)
    (cases_lt k at)

pub returns-in-Err-clause-below : goal.returns-in-Err-clause-below
returns-in-Err-clause-below c = absurd (lost c.args.codes.now c.args.code c.in-Err.at c.requires.ascending c.requires.there c.in-Err.ensures.position)

pub returns-in-Err-clause-found : goal.returns-in-Err-clause-found
returns-in-Err-clause-found c = absurd (lost c.args.codes.now c.args.code c.in-Err.at c.requires.ascending c.requires.there c.in-Err.ensures.position)
