-- The walk of a probe: what is left of the codes leads from here to the same buckets as all of them from the root.
use Rattle.call_patterns.specs.Size.{empty_leaf}
use Rattle.std.proofs.Common.{◌≡◌, ◌≢◌, ℕ, ◌+◌, ◌<◌, inl, inr, List, [], ◌∷◌, length, slice_index, arith, sym, subst, drop, drop-cons, add-one}
use Rattle.std.proofs.lemmas.Grind.{common_steps}
use Rattle.index_trees.specs.Reading.{IsNode, IsChild, IsLeaf, IsBucketAt, Steps, Leads, HasBucket, root}
use Rattle.index_trees.specs.declared.image.Bucket.{Bucket}
use Rattle.index_trees.proofs.Searching.{one_child}

pub record IsOnWay (ws codes : List ℕ) (at i : ℕ) : Type 0 where
  pub some : Bucket
  pub leads : Leads ws at (drop i codes) some
  pub whole : (b : Bucket) → Leads ws at (drop i codes) b → Leads ws (root ws) codes b

pub on_way_start : (ws codes : List ℕ) (at : ℕ) → HasBucket ws codes → slice_index ws 7 ≡ at → IsOnWay ws codes at 0
on_way_start ws codes at h e =
    let P : ℕ → Type 0 = λ n. IsOnWay ws codes n 0 in
    subst P e (record { some = h.bucket; leads = h.leads; whole = λ b k. k })

-- the next code is named
next : (codes : List ℕ) (i : ℕ) → i < length codes → drop i codes ≡ slice_index codes i ∷ drop (i + 1) codes
next codes i h = rw (add-one, drop-cons codes i 0)

cases_step : (ws : List ℕ) (at c : ℕ) (cs : List ℕ) (b : Bucket) → at ≢ empty_leaf → Leads ws at (c ∷ cs) b → Steps ws at c (λ child. Leads ws child cs b)
cases_step ws at c cs b apart (inl h) = absurd (apart h.0)
cases_step ws at c cs b apart (inr h) = h

pub on_way_node : (ws codes : List ℕ) (at i : ℕ) → IsOnWay ws codes at i → i < length codes → at ≢ empty_leaf → IsNode ws at
on_way_node ws codes at i h lt apart =
    let P : List ℕ → Type 0 = λ cs. Leads ws at cs h.some in
    (cases_step ws at (slice_index codes i) (drop (i + 1) codes) h.some apart (subst P (next codes i lt) h.leads)).node

pub on_way_step : (ws codes : List ℕ) (at i child : ℕ) → IsOnWay ws codes at i → i < length codes → at ≢ empty_leaf → IsChild ws at (slice_index codes i) child → IsOnWay ws codes child (i + 1)
on_way_step ws codes at i child h lt apart is =
    let P : Bucket → List ℕ → Type 0 = λ b cs. Leads ws at cs b in
    let s = cases_step ws at (slice_index codes i) (drop (i + 1) codes) h.some apart (subst (P h.some) (next codes i lt) h.leads) in
    let Q : ℕ → Type 0 = λ n. Leads ws n (drop (i + 1) codes) h.some in
    record {
      some = h.some;
      leads = subst Q (one_child ws at (slice_index codes i) s.child child s.node s.is is) s.rest;
      whole = λ b k. h.whole b (subst (P b) (sym (next codes i lt)) (inr (record { apart = apart; node = s.node; child = child; is = is; rest = k })));
    }

-- ---- where the walk ends early, at the empty leaf

empty_leads : (ws : List ℕ) (at c : ℕ) (cs : List ℕ) (b : Bucket) → at ≡ empty_leaf → Leads ws at (c ∷ cs) b → IsBucketAt ws empty_leaf b
empty_leads ws at c cs b e (inl h) = h.1
empty_leads ws at c cs b e (inr h) = absurd (h.apart e)

pub on_way_empty : (ws codes : List ℕ) (at i : ℕ) → IsOnWay ws codes at i → i < length codes → at ≡ empty_leaf → IsLeaf ws empty_leaf
on_way_empty ws codes at i h lt e =
    let P : List ℕ → Type 0 = λ cs. Leads ws at cs h.some in
    (empty_leads ws at (slice_index codes i) (drop (i + 1) codes) h.some e (subst P (next codes i lt) h.leads)).leaf

pub empty_bucket : (ws codes : List ℕ) (at i : ℕ) (b : Bucket) → IsOnWay ws codes at i → i < length codes → at ≡ empty_leaf → IsBucketAt ws empty_leaf b → Leads ws (root ws) codes b
empty_bucket ws codes at i b h lt e is =
    let P : List ℕ → Type 0 = λ cs. Leads ws at cs b in
    h.whole b (subst P (sym (next codes i lt)) (inl (e, is)))

-- ---- where all codes are used

over : (codes : List ℕ) (i : ℕ) → i ≡ length codes → drop i codes ≡ []
over codes i e = grind (arith, common_steps)

pub on_way_leaf : (ws codes : List ℕ) (at i : ℕ) → IsOnWay ws codes at i → i ≡ length codes → IsLeaf ws at
on_way_leaf ws codes at i h e =
    let P : List ℕ → Type 0 = λ cs. Leads ws at cs h.some in
    let k : IsBucketAt ws at h.some = subst P (over codes i e) h.leads in k.leaf

pub leaf_bucket : (ws codes : List ℕ) (at i : ℕ) (b : Bucket) → IsOnWay ws codes at i → i ≡ length codes → IsBucketAt ws at b → Leads ws (root ws) codes b
leaf_bucket ws codes at i b h e is =
    let P : List ℕ → Type 0 = λ cs. Leads ws at cs b in
    h.whole b (subst P (sym (over codes i e)) is)
