-- What a probe finds in an image that was built.
use Rattle.call_patterns.specs.Size.{empty_leaf}
use Rattle.std.proofs.Common.{◌≡◌, ℕ, ◌+◌, ◌<◌, inl, inr, List, [], ◌∷◌, length, arith, sym, ap, ◌∙◌, subst, slice_index, ◌-◌, ◌≤◌, drop, length-drop}
use Rattle.std.proofs.lemmas.List.{get_or-take, get_or-drop, length-take-le, length-map}
use Rattle.call_patterns.specs.declared.row.Row.{Row}
use Rattle.index_trees.specs.declared.image.Bucket.{Bucket}
use Rattle.call_patterns.specs.Rows.{names}
use Rattle.index_trees.specs.Reading.{IsBucketAt, Leads, HasBucket, IsBucketOf, root, names_in}
use Rattle.index_trees.specs.Images.{HoldsBucket}
use Rattle.index_trees.proofs.Searching.{bucket_within, one_child}

one_leaf : (ws : List ℕ) (at : ℕ) (a b : Bucket) → IsBucketAt ws at a → IsBucketAt ws at b → names_in ws a ≡ names_in ws b
one_leaf ws at a b h k =
    let start : a.at ≡ b.at = h.start ∙ sym k.start in
    let len : a.len ≡ b.len = h.len ∙ sym k.len in
    ap (λ n. names_in ws (record { at = n; len = a.len })) start ∙ ap (λ n. names_in ws (record { at = b.at; len = n })) len

-- the codes lead to one bucket
pub one_bucket : (cs : List ℕ) (ws : List ℕ) (at : ℕ) (a b : Bucket) → Leads ws at cs a → Leads ws at cs b → names_in ws a ≡ names_in ws b
one_bucket [] ws at a b h k = one_leaf ws at a b h k
one_bucket (c ∷ cs) ws at a b (inl h) (inl k) = one_leaf ws empty_leaf a b h.1 k.1
one_bucket (c ∷ cs) ws at a b (inl h) (inr k) = absurd (k.apart h.0)
one_bucket (c ∷ cs) ws at a b (inr h) (inl k) = absurd (h.apart k.0)
one_bucket (c ∷ cs) ws at a b (inr h) (inr k) =
    let P : ℕ → Type 0 = λ n. Leads ws n cs a in
    one_bucket cs ws k.child a b (subst P (one_child ws at c h.child k.child h.node h.is k.is) h.rest) k.rest

pub may_probe : (ws cs : List ℕ) (rows : List Row) → empty_leaf < length ws → HoldsBucket ws cs rows → HasBucket ws cs
may_probe ws cs rows long h = record { header = long; bucket = h.bucket; leads = h.leads }

-- what a probe answers over a built image names the rows of the bucket
pub found_is : (ws cs : List ℕ) (rows : List Row) (b : Bucket) → HoldsBucket ws cs rows → Leads ws (root ws) cs b → names_in ws b ≡ names rows
found_is ws cs rows b h k = one_bucket cs ws (root ws) b h.bucket k h.leads ∙ h.is

-- the name at each place of a bucket
pub name_at : (ws : List ℕ) (b : Bucket) (k : ℕ) → k < b.len → slice_index ws (b.at + k) ≡ slice_index (names_in ws b) k
name_at ws b k lt =
    let within : k < b.at + b.len - b.at = omega arith in
    sym (get_or-take (b.at + b.len - b.at) (drop b.at ws) k 0 within ∙ get_or-drop b.at ws k 0)

-- a bucket has as many names as it says
names_many : (ws : List ℕ) (b : Bucket) → IsBucketOf ws b → length (names_in ws b) ≡ b.len
names_many ws b h =
    let within = (bucket_within ws b h).0 in
    let rest = length-drop b.at ws in
    let le : b.at + b.len - b.at ≤ length (drop b.at ws) = omega arith in
    length-take-le (b.at + b.len - b.at) (drop b.at ws) le ∙ omega arith

pub found_many : (ws cs : List ℕ) (rows : List Row) (b : Bucket) → HoldsBucket ws cs rows → Leads ws (root ws) cs b → b.len ≡ length rows
found_many ws cs rows b h k =
    sym (names_many ws b (record { codes = cs; leads = k })) ∙ ap length (found_is ws cs rows b h k) ∙ length-map rows (λ (r : Row). r.clause)
