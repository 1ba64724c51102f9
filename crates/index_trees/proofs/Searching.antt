-- The search of a node's codes by halving, and where a walk of codes may go.
use Rattle.call_patterns.specs.Size.{empty_leaf}
use Rattle.std.proofs.Common.{◌≡◌, ◌≢◌, ℕ, ◌+◌, ◌^◌, ◌<◌, ◌≤◌, inl, inr, List, [], ◌∷◌, length, slice_index, arith, sym, ap, ◌∙◌, subst, ⊎_elim}
use Rattle.std.proofs.lemmas.Bool.{cases_lt, cases_eq}
use Rattle.index_trees.specs.Reading.{code_in, child_in, IsNode, IsChild, IsBucketAt, Leads, root, IsBucketOf}
use Rattle.index_trees.specs.declared.image.Bucket.{Bucket}

-- all codes before low are smaller, and all from high on are greater
pub record IsBetween (ws : List ℕ) (at code low up : ℕ) : Type 0 where
  pub node : IsNode ws at
  pub high : up ≤ slice_index ws at
  pub below : (i : ℕ) → i < low → code_in ws at i < code
  pub above : (i : ℕ) → up ≤ i → i < slice_index ws at → code < code_in ws at i

pub between_all : (ws : List ℕ) (at code count : ℕ) → IsNode ws at → slice_index ws at ≡ count → IsBetween ws at code 0 count
between_all ws at code count node e = record {
  node = node;
  high = omega arith;
  below = λ i h. absurd (omega arith);
  above = λ i h k. absurd (omega arith);
}

-- the code in the middle is smaller
pub between_up : (ws : List ℕ) (at code low up middle : ℕ) → IsBetween ws at code low up → middle < up → code_in ws at middle < code → IsBetween ws at code (middle + 1) up
between_up ws at code low up middle h lt less = record {
  node = h.node;
  high = h.high;
  below = λ i k. ⊎_elim (λ e. subst (λ (n : ℕ). code_in ws at n < code) (sym e) less)
      (λ (ne : i ≢ middle).
      let before : i < middle = omega arith in
      let more : middle < slice_index ws at = omega (arith, h.high) in
      let asc = h.node.ascending i middle before more in omega arith)
      (cases_eq i middle);
  above = h.above;
}

pub between_down : (ws : List ℕ) (at code low up middle : ℕ) → IsBetween ws at code low up → middle < up → code < code_in ws at middle → IsBetween ws at code low middle
between_down ws at code low up middle h lt more = record {
  node = h.node;
  high = omega (arith, h.high);
  below = h.below;
  above = λ i k below. ⊎_elim (λ e. subst (λ (n : ℕ). code < code_in ws at n) (sym e) more)
      (λ (ne : i ≢ middle).
      let before : middle < i = omega arith in
      let asc = h.node.ascending middle i before below in omega arith)
      (cases_eq i middle);
}

pub found_child : (ws : List ℕ) (at code low up middle child : ℕ) → IsBetween ws at code low up → middle < up → code_in ws at middle ≡ code → child_in ws at middle ≡ child → IsChild ws at code child
found_child ws at code low up middle child h lt e is = inl (record { place = middle; below = omega (arith, h.high); same = e; is = sym is })

pub default_child : (ws : List ℕ) (at code low up child : ℕ) → IsBetween ws at code low up → up ≤ low → slice_index ws (at + 1) ≡ child → IsChild ws at code child
default_child ws at code low up child h le is = inr (record {
  none = λ i below e. ⊎_elim (λ (lt : i < low). let small = h.below i lt in absurd (omega arith))
      (λ (past : low ≤ i). let reached : up ≤ i = omega arith in let great = h.above i reached below in absurd (omega arith))
      (cases_lt i low);
  is = sym is;
})

-- ---- where a walk ends

leaf_within : (ws : List ℕ) (at : ℕ) (b : Bucket) → IsBucketAt ws at b → (b.at + b.len ≤ length ws) × (length ws < 2 ^ 63)
leaf_within ws at b h = (omega (arith, h.leaf.within, h.start, h.len), h.leaf.small)

walk_within : (cs : List ℕ) (ws : List ℕ) (at : ℕ) (b : Bucket) → Leads ws at cs b → (b.at + b.len ≤ length ws) × (length ws < 2 ^ 63)
walk_within [] ws at b h = leaf_within ws at b h
walk_within (c ∷ cs) ws at b (inl h) = leaf_within ws empty_leaf b h.1
walk_within (c ∷ cs) ws at b (inr h) = walk_within cs ws h.child b h.rest

pub bucket_within : (ws : List ℕ) (b : Bucket) → IsBucketOf ws b → (b.at + b.len ≤ length ws) × (length ws < 2 ^ 63)
bucket_within ws b h = walk_within h.codes ws (root ws) b h.leads

-- a node has one child for a code
pub one_child : (ws : List ℕ) (at code a b : ℕ) → IsNode ws at → IsChild ws at code a → IsChild ws at code b → a ≡ b
one_child ws at code a b node (inl h) (inl k) =
    ⊎_elim (λ e. h.is ∙ ap (child_in ws at) e ∙ sym k.is)
    (λ (ne : h.place ≢ k.place). absurd (⊎_elim
    (λ (lt : h.place < k.place). let asc = node.ascending h.place k.place lt k.below in omega (arith, h.same, k.same))
    (λ (le : k.place ≤ h.place). let lt : k.place < h.place = omega arith in let asc = node.ascending k.place h.place lt h.below in omega (arith, h.same, k.same))
    (cases_lt h.place k.place)))
    (cases_eq h.place k.place)
one_child ws at code a b node (inl h) (inr k) = absurd (k.none h.place h.below h.same)
one_child ws at code a b node (inr h) (inl k) = absurd (h.none k.place k.below k.same)
one_child ws at code a b node (inr h) (inr k) = h.is ∙ sym k.is
