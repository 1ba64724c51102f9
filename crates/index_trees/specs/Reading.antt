-- How a tree's words are read.
use Rattle.std.specs.Prelude.{◌≡◌, ◌≢◌, ℕ, ◌+◌, ◌*◌, ◌^◌, ◌<◌, ◌≤◌, ◌⊎◌, List, [], ◌∷◌, length, slice_index, slice_range}
use Rattle.call_patterns.specs.Size.{empty_leaf}
use Rattle.index_trees.specs.declared.image.Bucket.{Bucket}

-- the code and the child at i of the node at an offset
abbrev pub code_in : List ℕ → ℕ → ℕ → ℕ
code_in ws at i = slice_index ws (at + 2 + 2 * i)

abbrev pub child_in : List ℕ → ℕ → ℕ → ℕ
child_in ws at i = slice_index ws (at + 3 + 2 * i)

-- the number of codes, the default child, and then the codes, ascending, each with its child
pub record IsNode (ws : List ℕ) (at : ℕ) : Type 0 where
  pub within : at + 2 + 2 * slice_index ws at ≤ length ws
  pub small : length ws < 2 ^ 63
  pub ascending : (i j : ℕ) → i < j → j < slice_index ws at → code_in ws at i < code_in ws at j

pub record IsCodesChild (ws : List ℕ) (at code child : ℕ) : Type 0 where
  pub place : ℕ
  pub below : place < slice_index ws at
  pub same : code_in ws at place ≡ code
  pub is : child ≡ child_in ws at place

pub record IsDefaultChild (ws : List ℕ) (at code child : ℕ) : Type 0 where
  pub none : (i : ℕ) → i < slice_index ws at → code_in ws at i ≢ code
  pub is : child ≡ slice_index ws (at + 1)

abbrev pub IsChild : List ℕ → ℕ → ℕ → ℕ → Type 0
IsChild ws at code child = IsCodesChild ws at code child ⊎ IsDefaultChild ws at code child

-- the number of names, and then the names
pub record IsLeaf (ws : List ℕ) (at : ℕ) : Type 0 where
  pub counted : at < length ws
  pub within : at + 1 + slice_index ws at ≤ length ws
  pub small : length ws < 2 ^ 63

pub record IsBucketAt (ws : List ℕ) (at : ℕ) (b : Bucket) : Type 0 where
  pub leaf : IsLeaf ws at
  pub start : b.at ≡ at + 1
  pub len : b.len ≡ slice_index ws at

-- a step from a node to the child of a code
pub record Steps (ws : List ℕ) (at code : ℕ) (Rest : ℕ → Type 0) : Type 0 where
  pub apart : at ≢ empty_leaf
  pub node : IsNode ws at
  pub child : ℕ
  pub is : IsChild ws at code child
  pub rest : Rest child

-- The codes lead from an offset to a bucket. The offset of the empty leaf is the empty bucket, whatever codes are left.
abbrev pub Leads : List ℕ → ℕ → List ℕ → Bucket → Type 0
Leads ws at [] b = IsBucketAt ws at b
Leads ws at (c ∷ cs) b = ((at ≡ empty_leaf) × IsBucketAt ws empty_leaf b) ⊎ Steps ws at c (λ child. Leads ws child cs b)

-- which word of the header has the root's offset
abbrev pub root_word : ℕ
root_word = 7

abbrev pub root : List ℕ → ℕ
root ws = slice_index ws root_word

pub record HasBucket (ws : List ℕ) (codes : List ℕ) : Type 0 where
  pub header : empty_leaf < length ws
  pub bucket : Bucket
  pub leads : Leads ws (root ws) codes bucket

-- the names of a bucket
abbrev pub names_in : List ℕ → Bucket → List ℕ
names_in ws b = slice_range ws b.at (b.at + b.len)

pub record IsBucketOf (ws : List ℕ) (b : Bucket) : Type 0 where
  pub codes : List ℕ
  pub leads : Leads ws (root ws) codes b
