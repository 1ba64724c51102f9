-- The size of a node, child by child.
use Rattle.std.proofs.Common.{◌≡◌, ◌≢◌, ℕ, zero, suc, ◌+◌, ◌-◌, ◌*◌, ◌<◌, ◌≤◌, List, [], ◌∷◌, ◌++◌, length, get_or, take, arith, refl, ap, ◌∙◌, add-one, length-append}
use Rattle.std.proofs.lemmas.List.{take_all}
use Rattle.std.specs.List.{filter}
use Rattle.std.specs.Global.{Vec}
use Rattle.index_trees.specs.declared.item.Item.{Item}
use Rattle.index_trees.specs.Items.{fits_at, has_no_code}
use Rattle.index_trees.specs.Parts.{IsSplit}
use Rattle.index_trees.specs.Trees.{paired, item_names}
use Rattle.call_patterns.specs.Size.{total}
use Rattle.index_trees.specs.Levels.{codes_of, level_words}
use Rattle.index_trees.proofs.Standing.{paired_length}

pub total_more : (f : ℕ → ℕ) (xs : List ℕ) (i : ℕ) → i < length xs → total f (take (i + 1) xs) ≡ total f (take i xs) + f (get_or xs i 0)
total_more f xs i lt = rw (add-one) (more xs i lt)
  where
    more : (ys : List ℕ) (n : ℕ) → n < length ys → total f (take (suc n) ys) ≡ total f (take n ys) + f (get_or ys n 0)
    more [] n lt = absurd (omega arith)
    more (y ∷ ys) zero lt = omega arith
    more (y ∷ ys) (suc n) lt = let h = more ys n (omega arith) in omega arith

pub size_none : (left level : ℕ) → level_words left level [] ≡ 0
unfolding level_words
size_none zero level = refl
size_none (suc left) level = refl

pub size_leaf : (level : ℕ) (items : List Item) → 0 < length items → level_words 0 level items ≡ 1 + length items
unfolding level_words
size_leaf level [] lt = absurd (omega arith)
size_leaf level (it ∷ its) lt = refl

pub size_node : (left level : ℕ) (items : List Item) → left ≢ 0 → 0 < length items
    → level_words left level items ≡ 2 + 2 * length (codes_of level items) + level_words (left - 1) (level + 1) (filter (has_no_code level) items)
    + total (λ c. level_words (left - 1) (level + 1) (filter (fits_at level c) items)) (codes_of level items)
unfolding level_words
size_node zero level items deep lt = absurd (deep refl)
size_node (suc left) level [] deep lt = absurd (omega arith)
size_node (suc left) level (it ∷ its) deep lt =
    let e : left ≡ suc left - 1 = omega arith in
    ap (λ n. 2 + 2 * length (codes_of level (it ∷ its)) + level_words n (level + 1) (filter (has_no_code level) (it ∷ its))
    + total (λ c. level_words n (level + 1) (filter (fits_at level c) (it ∷ its))) (codes_of level (it ∷ its))) e

-- one child more
pub size_child : (base old new left level i : ℕ) (rest : ℕ) (items kept : List Item) (codes : List ℕ) (lists : List (Vec Item)) (others : List Item) (child : Vec Item)
    → IsSplit level items codes lists others → i < length lists → child ≡ get_or lists i child → kept ≡ child.items
    → old ≡ base + (rest + total (λ c. level_words left (level + 1) (filter (fits_at level c) items)) (take i (codes_of level items)))
    → new ≡ old + level_words left (level + 1) kept
    → new ≡ base + (rest + total (λ c. level_words left (level + 1) (filter (fits_at level c) items)) (take (i + 1) (codes_of level items)))
size_child base old new left level i rest items kept codes lists others child split lt read is h g =
    let inside : i < length codes = omega (arith, split.many) in
    let room : i < length (codes_of level items) = omega (arith, ap length split.are) in
    let kept_is : kept ≡ filter (fits_at level (get_or (codes_of level items) i 0)) items =
    is ∙ ap (λ v. v.items) read ∙ split.child i child inside ∙ ap (λ cs. filter (fits_at level (get_or cs i 0)) items) split.are in
    let more = total_more (λ c. level_words left (level + 1) (filter (fits_at level c) items)) (codes_of level items) i room in
    let last = ap (level_words left (level + 1)) kept_is in
    omega arith

pub size_done : (base rest left level i : ℕ) (out new : List ℕ) (items : List Item) (codes ats : List ℕ) (lists : List (Vec Item)) (others : List Item)
    → left ≢ 0 → 0 < length items → IsSplit level items codes lists others → length ats ≡ length codes → length lists ≤ i
    → length out ≡ base + (level_words (left - 1) (level + 1) (filter (has_no_code level) items) + total (λ c. level_words (left - 1) (level + 1) (filter (fits_at level c) items)) (take i (codes_of level items)))
    → new ≡ out ++ (length codes ∷ rest ∷ paired codes ats) → length new ≡ base + level_words left level items
size_done base rest left level i out new items codes ats lists others deep some split many past h e =
    let all : length (codes_of level items) ≤ i = omega (arith, ap length split.are, split.many) in
    let whole = ap (total (λ c. level_words (left - 1) (level + 1) (filter (fits_at level c) items))) (take_all i (codes_of level items) all) in
    let pairs = paired_length codes ats many in
    let len : length new ≡ length out + (2 + 2 * length codes) = ap length e ∙ omega (arith, length-append out (length codes ∷ rest ∷ paired codes ats), pairs) in
    let count = ap length split.are in
    let node = size_node left level items deep some in
    omega arith

names_length : (items : List Item) → length (item_names items) ≡ length items
names_length [] = refl
names_length (it ∷ its) = ap suc (names_length its)

pub size_of_leaf : (left level : ℕ) (out new : List ℕ) (items : List Item) → left ≡ 0 → 0 < length items → new ≡ out ++ (length items ∷ item_names items) → length new ≡ length out + level_words left level items
size_of_leaf left level out new items zero_left some e =
    let s : level_words left level items ≡ 1 + length items = ap (λ n. level_words n level items) zero_left ∙ size_leaf level items some in
    let n = names_length items in
    ap length e ∙ omega (arith, length-append out (length items ∷ item_names items))

pub total_le : (f : ℕ → ℕ) (xs : List ℕ) (n : ℕ) → total f (take n xs) ≤ total f xs
total_le f [] zero = omega arith
total_le f [] (suc n) = omega arith
total_le f (x ∷ xs) zero = omega arith
total_le f (x ∷ xs) (suc n) = let h = total_le f xs n in omega arith

pub total_all : (f : ℕ → ℕ) (xs : List ℕ) (n : ℕ) → length xs ≤ n → total f (take n xs) ≡ total f xs
total_all f xs n le = ap (total f) (take_all n xs le)
