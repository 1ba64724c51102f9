-- What was written stands for its items, whatever follows.
use Rattle.call_patterns.specs.Size.{empty_leaf}
use Rattle.std.proofs.Common.{◌≡◌, ◌≢◌, ℕ, zero, suc, ◌+◌, ◌-◌, ◌*◌, ◌^◌, ◌<◌, ◌≤◌, ◌⊎◌, inl, inr, Bool, true, false, cond, List, [], ◌∷◌, ◌++◌, length, get_or, take, drop, arith, refl, sym, ap, ◌∙◌, subst, ⊎_elim, append_assoc, slice_index, length-append, add-one, add-zero}
use Rattle.std.proofs.Math.Seq.{drop-append-add, get_or-append_seam}
use Rattle.std.proofs.lemmas.Bool.{cases_eq}
use Rattle.std.proofs.lemmas.List.{get_or-append-add, get_or_append_left, take_all, take-append-le, get_or_default}
use Rattle.std.specs.List.{filter}
use Rattle.std.specs.Prelude.{◌&&◌, IfOk, Result, Ok, Err}
use Rattle.std.specs.Global.{Vec}
use Rattle.index_trees.specs.declared.item.Item.{Item}
use Rattle.index_trees.specs.declared.image.Bucket.{Bucket}
use Rattle.index_trees.specs.Items.{fits_at, fits_from}
use Rattle.index_trees.specs.Parts.{IsSplit}
use Rattle.index_trees.specs.Reading.{IsNode, IsChild, IsBucketAt, Leads, code_in, child_in}
use Rattle.index_trees.specs.Trees.{paired, item_names, Finds, Stands}

pub stands_more : (out new more : List ℕ) (at level left : ℕ) (items : List Item) → new ≡ out ++ more → Stands out at level left items → Stands new at level left items
stands_more out new more at level left items e h = record {
  each = λ rest cs small many.
      let is : new ++ rest ≡ out ++ (more ++ rest) = ap (λ xs. xs ++ rest) e ∙ append_assoc out more rest in
      let P : List ℕ → Type 0 = λ ws. Finds ws at level cs items in
      let fits : length (out ++ (more ++ rest)) < 2 ^ 63 = subst (λ (ws : List ℕ). length ws < 2 ^ 63) is small in
      subst P (sym is) (h.each (more ++ rest) cs fits many);
}

-- ---- nothing

pub stands_empty : (out : List ℕ) (level left : ℕ) → empty_leaf < length out → slice_index out empty_leaf ≡ 0 → Stands out empty_leaf level left []
stands_empty out level left long none = record {
  each = λ rest cs small many.
      let ws : List ℕ = out ++ rest in
      let room : empty_leaf < length (out ++ rest) = omega (arith, length-append out rest) in
      let zero_len : slice_index (out ++ rest) empty_leaf ≡ 0 = get_or_append_left out rest 0 empty_leaf long ∙ none in
      let b : Bucket = record { at = 9; len = 0 } in
      let is : IsBucketAt (out ++ rest) empty_leaf b = record { leaf = record { counted = room; within = omega arith; small = small }; start = refl; len = sym zero_len } in
      record { bucket = b; leads = at_eight cs (out ++ rest) b is; names = refl };
}
  where
    at_eight : (cs ws : List ℕ) (b : Bucket) → IsBucketAt ws empty_leaf b → Leads ws empty_leaf cs b
    at_eight [] ws b is = is
    at_eight (c ∷ cs) ws b is = inl (refl, is)

-- ---- a leaf

all_pass : (items : List Item) (level : ℕ) → filter (fits_from level []) items ≡ items
all_pass [] level = refl
all_pass (it ∷ its) level = ap (λ xs. it ∷ xs) (all_pass its level)

names_length : (items : List Item) → length (item_names items) ≡ length items
names_length [] = refl
names_length (it ∷ its) = ap suc (names_length its)

leaf_found : (out rest : List ℕ) (level : ℕ) (items : List Item) (ws : List ℕ) → length ws < 2 ^ 63 → ws ≡ out ++ (length items ∷ (item_names items ++ rest)) → Finds ws (length out) level [] items
leaf_found out rest level items ws small e =
    let n : ℕ = length items in
    let tail : List ℕ = item_names items ++ rest in
    let many = names_length items in
    let len : slice_index ws (length out) ≡ length items =
    ap (λ xs. slice_index xs (length out)) e ∙ ap (slice_index (out ++ (length items ∷ (item_names items ++ rest)))) (sym (add-zero (length out))) ∙ get_or-append-add out (length items ∷ (item_names items ++ rest)) 0 0 in
    let all : length ws ≡ length out + (1 + (length items + length rest)) =
    ap length e ∙ omega (arith, length-append out (length items ∷ (item_names items ++ rest)), length-append (item_names items) rest, many) in
    let b : Bucket = record { at = length out + 1; len = length items } in
    record {
      bucket = b;
      leads = record { leaf = record { counted = omega arith; within = omega arith; small = small }; start = refl; len = sym len };
      names =
          let from : drop (length out + 1) ws ≡ item_names items ++ rest = ap (drop (length out + 1)) e ∙ drop-append-add out (length items ∷ (item_names items ++ rest)) 1 in
          let count : length out + 1 + length items - (length out + 1) ≡ length items = omega arith in
          let le : length items ≤ length (item_names items) = omega arith in
          ap (λ k. take k (drop (length out + 1) ws)) count
          ∙ ap (take (length items)) from
          ∙ take-append-le (length items) (item_names items) rest le
          ∙ take_all (length items) (item_names items) (omega arith)
          ∙ sym (ap item_names (all_pass items level));
    }

pub stands_leaf : (out new : List ℕ) (level : ℕ) (items : List Item) → new ≡ out ++ (length items ∷ item_names items) → Stands new (length out) level 0 items
stands_leaf out new level items e = record { each = λ rest cs small many. leaf_finds rest cs small many }
  where
    leaf_finds : (rest cs : List ℕ) → length (new ++ rest) < 2 ^ 63 → length cs ≡ 0 → Finds (new ++ rest) (length out) level cs items
    leaf_finds rest (c ∷ cs) small many = absurd (omega arith)
    leaf_finds rest [] small many = leaf_found out rest level items (new ++ rest) small (ap (λ xs. xs ++ rest) e ∙ append_assoc out (length items ∷ item_names items) rest)

-- ---- a node

-- where a code stands, or that it stands nowhere
pub sought : (codes : List ℕ) (c : ℕ) → ((k : ℕ) × (k < length codes) × (get_or codes k 0 ≡ c)) ⊎ ((k : ℕ) → k < length codes → get_or codes k 0 ≢ c)
sought [] c = inr (λ k h. absurd (omega arith))
sought (x ∷ xs) c = first (cases_eq x c) (sought xs c)
  where
    first : (x ≡ c) ⊎ (x ≢ c) → ((k : ℕ) × (k < length xs) × (get_or xs k 0 ≡ c)) ⊎ ((k : ℕ) → k < length xs → get_or xs k 0 ≢ c)
        → ((k : ℕ) × (k < length (x ∷ xs)) × (get_or (x ∷ xs) k 0 ≡ c)) ⊎ ((k : ℕ) → k < length (x ∷ xs) → get_or (x ∷ xs) k 0 ≢ c)
    first (inl e) rest = inl (0, omega arith, e)
    first (inr ne) (inl (k, lt, e)) = inl (suc k, omega arith, e)
    first (inr ne) (inr none) = inr (λ k. elim k as (λ n. n < length (x ∷ xs) → get_or (x ∷ xs) n 0 ≢ c) [ zero ↦ λ _. ne | suc n ↦ λ lt. none n (omega arith) ])

paired_code : (codes ats more : List ℕ) (i : ℕ) → length ats ≡ length codes → i < length codes → get_or (paired codes ats ++ more) (2 * i) 0 ≡ get_or codes i 0
paired_code [] ats more i e lt = absurd (omega arith)
paired_code (c ∷ cs) [] more i e lt = absurd (omega arith)
paired_code (c ∷ cs) (d ∷ ds) more zero e lt = refl
paired_code (c ∷ cs) (d ∷ ds) more (suc i) e lt =
    let two : 2 * suc i ≡ suc (suc (2 * i)) = omega arith in
    ap (λ n. get_or (paired (c ∷ cs) (d ∷ ds) ++ more) n 0) two ∙ paired_code cs ds more i (omega arith) (omega arith)

paired_child : (codes ats more : List ℕ) (i : ℕ) → length ats ≡ length codes → i < length codes → get_or (paired codes ats ++ more) (suc (2 * i)) 0 ≡ get_or ats i 0
paired_child [] ats more i e lt = absurd (omega arith)
paired_child (c ∷ cs) [] more i e lt = absurd (omega arith)
paired_child (c ∷ cs) (d ∷ ds) more zero e lt = refl
paired_child (c ∷ cs) (d ∷ ds) more (suc i) e lt =
    let two : suc (2 * suc i) ≡ suc (suc (suc (2 * i))) = omega arith in
    ap (λ n. get_or (paired (c ∷ cs) (d ∷ ds) ++ more) n 0) two ∙ paired_child cs ds more i (omega arith) (omega arith)

pub paired_length : (codes ats : List ℕ) → length ats ≡ length codes → length (paired codes ats) ≡ 2 * length codes
paired_length [] ats e = refl
paired_length (c ∷ cs) [] e = absurd (omega arith)
paired_length (c ∷ cs) (d ∷ ds) e = let h = paired_length cs ds (omega arith) in omega arith

filter_both : (p q : Item → Bool) (items : List Item) → filter (λ it. p it && q it) items ≡ filter q (filter p items)
filter_both p q [] = refl
filter_both p q (it ∷ its) = one (p it) (filter_both p q its)
  where
    one : (b : Bool) → filter (λ x. p x && q x) its ≡ filter q (filter p its)
        → cond (b && q it) (it ∷ filter (λ x. p x && q x) its) (filter (λ x. p x && q x) its) ≡ filter q (cond b (it ∷ filter p its) (filter p its))
    one true e = ap (λ xs. cond (q it) (it ∷ xs) xs) e
    one false e = e

-- the words of a node that was written at the end of `out`
record IsWritten (ws out : List ℕ) (rest : ℕ) (codes ats more : List ℕ) : Type 0 where
  words : ws ≡ out ++ (length codes ∷ rest ∷ (paired codes ats ++ more))
  many : length ats ≡ length codes

count_word : (ws out : List ℕ) (rest : ℕ) (codes ats more : List ℕ) → IsWritten ws out rest codes ats more → slice_index ws (length out) ≡ length codes
count_word ws out rest codes ats more h =
    ap (λ xs. slice_index xs (length out)) h.words
    ∙ ap (slice_index (out ++ (length codes ∷ rest ∷ (paired codes ats ++ more)))) (sym (add-zero (length out)))
    ∙ get_or-append-add out (length codes ∷ rest ∷ (paired codes ats ++ more)) 0 0

rest_word : (ws out : List ℕ) (rest : ℕ) (codes ats more : List ℕ) → IsWritten ws out rest codes ats more → slice_index ws (length out + 1) ≡ rest
rest_word ws out rest codes ats more h =
    ap (λ xs. slice_index xs (length out + 1)) h.words
    ∙ get_or-append-add out (length codes ∷ rest ∷ (paired codes ats ++ more)) 1 0

code_word : (ws out : List ℕ) (rest : ℕ) (codes ats more : List ℕ) (i : ℕ) → IsWritten ws out rest codes ats more → i < length codes → code_in ws (length out) i ≡ get_or codes i 0
code_word ws out rest codes ats more i h lt =
    let e : length out + 2 + 2 * i ≡ length out + suc (suc (2 * i)) = omega arith in
    ap (λ xs. slice_index xs (length out + 2 + 2 * i)) h.words
    ∙ ap (slice_index (out ++ (length codes ∷ rest ∷ (paired codes ats ++ more)))) e
    ∙ get_or-append-add out (length codes ∷ rest ∷ (paired codes ats ++ more)) (suc (suc (2 * i))) 0
    ∙ paired_code codes ats more i h.many lt

child_word : (ws out : List ℕ) (rest : ℕ) (codes ats more : List ℕ) (i : ℕ) → IsWritten ws out rest codes ats more → i < length codes → child_in ws (length out) i ≡ get_or ats i 0
child_word ws out rest codes ats more i h lt =
    let e : length out + 3 + 2 * i ≡ length out + suc (suc (suc (2 * i))) = omega arith in
    ap (λ xs. slice_index xs (length out + 3 + 2 * i)) h.words
    ∙ ap (slice_index (out ++ (length codes ∷ rest ∷ (paired codes ats ++ more)))) e
    ∙ get_or-append-add out (length codes ∷ rest ∷ (paired codes ats ++ more)) (suc (suc (suc (2 * i)))) 0
    ∙ paired_child codes ats more i h.many lt

written_node : (ws out : List ℕ) (rest : ℕ) (codes ats more : List ℕ) → IsWritten ws out rest codes ats more → length ws < 2 ^ 63
    → ((i j : ℕ) → i < j → j < length codes → get_or codes i 0 < get_or codes j 0) → IsNode ws (length out)
written_node ws out rest codes ats more h small up =
    let n = count_word ws out rest codes ats more h in
    let pairs = paired_length codes ats h.many in
    let all : length ws ≡ length out + (2 + (2 * length codes + length more)) =
    ap length h.words ∙ omega (arith, length-append out (length codes ∷ rest ∷ (paired codes ats ++ more)), length-append (paired codes ats) more, pairs) in
    record {
      within = omega arith;
      small = small;
      ascending = λ i j lt below.
          let b : j < length codes = omega arith in
          let a : i < length codes = omega arith in
          let ci = code_word ws out rest codes ats more i h a in
          let cj = code_word ws out rest codes ats more j h b in
          let less = up i j lt b in omega arith;
    }

-- a step to a child that finds what fits the rest of the codes
step_finds : (ws : List ℕ) (at level c child : ℕ) (cs : List ℕ) (items kept : List Item) → at ≢ empty_leaf → IsNode ws at → IsChild ws at c child
    → kept ≡ filter (fits_at level c) items → Finds ws child (level + 1) cs kept → Finds ws at level (c ∷ cs) items
step_finds ws at level c child cs items kept apart node is e h = record {
  bucket = h.bucket;
  leads = inr (record { apart = apart; node = node; child = child; is = is; rest = h.leads });
  names = h.names ∙ ap item_names (ap (filter (fits_from (level + 1) cs)) e ∙ sym (filter_both (fits_at level c) (fits_from (level + 1) cs) items));
}

some_of : (xs : List (Vec Item)) → 0 < length xs → Vec Item
some_of [] lt = absurd (omega arith)
some_of (v ∷ vs) lt = v

pub stands_node : (out new : List ℕ) (rest level left : ℕ) (codes ats : List ℕ) (items : List Item) (children : List (Vec Item)) (others : List Item)
    → empty_leaf < length out → left ≢ 0 → length ats ≡ length codes → new ≡ out ++ (length codes ∷ rest ∷ paired codes ats)
    → IsSplit level items codes children others → Stands out rest (level + 1) (left - 1) others
    → ((k : ℕ) (d : Vec Item) → k < length codes → Stands out (get_or ats k 0) (level + 1) (left - 1) (get_or children k d).items)
    → Stands new (length out) level left items
stands_node out new rest level left codes ats items children others long deep many e split rest_stands child_stands = record { each = found }
  where
    found : (more cs : List ℕ) → length (new ++ more) < 2 ^ 63 → length cs ≡ left → Finds (new ++ more) (length out) level cs items
    found more [] small count = absurd (deep (sym count))
    found more (c ∷ cs) small count = by (sought codes c)
      where
        below : length cs ≡ left - 1
        below = omega arith

        ws_is : new ++ more ≡ out ++ (length codes ∷ rest ∷ (paired codes ats ++ more))
        ws_is = ap (λ xs. xs ++ more) e ∙ append_assoc out (length codes ∷ rest ∷ paired codes ats) more

        written : IsWritten (new ++ more) out rest codes ats more
        written = record { words = ws_is; many = many }

        node : IsNode (new ++ more) (length out)
        node = written_node (new ++ more) out rest codes ats more written small split.ascending

        apart : length out ≢ empty_leaf
        apart = λ same. absurd (omega arith)

        reach : (at : ℕ) (kept : List Item) → Stands out at (level + 1) (left - 1) kept → Finds (new ++ more) at (level + 1) cs kept
        reach at kept h = subst (λ (ws : List ℕ). Finds ws at (level + 1) cs kept) (sym ws_is)
            (h.each (length codes ∷ rest ∷ (paired codes ats ++ more)) cs (subst (λ (ws : List ℕ). length ws < 2 ^ 63) ws_is small) below)

        by : ((k : ℕ) × (k < length codes) × (get_or codes k 0 ≡ c)) ⊎ ((k : ℕ) → k < length codes → get_or codes k 0 ≢ c) → Finds (new ++ more) (length out) level (c ∷ cs) items
        by (inl (k, lt, is)) =
            let d = some_of children (omega (arith, split.many)) in
            step_finds (new ++ more) (length out) level c (get_or ats k 0) cs items (get_or children k d).items apart node
            (inl (record {
              place = k;
              below = omega (arith, count_word (new ++ more) out rest codes ats more written);
              same = code_word (new ++ more) out rest codes ats more k written lt ∙ is;
              is = sym (child_word (new ++ more) out rest codes ats more k written lt);
            }))
            (split.child k d lt ∙ ap (λ n. filter (fits_at level n) items) is)
            (reach (get_or ats k 0) (get_or children k d).items (child_stands k d lt))
        by (inr none) = step_finds (new ++ more) (length out) level c rest cs items others apart node
            (inr (record {
              none = λ i h same.
                  let lt : i < length codes = omega (arith, count_word (new ++ more) out rest codes ats more written) in
                  none i lt (sym (code_word (new ++ more) out rest codes ats more i written lt) ∙ same);
              is = sym (rest_word (new ++ more) out rest codes ats more written);
            }))
            (sym (split.other c none)) (reach rest others rest_stands)

-- ---- growing

pub grown : (a b c m n : List ℕ) → b ≡ a ++ m → c ≡ b ++ n → (x : List ℕ) × (c ≡ a ++ x)
grown a b c m n p q = (m ++ n, q ∙ ap (λ xs. xs ++ n) p ∙ append_assoc a m n)

pub still_long : (a b m : List ℕ) → b ≡ a ++ m → empty_leaf < length a → empty_leaf < length b
still_long a b m e h = let l = ap length e in omega (arith, length-append a m)

pub still_empty : (a b m : List ℕ) → b ≡ a ++ m → empty_leaf < length a → slice_index a empty_leaf ≡ 0 → slice_index b empty_leaf ≡ 0
still_empty a b m e h z = ap (λ xs. slice_index xs empty_leaf) e ∙ get_or_append_left a m 0 empty_leaf h ∙ z

pub child_more : (out new more xs : List ℕ) (at level left i : ℕ) (lists : List (Vec Item)) (child : Vec Item) (kept : List Item)
    → length xs ≡ i → i < length lists → new ≡ out ++ more → child ≡ get_or lists i child → kept ≡ child.items → Stands new at level left kept
    → ((k : ℕ) (d : Vec Item) → k < i → Stands out (get_or xs k 0) level left (get_or lists k d).items)
    → (k : ℕ) (d : Vec Item) → k < i + 1 → Stands new (get_or (xs ++ at ∷ []) k 0) level left (get_or lists k d).items
child_more out new more xs at level left i lists child kept len room e read is here before k d lt =
    ⊎_elim
    (λ (same : k ≡ i).
    let end : get_or (xs ++ at ∷ []) k 0 ≡ at = ap (λ n. get_or (xs ++ at ∷ []) n 0) (same ∙ sym len) ∙ get_or-append_seam xs at [] 0 in
    let item : kept ≡ (get_or lists k d).items = is ∙ ap (λ v. v.items) (read ∙ get_or_default lists i child d room) ∙ ap (λ n. (get_or lists n d).items) (sym same) in
    subst (λ (n : ℕ). Stands new n level left (get_or lists k d).items) (sym end) (subst (λ (ks : List Item). Stands new at level left ks) item here))
    (λ (ne : k ≢ i).
    let lower : k < i = omega arith in
    let inside : k < length xs = omega arith in
    subst (λ (n : ℕ). Stands new n level left (get_or lists k d).items) (sym (get_or_append_left xs (at ∷ []) 0 k inside))
    (stands_more out new more (get_or xs k 0) level left (get_or lists k d).items e (before k d lower)))
    (cases_eq k i)

pub ok_both : {X E : Type 0} (r : Result X E) (P Q R : X → Type 0) → IfOk r P → IfOk r Q → ((x : X) → P x → Q x → R x) → IfOk r R
ok_both (Ok x) P Q R p q f = f x p q
ok_both (Err e) P Q R p q f = tt

pub ok_weaker : {X E : Type 0} (r : Result X E) (P R : X → Type 0) → IfOk r P → ((x : X) → P x → R x) → IfOk r R
ok_weaker (Ok x) P R p f = f x p
ok_weaker (Err e) P R p f = tt

-- what a table with two codes is as pairs, one more
pub paired_more : (codes ats : List ℕ) (i : ℕ) → length ats ≡ length codes → i < length codes
    → paired (take (i + 1) codes) (take (i + 1) ats) ≡ paired (take i codes) (take i ats) ++ (get_or codes i 0 ∷ get_or ats i 0 ∷ [])
paired_more codes ats i e lt = rw (add-one) (more codes ats i e lt)
  where
    more : (cs ds : List ℕ) (n : ℕ) → length ds ≡ length cs → n < length cs → paired (take (suc n) cs) (take (suc n) ds) ≡ paired (take n cs) (take n ds) ++ (get_or cs n 0 ∷ get_or ds n 0 ∷ [])
    more [] ds n e lt = absurd (omega arith)
    more (c ∷ cs) [] n e lt = absurd (omega arith)
    more (c ∷ cs) (d ∷ ds) zero e lt = refl
    more (c ∷ cs) (d ∷ ds) (suc n) e lt = ap (λ xs. c ∷ d ∷ xs) (more cs ds n (omega arith) (omega arith))
