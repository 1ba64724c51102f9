-- What was written behind a header stands for its items, whatever the header's words become.
use Rattle.call_patterns.specs.Size.{empty_leaf, header_length}
use Rattle.std.proofs.Common.{◌≡◌, ◌≢◌, ℕ, ◌+◌, ◌-◌, ◌<◌, ◌≤◌, List, [], ◌∷◌, ◌++◌, length, get_or, drop, get_or-drop, arith, sym, ap, ◌∙◌, subst, append_assoc, slice_index, length-append, length-drop}
use Rattle.std.proofs.lemmas.List.{drop-append-le, get_or-append-add}
use Rattle.std.specs.Global.{Vec}
use Rattle.index_trees.specs.declared.item.Item.{Item}
use Rattle.index_trees.specs.Parts.{IsSplit}
use Rattle.index_trees.specs.Trees.{paired, item_names, Stands, Holds}
use Rattle.index_trees.proofs.Standing.{stands_more, stands_empty, stands_leaf, stands_node, child_more}

-- the words behind another header
behind : (head out new more : List ℕ) → empty_leaf < length out → new ≡ out ++ more → head ++ drop header_length new ≡ (head ++ drop header_length out) ++ more
behind head out new more long e =
    let le : header_length ≤ length out = omega arith in
    ap (λ xs. head ++ xs) (ap (drop header_length) e ∙ drop-append-le header_length out more le) ∙ sym (append_assoc head (drop header_length out) more)

same_length : (head out : List ℕ) → length head ≡ header_length → empty_leaf < length out → length (head ++ drop header_length out) ≡ length out
same_length head out h long = omega (arith, length-append head (drop header_length out), length-drop header_length out)

pub holds_more : (out new more : List ℕ) (at level left : ℕ) (items : List Item) → empty_leaf < length out → new ≡ out ++ more → Holds out at level left items → Holds new at level left items
holds_more out new more at level left items long e h = record {
  each = λ head eight. stands_more (head ++ drop header_length out) (head ++ drop header_length new) more at level left items (behind head out new more long e) (h.each head eight);
}

pub holds_empty : (out : List ℕ) (level left : ℕ) → empty_leaf < length out → slice_index out empty_leaf ≡ 0 → Holds out empty_leaf level left []
holds_empty out level left long none = record {
  each = λ head eight.
      let room : empty_leaf < length (head ++ drop header_length out) = omega (arith, same_length head out eight long) in
      stands_empty (head ++ drop header_length out) level left room (eighth head eight none);
}
  where
    eighth : (head : List ℕ) → length head ≡ header_length → slice_index out empty_leaf ≡ 0 → slice_index (head ++ drop header_length out) empty_leaf ≡ 0
    eighth head eight z =
        let e : empty_leaf ≡ length head + 0 = omega arith in
        ap (slice_index (head ++ drop header_length out)) e ∙ get_or-append-add head (drop header_length out) 0 0 ∙ get_or-drop header_length out 0 0 ∙ z

pub holds_leaf : (out new : List ℕ) (level : ℕ) (items : List Item) → empty_leaf < length out → new ≡ out ++ (length items ∷ item_names items) → Holds new (length out) level 0 items
holds_leaf out new level items long e = record {
  each = λ head eight.
      subst (λ (n : ℕ). Stands (head ++ drop header_length new) n level 0 items) (same_length head out eight long)
      (stands_leaf (head ++ drop header_length out) (head ++ drop header_length new) level items (behind head out new (length items ∷ item_names items) long e));
}

pub holds_node : (out new : List ℕ) (rest level left : ℕ) (codes ats : List ℕ) (items : List Item) (children : List (Vec Item)) (others : List Item)
    → empty_leaf < length out → left ≢ 0 → length ats ≡ length codes → new ≡ out ++ (length codes ∷ rest ∷ paired codes ats)
    → IsSplit level items codes children others → Holds out rest (level + 1) (left - 1) others
    → ((k : ℕ) (d : Vec Item) → k < length codes → Holds out (get_or ats k 0) (level + 1) (left - 1) (get_or children k d).items)
    → Holds new (length out) level left items
holds_node out new rest level left codes ats items children others long deep many e split rest_holds child_holds = record {
  each = λ head eight.
      let room : empty_leaf < length (head ++ drop header_length out) = omega (arith, same_length head out eight long) in
      subst (λ (n : ℕ). Stands (head ++ drop header_length new) n level left items) (same_length head out eight long)
      (stands_node (head ++ drop header_length out) (head ++ drop header_length new) rest level left codes ats items children others room deep many
      (behind head out new (length codes ∷ rest ∷ paired codes ats) long e) split (rest_holds.each head eight) (λ k d lt. (child_holds k d lt).each head eight));
}

pub child_holds_more : (out new more xs : List ℕ) (at level left i : ℕ) (lists : List (Vec Item)) (child : Vec Item) (kept : List Item)
    → empty_leaf < length out → length xs ≡ i → i < length lists → new ≡ out ++ more → child ≡ get_or lists i child → kept ≡ child.items → Holds new at level left kept
    → ((k : ℕ) (d : Vec Item) → k < i → Holds out (get_or xs k 0) level left (get_or lists k d).items)
    → (k : ℕ) (d : Vec Item) → k < i + 1 → Holds new (get_or (xs ++ at ∷ []) k 0) level left (get_or lists k d).items
child_holds_more out new more xs at level left i lists child kept long len room e read is here before k d lt = record {
  each = λ head eight. child_more (head ++ drop header_length out) (head ++ drop header_length new) more xs at level left i lists child kept len room
      (behind head out new more long e) read is (here.each head eight) (λ j f below. (before j f below).each head eight) k d lt;
}
