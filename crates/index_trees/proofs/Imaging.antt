-- From items back to rows, and from the words that were written to the closed image.
use Rattle.call_patterns.specs.Size.{empty_leaf, header_length}
use Rattle.std.proofs.Common.{◌≡◌, ℕ, zero, suc, ◌^◌, ◌<◌, ◌≤◌, Bool, true, false, cond, List, [], ◌∷◌, ◌++◌, length, get_or, take, drop, map, arith, refl, sym, ap, ◌∙◌, subst, slice_index}
use Rattle.std.proofs.Math.ListN.{set}
use Rattle.std.proofs.lemmas.List.{take-append-drop, append-nil, get_or-set_same, length-set, length-take-le}
use Rattle.std.specs.List.{filter}
use Rattle.index_trees.specs.declared.item.Item.{Item}
use Rattle.call_patterns.specs.declared.row.Row.{Row}
use Rattle.call_patterns.specs.declared.pattern.Pattern.{Pattern}
use Rattle.call_patterns.specs.Rows.{fits_all, bucket, names}
use Rattle.call_patterns.specs.Patterns.{positions, places, IsPattern}
use Rattle.index_trees.specs.Items.{fits_at, fits_from}
use Rattle.index_trees.specs.Reading.{Leads, root}
use Rattle.index_trees.specs.Trees.{item_names, Finds, Holds}
use Rattle.index_trees.specs.Images.{item_at, HoldsBucket}

fits_agree : (a b c : ℕ) (r : Row) (cs : List ℕ) → length cs ≤ 3 → fits_from 0 cs (item_at a b c r) ≡ fits_all (take (length cs) (a ∷ b ∷ c ∷ [])) cs r
unfolding fits_at
fits_agree a b c r [] few = refl
fits_agree a b c r (x ∷ []) few = refl
fits_agree a b c r (x ∷ y ∷ []) few = refl
fits_agree a b c r (x ∷ y ∷ z ∷ []) few = refl
fits_agree a b c r (x ∷ y ∷ z ∷ w ∷ ws) few = absurd (omega arith)

kept_names : (a b c : ℕ) (ps cs : List ℕ) (rows : List Row) → ((r : Row) → fits_from 0 cs (item_at a b c r) ≡ fits_all ps cs r)
    → item_names (filter (fits_from 0 cs) (map (item_at a b c) rows)) ≡ names (filter (fits_all ps cs) rows)
kept_names a b c ps cs [] same = refl
kept_names a b c ps cs (r ∷ rs) same =
    let rest = kept_names a b c ps cs rs same in
    ap (λ t. item_names (cond t (item_at a b c r ∷ filter (fits_from 0 cs) (map (item_at a b c) rs)) (filter (fits_from 0 cs) (map (item_at a b c) rs)))) (same r)
    ∙ one (fits_all ps cs r) rest
  where
    one : (t : Bool) → item_names (filter (fits_from 0 cs) (map (item_at a b c) rs)) ≡ names (filter (fits_all ps cs) rs)
        → item_names (cond t (item_at a b c r ∷ filter (fits_from 0 cs) (map (item_at a b c) rs)) (filter (fits_from 0 cs) (map (item_at a b c) rs)))
        ≡ names (cond t (r ∷ filter (fits_all ps cs) rs) (filter (fits_all ps cs) rs))
    one true e = ap (λ xs. r.clause ∷ xs) e
    one false e = e

pub three_is : (xs : List ℕ) → length xs ≡ 3 → xs ≡ get_or xs 0 0 ∷ get_or xs 1 0 ∷ get_or xs 2 0 ∷ []
three_is [] e = absurd (omega arith)
three_is (a ∷ []) e = absurd (omega arith)
three_is (a ∷ b ∷ []) e = absurd (omega arith)
three_is (a ∷ b ∷ c ∷ []) e = refl
three_is (a ∷ b ∷ c ∷ d ∷ ds) e = absurd (omega arith)

pub rows_back : (p : Pattern) (rows : List Row) (items : List Item) (cs : List ℕ) → IsPattern p → length cs ≡ p.count
    → items ≡ map (item_at (get_or (places p) 0 0) (get_or (places p) 1 0) (get_or (places p) 2 0)) rows
    → item_names (filter (fits_from 0 cs) items) ≡ names (bucket rows (positions p) cs)
unfolding bucket
rows_back p rows items cs h many e =
    let few : length cs ≤ 3 = omega (arith, h.few) in
    let ps_is : take (length cs) (get_or (places p) 0 0 ∷ get_or (places p) 1 0 ∷ get_or (places p) 2 0 ∷ []) ≡ positions p =
    ap (take (length cs)) (sym (three_is (places p) h.three)) ∙ ap (λ n. take n (places p)) many in
    ap (λ xs. item_names (filter (fits_from 0 cs) xs)) e
    ∙ kept_names (get_or (places p) 0 0) (get_or (places p) 1 0) (get_or (places p) 2 0) (positions p) cs rows
    (λ r. fits_agree (get_or (places p) 0 0) (get_or (places p) 1 0) (get_or (places p) 2 0) r cs few ∙ ap (λ ps. fits_all ps cs r) ps_is)

-- a write in the header leaves the rest
drop-set : (xs : List ℕ) (i n v : ℕ) → i < n → drop n (set xs i v) ≡ drop n xs
drop-set [] i n v lt = refl
drop-set (x ∷ xs) i zero v lt = absurd (omega arith)
drop-set (x ∷ xs) zero (suc n) v lt = refl
drop-set (x ∷ xs) (suc i) (suc n) v lt = drop-set xs i n v (omega arith)

pub closed : (out ws : List ℕ) (size top count : ℕ) (items : List Item) (cs : List ℕ) (rows : List Row)
    → empty_leaf < length out → ws ≡ set (set out 6 size) 7 top → length ws < 2 ^ 63 → Holds out top 0 count items → length cs ≡ count
    → item_names (filter (fits_from 0 cs) items) ≡ names rows → HoldsBucket ws cs rows
closed out ws size top count items cs rows long e small h many back =
    let len : length ws ≡ length out = ap length e ∙ length-set (set out 6 size) 7 top ∙ length-set out 6 size in
    let tail : drop header_length ws ≡ drop header_length out = ap (drop header_length) e ∙ drop-set (set out 6 size) 7 header_length top (omega arith) ∙ drop-set out 6 header_length size (omega arith) in
    let eight : length (take header_length ws) ≡ header_length = length-take-le header_length ws (omega arith) in
    let whole : (take header_length ws ++ drop header_length out) ++ [] ≡ ws = append-nil (take header_length ws ++ drop header_length out) ∙ ap (λ xs. take header_length ws ++ xs) (sym tail) ∙ take-append-drop header_length ws in
    let fits : length ((take header_length ws ++ drop header_length out) ++ []) < 2 ^ 63 = subst (λ (xs : List ℕ). length xs < 2 ^ 63) (sym whole) small in
    let f : Finds ws top 0 cs items = subst (λ (xs : List ℕ). Finds xs top 0 cs items) whole ((h.each (take header_length ws) eight).each [] cs fits many) in
    let room : 7 < length (set out 6 size) = omega (arith, length-set out 6 size) in
    let start : root ws ≡ top = ap (λ xs. slice_index xs 7) e ∙ get_or-set_same (set out 6 size) 7 top 0 room in
    record {
      bucket = f.bucket;
      leads = subst (λ (n : ℕ). Leads ws n cs f.bucket) (sym start) f.leads;
      is = f.names ∙ back;
    }
