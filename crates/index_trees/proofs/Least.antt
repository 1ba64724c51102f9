-- What a level needs in any case: each child has each of the items that have no code.
use Rattle.std.proofs.Common.{◌≡◌, ◌≢◌, ℕ, zero, suc, ◌+◌, ◌-◌, ◌*◌, ◌<◌, ◌≤◌, Bool, true, false, List, [], ◌∷◌, length, Option, Some, None, arith, refl, sym, ap, ◌∙◌, subst, eq-eqb}
use Rattle.std.proofs.Math.Nat.{add-mul}
use Rattle.std.proofs.lemmas.List.Elements.{All-tail}
use Rattle.std.specs.List.{filter, filter_map, Contains, All}
use Rattle.std.specs.Option.{IfSome}
use Rattle.call_patterns.specs.Rows.{agrees}
use Rattle.call_patterns.specs.Size.{is_none, total}
use Rattle.index_trees.specs.declared.item.Item.{Item}
use Rattle.index_trees.specs.Items.{code_at, fits_at, has_no_code}
use Rattle.index_trees.specs.Levels.{codes_of, level_words}
use Rattle.index_trees.proofs.Counted.{counted, one_if}
use Rattle.index_trees.proofs.Coded.{all_codes_there, weaker}
use Rattle.index_trees.proofs.Codes.{codes_has}
use Rattle.index_trees.proofs.Parting.{coded_fits, plain_not}
use Rattle.index_trees.proofs.Sums.{size_leaf, size_node}

total_le : (f g : ℕ → ℕ) (cs : List ℕ) → ((c : ℕ) → f c ≤ g c) → total f cs ≤ total g cs
total_le f g [] le = omega arith
total_le f g (c ∷ cs) le = let a = le c in let b = total_le f g cs le in omega arith

total_less : (f g : ℕ → ℕ) (cs : List ℕ) (x : ℕ) → Contains cs x → ((c : ℕ) → f c ≤ g c) → f x < g x → total f cs < total g cs
total_less f g [] x (k, lt, e) le less = absurd (omega arith)
total_less f g (c ∷ cs) x (zero, lt, e) le less =
    let here : f c < g c = subst (λ (n : ℕ). f n < g n) (sym e) less in
    let b = total_le f g cs le in
    omega arith
total_less f g (c ∷ cs) x (suc k, lt, e) le less =
    let a = le c in
    let b = total_less f g cs x (k, omega arith, e) le less in
    omega arith

total_const : (f : ℕ → ℕ) (n : ℕ) (cs : List ℕ) → ((c : ℕ) → n ≤ f c) → length cs * n ≤ total f cs
total_const f n [] le = omega arith
total_const f n (c ∷ cs) le =
    let a = le c in
    let b = total_const f n cs le in
    let one : suc (length cs) ≡ length cs + 1 = omega arith in
    let e : suc (length cs) * n ≡ length cs * n + 1 * n = ap (λ k. k * n) one ∙ add-mul (length cs) 1 n in
    omega arith

-- each item is counted at its code, or among those that have none
covered : (level : ℕ) (items : List Item) (codes : List ℕ) → All (λ it. IfSome (code_at level it) (λ c. Contains codes c)) items
    → length items ≤ length (filter (has_no_code level) items) + total (λ c. length (filter (fits_at level c) items)) codes
covered level [] codes all = omega arith
covered level (it ∷ its) codes all = one (code_at level it) refl (all 0 it (omega arith)) (covered level its codes (All-tail (λ i. IfSome (code_at level i) (λ x. Contains codes x)) it its all))
  where
    more : (c : ℕ) → length (filter (fits_at level c) its) ≤ length (filter (fits_at level c) (it ∷ its))
    more c = let e = counted (fits_at level c) it its in omega arith

    one : (o : Option ℕ) → code_at level it ≡ o → IfSome o (λ x. Contains codes x)
        → length its ≤ length (filter (has_no_code level) its) + total (λ c. length (filter (fits_at level c) its)) codes
        → suc (length its) ≤ length (filter (has_no_code level) (it ∷ its)) + total (λ c. length (filter (fits_at level c) (it ∷ its))) codes
    one None e there h =
        let none = counted (has_no_code level) it its in
        let passes : one_if (has_no_code level it) ≡ 1 = ap one_if (plain_not level it e) in
        let t = total_le (λ c. length (filter (fits_at level c) its)) (λ c. length (filter (fits_at level c) (it ∷ its))) codes more in
        omega arith
    one (Some x) e there h =
        let none = counted (has_no_code level) it its in
        let here = counted (fits_at level x) it its in
        let passes : one_if (fits_at level x it) ≡ 1 = ap one_if (coded_fits level x x it e ∙ eq-eqb x x refl) in
        let less : length (filter (fits_at level x) its) < length (filter (fits_at level x) (it ∷ its)) = omega arith in
        let t = total_less (λ c. length (filter (fits_at level c) its)) (λ c. length (filter (fits_at level c) (it ∷ its))) codes x there more less in
        omega arith

-- a tree has a word for each of its items
pub words_le : (left level : ℕ) (items : List Item) → length items ≤ level_words left level items
words_le zero level [] = omega arith
words_le zero level (it ∷ its) = let e = size_leaf level (it ∷ its) (omega arith) in omega arith
words_le (suc left) level [] = omega arith
words_le (suc left) level (it ∷ its) =
    let items : List Item = it ∷ its in
    let node = size_node (suc left) level (it ∷ its) (λ e. absurd (omega arith)) (omega arith) in
    let all = weaker level (it ∷ its) (filter_map (code_at level) (it ∷ its)) (codes_of level (it ∷ its)) (codes_has level (it ∷ its)) (all_codes_there level (it ∷ its)) in
    let cover = covered level (it ∷ its) (codes_of level (it ∷ its)) all in
    let rest = words_le left (level + 1) (filter (has_no_code level) (it ∷ its)) in
    let children = total_le (λ c. length (filter (fits_at level c) (it ∷ its))) (λ c. level_words left (level + 1) (filter (fits_at level c) (it ∷ its))) (codes_of level (it ∷ its))
    (λ c. words_le left (level + 1) (filter (fits_at level c) (it ∷ its))) in
    let same : suc left - 1 ≡ left = omega arith in
    joined (level_words (suc left) level (it ∷ its)) (length (codes_of level (it ∷ its))) (suc left - 1) left (it ∷ its) level same node cover rest children
  where
    joined : (whole n m k : ℕ) (xs : List Item) (l : ℕ) → m ≡ k
        → whole ≡ 2 + 2 * n + level_words m (l + 1) (filter (has_no_code l) xs) + total (λ c. level_words m (l + 1) (filter (fits_at l c) xs)) (codes_of l xs)
        → length xs ≤ length (filter (has_no_code l) xs) + total (λ c. length (filter (fits_at l c) xs)) (codes_of l xs)
        → length (filter (has_no_code l) xs) ≤ level_words k (l + 1) (filter (has_no_code l) xs)
        → total (λ c. length (filter (fits_at l c) xs)) (codes_of l xs) ≤ total (λ c. level_words k (l + 1) (filter (fits_at l c) xs)) (codes_of l xs)
        → length xs ≤ whole
    joined whole n m k xs l e node cover rest children =
        let node2 : whole ≡ 2 + 2 * n + level_words k (l + 1) (filter (has_no_code l) xs) + total (λ c. level_words k (l + 1) (filter (fits_at l c) xs)) (codes_of l xs) =
        node ∙ ap (λ j. 2 + 2 * n + level_words j (l + 1) (filter (has_no_code l) xs) + total (λ c. level_words j (l + 1) (filter (fits_at l c) xs)) (codes_of l xs)) e in
        omega arith

-- an item without a code is in each child
fewer : (p q : Item → Bool) (items : List Item) → ((it : Item) → p it ≡ true → q it ≡ true) → length (filter p items) ≤ length (filter q items)
fewer p q [] f = omega arith
fewer p q (it ∷ its) f = one (p it) refl (fewer p q its f)
  where
    one : (b : Bool) → p it ≡ b → length (filter p its) ≤ length (filter q its) → length (filter p (it ∷ its)) ≤ length (filter q (it ∷ its))
    one true e h =
        let a = counted p it its in
        let c = counted q it its in
        let x : one_if (p it) ≡ 1 = ap one_if e in
        let y : one_if (q it) ≡ 1 = ap one_if (f it e) in
        omega arith
    one false e h =
        let a = counted p it its in
        let c = counted q it its in
        let x : one_if (p it) ≡ 0 = ap one_if e in
        omega arith

plain_fits_all : (level c : ℕ) (it : Item) → has_no_code level it ≡ true → fits_at level c it ≡ true
unfolding has_no_code fits_at
plain_fits_all level c it h = one (code_at level it) h
  where
    one : (o : Option ℕ) → is_none o ≡ true → agrees c o ≡ true
    one None e = refl
    one (Some x) e = absurd (cc)

pub least : (left level : ℕ) (items : List Item) → left ≢ 0 → 0 < length items
    → 2 + 2 * length (codes_of level items) + length (codes_of level items) * length (filter (has_no_code level) items) ≤ level_words left level items
least left level items deep some =
    let node = size_node left level items deep some in
    let each : (c : ℕ) → length (filter (has_no_code level) items) ≤ level_words (left - 1) (level + 1) (filter (fits_at level c) items) = λ c.
    let a = fewer (has_no_code level) (fits_at level c) items (plain_fits_all level c) in
    let b = words_le (left - 1) (level + 1) (filter (fits_at level c) items) in
    omega arith in
    let children = total_const (λ c. level_words (left - 1) (level + 1) (filter (fits_at level c) items)) (length (filter (has_no_code level) items)) (codes_of level items) each in
    omega arith
