-- The size of a tree by its items is the size of its rows.
use Rattle.std.proofs.Common.{◌≡◌, ℕ, zero, suc, ◌+◌, ◌*◌, ◌≤◌, Bool, true, false, cond, List, [], ◌∷◌, length, take, map, get_or, arith, refl, sym, ap, ◌∙◌}
use Rattle.std.proofs.lemmas.List.{length-map}
use Rattle.std.specs.List.{filter}
use Rattle.call_patterns.specs.declared.pattern.Pattern.{Pattern}
use Rattle.call_patterns.specs.declared.row.Row.{Row}
use Rattle.call_patterns.specs.Patterns.{places, IsPattern}
use Rattle.call_patterns.specs.Rows.{agrees, code_of, fits}
use Rattle.call_patterns.specs.Size.{codes_at, has_no_code as has_none, header_length, is_none, size, size_from, total, with_code}
use Rattle.index_trees.specs.declared.item.Item.{Item}
use Rattle.index_trees.specs.Items.{code_at, fits_at, has_no_code}
use Rattle.index_trees.specs.Levels.{codes_of, level_words, tree_words}
use Rattle.index_trees.specs.Images.{item_at, items_at}
use Rattle.index_trees.proofs.Imaging.{three_is}

-- the items see the rows' codes at these positions, one at each level from this one on
abbrev pub Sees : (Row → Item) → ℕ → List ℕ → Type 0
Sees f level [] = Unit {0}
Sees f level (p ∷ ps) = ((row : Row) → code_at level (f row) ≡ code_of row p) × Sees f (level + 1) ps

filter_mapped : (f : Row → Item) (t : Item → Bool) (u : Row → Bool) → ((row : Row) → t (f row) ≡ u row) → (rows : List Row) → filter t (map f rows) ≡ map f (filter u rows)
filter_mapped f t u same [] = refl
filter_mapped f t u same (r ∷ rs) =
    ap (λ b. cond b (f r ∷ filter t (map f rs)) (filter t (map f rs))) (same r) ∙ one (u r) (filter_mapped f t u same rs)
  where
    one : (b : Bool) → filter t (map f rs) ≡ map f (filter u rs) → cond b (f r ∷ filter t (map f rs)) (filter t (map f rs)) ≡ map f (cond b (r ∷ filter u rs) (filter u rs))
    one true e = ap (λ xs. f r ∷ xs) e
    one false e = e

codes_mapped : (f : Row → Item) (level p : ℕ) → ((row : Row) → code_at level (f row) ≡ code_of row p) → (rows : List Row) → codes_of level (map f rows) ≡ codes_at p rows
unfolding codes_of codes_at
codes_mapped f level p same [] = refl
codes_mapped f level p same (r ∷ rs) =
    ap (λ o. with_code o (codes_of level (map f rs))) (same r) ∙ ap (with_code (code_of r p)) (codes_mapped f level p same rs)

plain_mapped : (f : Row → Item) (level p : ℕ) → ((row : Row) → code_at level (f row) ≡ code_of row p) → (row : Row) → has_no_code level (f row) ≡ has_none p row
unfolding has_no_code
plain_mapped f level p same row = ap is_none (same row)

fits_mapped : (f : Row → Item) (level p c : ℕ) → ((row : Row) → code_at level (f row) ≡ code_of row p) → (row : Row) → fits_at level c (f row) ≡ fits p c row
unfolding fits_at
fits_mapped f level p c same row = ap (agrees c) (same row)

total_same : (f g : ℕ → ℕ) (cs : List ℕ) → ((c : ℕ) → f c ≡ g c) → total f cs ≡ total g cs
total_same f g [] same = refl
total_same f g (c ∷ cs) same = let a = same c in let b = total_same f g cs same in omega arith

pub words_mapped : (f : Row → Item) (ps : List ℕ) (level : ℕ) → Sees f level ps → (rows : List Row) → level_words (length ps) level (map f rows) ≡ size_from ps rows
unfolding level_words size_from
words_mapped f [] level sees [] = refl
words_mapped f [] level sees (r ∷ rs) = ap (λ n. 1 + suc n) (length-map rs f)
words_mapped f (p ∷ ps) level sees [] = refl
words_mapped f (p ∷ ps) level sees (r ∷ rs) =
    let count = ap length (codes_mapped f level p sees.0 (r ∷ rs)) in
    let rest : level_words (length ps) (level + 1) (filter (has_no_code level) (map f (r ∷ rs))) ≡ size_from ps (filter (has_none p) (r ∷ rs)) =
    ap (level_words (length ps) (level + 1)) (filter_mapped f (has_no_code level) (has_none p) (plain_mapped f level p sees.0) (r ∷ rs))
    ∙ words_mapped f ps (level + 1) sees.1 (filter (has_none p) (r ∷ rs)) in
    let each : (c : ℕ) → level_words (length ps) (level + 1) (filter (fits_at level c) (map f (r ∷ rs))) ≡ size_from ps (filter (fits p c) (r ∷ rs)) =
    λ c. ap (level_words (length ps) (level + 1)) (filter_mapped f (fits_at level c) (fits p c) (fits_mapped f level p c sees.0) (r ∷ rs))
    ∙ words_mapped f ps (level + 1) sees.1 (filter (fits p c) (r ∷ rs)) in
    let children : total (λ c. level_words (length ps) (level + 1) (filter (fits_at level c) (map f (r ∷ rs)))) (codes_of level (map f (r ∷ rs)))
    ≡ total (λ c. size_from ps (filter (fits p c) (r ∷ rs))) (codes_at p (r ∷ rs)) =
    ap (total (λ c. level_words (length ps) (level + 1) (filter (fits_at level c) (map f (r ∷ rs))))) (codes_mapped f level p sees.0 (r ∷ rs))
    ∙ total_same (λ c. level_words (length ps) (level + 1) (filter (fits_at level c) (map f (r ∷ rs)))) (λ c. size_from ps (filter (fits p c) (r ∷ rs))) (codes_at p (r ∷ rs)) each in
    summed (length (codes_of level (map f (r ∷ rs)))) (length (codes_at p (r ∷ rs))) (level_words (length ps) (level + 1) (filter (has_no_code level) (map f (r ∷ rs)))) (size_from ps (filter (has_none p) (r ∷ rs)))
    (total (λ c. level_words (length ps) (level + 1) (filter (fits_at level c) (map f (r ∷ rs)))) (codes_of level (map f (r ∷ rs)))) (total (λ c. size_from ps (filter (fits p c) (r ∷ rs))) (codes_at p (r ∷ rs)))
    count rest children
  where
    summed : (a b x y u v : ℕ) → a ≡ b → x ≡ y → u ≡ v → 2 + 2 * a + x + u ≡ 2 + 2 * b + y + v
    summed a b x y u v e g h = omega arith

few : (a b c n : ℕ) (rows : List Row) → n ≤ 3 → level_words n 0 (map (item_at a b c) rows) ≡ size_from (take n (a ∷ b ∷ c ∷ [])) rows
few a b c zero rows le = words_mapped (item_at a b c) [] 0 tt rows
few a b c (suc zero) rows le = words_mapped (item_at a b c) (a ∷ []) 0 (λ row. refl, tt) rows
few a b c (suc (suc zero)) rows le = words_mapped (item_at a b c) (a ∷ b ∷ []) 0 (λ row. refl, (λ row. refl, tt)) rows
few a b c (suc (suc (suc zero))) rows le = words_mapped (item_at a b c) (a ∷ b ∷ c ∷ []) 0 (λ row. refl, (λ row. refl, (λ row. refl, tt))) rows
few a b c (suc (suc (suc (suc n)))) rows le = absurd (omega arith)

pub size_is : (p : Pattern) (rows : List Row) → IsPattern p → size rows p ≡ tree_words p.count (items_at p rows)
size_is p rows h =
    let at : take p.count (places p) ≡ take p.count (get_or (places p) 0 0 ∷ get_or (places p) 1 0 ∷ get_or (places p) 2 0 ∷ []) = ap (take p.count) (three_is (places p) h.three) in
    ap (λ n. header_length + 1 + n)
    (ap (λ ps. size_from ps rows) at ∙ sym (few (get_or (places p) 0 0) (get_or (places p) 1 0) (get_or (places p) 2 0) p.count rows h.few))

-- the items that the code makes are the items of the pattern's places
pub placed : (p : Pattern) (rows : List Row) (at : List ℕ) (items : List Item) → at ≡ places p → items ≡ map (item_at (get_or at 0 0) (get_or at 1 0) (get_or at 2 0)) rows → items ≡ items_at p rows
placed p rows at items e h = h ∙ ap (λ ps. map (item_at (get_or ps 0 0) (get_or ps 1 0) (get_or ps 2 0)) rows) e
