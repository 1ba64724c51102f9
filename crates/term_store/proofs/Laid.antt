-- Rows of arguments that stand one after the other.
use Rattle.std.proofs.Common.{◌≡◌, ℕ, zero, suc, false, ◌+◌, ◌-◌, ◌<◌, ◌≤◌, List, [], ◌∷◌, ◌++◌, length, take, drop, refl, sym, ap, ap₂, ◌∙◌, arith, slice_index_or, slice_range, length-drop, take_all}
use Rattle.std.specs.Prelude.{◌==◌}
use Rattle.std.proofs.lemmas.List.{take-append-le}
use Rattle.std.proofs.Math.Seq.{drop-append_seam}
use Rattle.term_store.specs.declared.cell.Cell.{Cell}
use Rattle.term_store.specs.declared.heap.Row.{Row}
use Rattle.term_store.specs.Terms.{row_at}
use Rattle.term_store.specs.Inside.{row_of, rows_of, AreLaidFrom, end_of}

pub rows-length : (args : List Cell) (rows : List Row) → length (rows_of args rows) ≡ length rows
rows-length args [] = refl
rows-length args (row ∷ rows) = ap suc (rows-length args rows)

pub laid-le : (at end : ℕ) (rows : List Row) → AreLaidFrom at end rows → at ≤ end
laid-le at end [] h = omega (arith, h)
laid-le at end (row ∷ rows) h = let k = laid-le (at + row.arity) end rows h.1 in omega (arith, k)

pub laid-room : (at end : ℕ) (rows : List Row) → AreLaidFrom at end rows → (i : ℕ) (d : Row) → i < length rows
    → (slice_index_or rows i d).first + (slice_index_or rows i d).arity ≤ end
laid-room at end [] h i d low = absurd (omega arith)
laid-room at end (row ∷ rows) h zero d low = let k = laid-le (at + row.arity) end rows h.1 in let e = h.0 in omega (arith, k, e)
laid-room at end (row ∷ rows) h (suc i) d low = laid-room (at + row.arity) end rows h.1 i d (omega arith)

pub row-read : (args : List Cell) (rows : List Row) (i : ℕ) (d : Row) → i < length rows → row_at (rows_of args rows) i ≡ row_of args (slice_index_or rows i d)
row-read args [] i d low = absurd (omega arith)
row-read args (row ∷ rows) zero d low = refl
row-read args (row ∷ rows) (suc i) d low = row-read args rows i d (omega arith)

-- ---- one more row

pub laid-more : (at end n name : ℕ) (rows : List Row) → AreLaidFrom at end rows
    → AreLaidFrom at (end + n) (rows ++ record { name = name; first = end; arity = n } ∷ [])
laid-more at end n name [] h = (sym h, ap (λ (m : ℕ). m + n) h)
laid-more at end n name (row ∷ rows) h = (h.0, laid-more (at + row.arity) end n name rows h.1)

drop-left : {A : Type 0} (xs ys : List A) (a : ℕ) → a ≤ length xs → drop a (xs ++ ys) ≡ drop a xs ++ ys
drop-left xs ys zero h = refl
drop-left [] ys (suc a) h = absurd (omega arith)
drop-left (x ∷ xs) ys (suc a) h = drop-left xs ys a (omega arith)

range-left : {A : Type 0} (xs ys : List A) (a b : ℕ) → a ≤ b → b ≤ length xs → slice_range (xs ++ ys) a b ≡ slice_range xs a b
range-left xs ys a b le h =
    ap (take (b - a)) (drop-left xs ys a (omega arith))
    ∙ take-append-le (b - a) (drop a xs) ys (let k = length-drop a xs in omega (arith, k))

range-last : {A : Type 0} (xs ys : List A) (n : ℕ) → n ≡ length xs + length ys → slice_range (xs ++ ys) (length xs) n ≡ ys
range-last xs ys n e =
    ap (take (n - length xs)) (drop-append_seam xs ys) ∙ take_all (n - length xs) ys (omega (arith, e))

pub rows-left : (xs ys : List Cell) (rows : List Row) (at end : ℕ) → AreLaidFrom at end rows → end ≤ length xs → rows_of (xs ++ ys) rows ≡ rows_of xs rows
rows-left xs ys [] at end h low = refl
rows-left xs ys (row ∷ rows) at end h low =
    let k = laid-le (at + row.arity) end rows h.1 in let e = h.0 in
    let inside : row.first + row.arity ≤ length xs = omega (arith, k, e, low) in
    ap₂ (λ (cs : List Cell) (rs : List (ℕ × List Cell)). (row.name, cs) ∷ rs) (range-left xs ys row.first (row.first + row.arity) (omega arith) inside)
    (rows-left xs ys rows (at + row.arity) end h.1 low)

rows_of-append : (args : List Cell) (rows more : List Row) → rows_of args (rows ++ more) ≡ rows_of args rows ++ rows_of args more
rows_of-append args [] more = refl
rows_of-append args (row ∷ rows) more = ap (λ (rs : List (ℕ × List Cell)). row_of args row ∷ rs) (rows_of-append args rows more)

pub rows-more : (args cs : List Cell) (rows : List Row) (name : ℕ) → AreLaidFrom 0 (length args) rows
    → rows_of (args ++ cs) (rows ++ record { name = name; first = length args; arity = length cs } ∷ []) ≡ rows_of args rows ++ (name, cs) ∷ []
rows-more args cs rows name h =
    rows_of-append (args ++ cs) rows (record { name = name; first = length args; arity = length cs } ∷ [])
    ∙ ap₂ (λ (rs : List (ℕ × List Cell)) (ds : List Cell). rs ++ (name, ds) ∷ []) (rows-left args cs rows 0 (length args) h (omega arith)) (range-last args cs (length args + length cs) refl)

-- ---- the first so many rows

pub rows-take : (args : List Cell) (n : ℕ) (rows : List Row) → rows_of args (take n rows) ≡ take n (rows_of args rows)
rows-take args zero rows = refl
rows-take args (suc n) [] = refl
rows-take args (suc n) (row ∷ rows) = ap (λ (rs : List (ℕ × List Cell)). row_of args row ∷ rs) (rows-take args n rows)

pub laid-take : (at end n : ℕ) (rows : List Row) → AreLaidFrom at end rows → AreLaidFrom at (end_of at (take n rows)) (take n rows)
laid-take at end zero rows h = refl
laid-take at end (suc n) [] h = refl
laid-take at end (suc n) (row ∷ rows) h = (h.0, laid-take (at + row.arity) end n rows h.1)

pub end-le : (at end n : ℕ) (rows : List Row) → AreLaidFrom at end rows → end_of at (take n rows) ≤ end
end-le at end zero rows h = laid-le at end rows h
end-le at end (suc n) [] h = omega (arith, h)
end-le at end (suc n) (row ∷ rows) h = end-le (at + row.arity) end n rows h.1

pub end-last : (at end : ℕ) (rows : List Row) (d : Row) → AreLaidFrom at end rows → 0 < length rows
    → (slice_index_or rows (length rows - 1) d).first + (slice_index_or rows (length rows - 1) d).arity ≡ end
end-last at end [] d h low = absurd (omega arith)
end-last at end (row ∷ []) d h low = ap (λ (m : ℕ). m + row.arity) h.0 ∙ h.1
end-last at end (row ∷ next ∷ rows) d h low =
    let e : length (row ∷ next ∷ rows) - 1 ≡ suc (length (next ∷ rows) - 1) = omega arith in
    ap (λ (k : ℕ). (slice_index_or (row ∷ next ∷ rows) k d).first + (slice_index_or (row ∷ next ∷ rows) k d).arity) e
    ∙ end-last (at + row.arity) end (next ∷ rows) d h.1 (omega arith)

pub some : (n : ℕ) → false ≡ (n == 0) → 0 < n
some zero e = cc
some (suc n) e = omega arith
