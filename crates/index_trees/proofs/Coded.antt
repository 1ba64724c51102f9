-- The codes of items stand in the list of their codes.
use Rattle.std.proofs.Common.{ℕ, List, [], ◌∷◌, get_or, Option, Some, None, arith, refl}
use Rattle.std.proofs.lemmas.List.Elements.{All-cons, All-nil, Contains-append_right}
use Rattle.std.specs.List.{filter_map, Contains, All, cons_option}
use Rattle.std.specs.Option.{IfSome}
use Rattle.index_trees.specs.declared.item.Item.{Item}
use Rattle.index_trees.specs.Items.{code_at}

abbrev pub AreThere : Option ℕ → List ℕ → Type 0
AreThere code codes = IfSome code (λ c. Contains codes c)

wider : (code : Option ℕ) (xs ys : List ℕ) → ((c : ℕ) → Contains xs c → Contains ys c) → AreThere code xs → AreThere code ys
wider None xs ys f h = h
wider (Some c) xs ys f h = f c h

pub weaker : (level : ℕ) (items : List Item) (xs ys : List ℕ) → ((c : ℕ) → Contains xs c → Contains ys c)
    → All (λ it. AreThere (code_at level it) xs) items → All (λ it. AreThere (code_at level it) ys) items
weaker level items xs ys f h = λ k d lt. wider (code_at level (get_or items k d)) xs ys f (h k d lt)

head_there : (code : Option ℕ) (rest : List ℕ) → AreThere code (cons_option code rest)
head_there None rest = tt
head_there (Some c) rest = (0, omega arith, refl)

tail_there : (code : Option ℕ) (rest : List ℕ) (c : ℕ) → Contains rest c → Contains (cons_option code rest) c
tail_there None rest c h = h
tail_there (Some x) rest c h = Contains-append_right (x ∷ []) rest c h

pub all_codes_there : (level : ℕ) (items : List Item) → All (λ it. AreThere (code_at level it) (filter_map (code_at level) items)) items
all_codes_there level [] = All-nil (λ it. AreThere (code_at level it) [])
all_codes_there level (it ∷ its) =
    let codes : List ℕ = filter_map (code_at level) (it ∷ its) in
    All-cons (λ i. AreThere (code_at level i) codes) it its (head_there (code_at level it) (filter_map (code_at level) its))
    (weaker level its (filter_map (code_at level) its) codes (λ c h. tail_there (code_at level it) (filter_map (code_at level) its) c h) (all_codes_there level its))
