-- Variables and their numbers, by the nodes of terms.
use Rattle.std.proofs.Common.{◌≡◌, ℕ, ◌+◌, List, [], ◌∷◌, ◌++◌, Bool, true, false, ◌||◌, nat_eq, if◌then◌else◌, length, refl, sym, ap, ◌∙◌, append_assoc, append-nil, arith}
use Rattle.std.specs.List.{list_any, position_or_len}
use Rattle.std.proofs.lemmas.List.Recursion.{is_position_or_len}
use Rattle.std.proofs.lemmas.Bool.{eq-eqb, or_parts, true≢false}
use Rattle.prolog_terms.specs.Tree.{Tree, Trees, variable, integer, atom, compound, none, more, count, HasArities, AllHaveArities}
use Rattle.prolog_terms.specs.Flat.{nodes, nodes_all, tree, tree-nodes, HasPrefixOrder}
use Rattle.prolog_terms.specs.declared.node.Node.{Node}
use Rattle.prolog_terms.specs.declared.node.Node.TheVariants.{Var, Functor}
use Rattle.prolog_clauses.specs.Renaming.{renamed, all_renamed, with_variable, variables_after, all_variables_after, place_of}
use Rattle.prolog_clauses.specs.Formed.{rule, variables_of, number_in}
use Rattle.prolog_clauses.specs.Flat.{met_after_nodes, numbered_nodes}

pub place_is_position : (v : ℕ) (ms : List ℕ) → place_of v ms ≡ position_or_len (nat_eq v) ms
place_is_position v ms = is_position_or_len (place_of v) (nat_eq v) refl (λ x xs. refl) ms

-- ---- a list goes on

pub record Begins (met all : List ℕ) : Type 0 where
  pub rest : List ℕ
  pub is : all ≡ met ++ rest

pub begins_itself : (met : List ℕ) → Begins met met
begins_itself met = record { rest = []; is = sym (append-nil met) }

pub begins_later : (a b c : List ℕ) → Begins a b → Begins b c → Begins a c
begins_later a b c h k = record { rest = h.rest ++ k.rest; is = k.is ∙ (ap (λ l. l ++ k.rest) h.is ∙ append_assoc a h.rest k.rest) }

begins_with_variable : (met : List ℕ) (n : ℕ) (b : Bool) → Begins met (if b then met else met ++ n ∷ [])
begins_with_variable met n true = begins_itself met
begins_with_variable met n false = record { rest = n ∷ []; is = refl }

mutual
  pub begins_after : (t : Tree) (met : List ℕ) → Begins met (variables_after met t)
  begins_after (variable n) met = begins_with_variable met n (list_any (nat_eq n) met)
  begins_after (integer z) met = begins_itself met
  begins_after (atom a) met = begins_itself met
  begins_after (compound g ts) met = begins_after_all ts met

  pub begins_after_all : (ts : Trees) (met : List ℕ) → Begins met (all_variables_after met ts)
  begins_after_all none met = begins_itself met
  begins_after_all (more t ts) met = begins_later met (variables_after met t) (all_variables_after met (more t ts)) (begins_after t met) (begins_after_all ts (variables_after met t))

-- ---- the place of a variable stays as the list goes on

front_of : (v m : ℕ) (ms rest : List ℕ) (b : Bool) → nat_eq v m ≡ b → (list_any (nat_eq v) ms ≡ true → place_of v (ms ++ rest) ≡ place_of v ms) → (nat_eq v m || list_any (nat_eq v) ms) ≡ true
    → (if nat_eq v m then 0 else 1 + place_of v (ms ++ rest)) ≡ (if nat_eq v m then 0 else 1 + place_of v ms)
front_of v m ms rest true h later e = rw h refl
front_of v m ms rest false h later e = rw h (ap (λ k. 1 + k) (later (sym (ap (λ b. b || list_any (nat_eq v) ms) h) ∙ e)))

pub place_front : (v : ℕ) (met rest : List ℕ) → list_any (nat_eq v) met ≡ true → place_of v (met ++ rest) ≡ place_of v met
place_front v [] rest e = absurd (true≢false (sym e))
place_front v (m ∷ ms) rest e = front_of v m ms rest (nat_eq v m) refl (place_front v ms rest) e

pub place_new : (v : ℕ) (met rest : List ℕ) → list_any (nat_eq v) met ≡ false → place_of v (met ++ v ∷ rest) ≡ length met
place_new v [] rest e = rw (eq-eqb v v refl) refl
place_new v (m ∷ ms) rest e =
    let p = or_parts (nat_eq v m) (list_any (nat_eq v) ms) e in
    rw p.0 (ap (λ k. 1 + k) (place_new v ms rest p.1) ∙ omega arith)

pub place_absent : (v : ℕ) (met : List ℕ) → list_any (nat_eq v) met ≡ false → place_of v met ≡ length met
place_absent v [] e = refl
place_absent v (m ∷ ms) e =
    let p = or_parts (nat_eq v m) (list_any (nat_eq v) ms) e in
    rw p.0 (ap (λ k. 1 + k) (place_absent v ms p.1) ∙ omega arith)

place_chosen : (v : ℕ) (met rest : List ℕ) (b : Bool) → list_any (nat_eq v) met ≡ b → place_of v ((if b then met else met ++ v ∷ []) ++ rest) ≡ place_of v met
place_chosen v met rest true e = place_front v met rest e
place_chosen v met rest false e = ap (place_of v) (append_assoc met (v ∷ []) rest) ∙ (place_new v met rest e ∙ sym (place_absent v met e))

pub place_kept : (v : ℕ) (met all : List ℕ) → Begins (with_variable met v) all → place_of v all ≡ place_of v met
place_kept v met all h = ap (place_of v) h.is ∙ place_chosen v met h.rest (list_any (nat_eq v) met) refl

-- ---- nodes and trees

mutual
  pub met_tree : (t : Tree) (met : List ℕ) (rest : List Node) → met_after_nodes met (nodes t ++ rest) ≡ met_after_nodes (variables_after met t) rest
  met_tree (variable n) met rest = refl
  met_tree (integer z) met rest = refl
  met_tree (atom a) met rest = refl
  met_tree (compound g ts) met rest = met_trees ts met rest

  pub met_trees : (ts : Trees) (met : List ℕ) (rest : List Node) → met_after_nodes met (nodes_all ts ++ rest) ≡ met_after_nodes (all_variables_after met ts) rest
  met_trees none met rest = refl
  met_trees (more t ts) met rest =
      ap (met_after_nodes met) (append_assoc (nodes t) (nodes_all ts) rest) ∙ (met_tree t met (nodes_all ts ++ rest) ∙ met_trees ts (variables_after met t) rest)

pub count-renamed : (f : ℕ → ℕ) (ts : Trees) → count (all_renamed f ts) ≡ count ts
count-renamed f none = refl
count-renamed f (more t ts) = ap (λ k. k + 1) (count-renamed f ts)

mutual
  pub numbered_tree : (t : Tree) (met all : List ℕ) (rest : List Node) → Begins (variables_after met t) all
      → numbered_nodes met (nodes t ++ rest) ≡ nodes (renamed (λ v. place_of v all) t) ++ numbered_nodes (variables_after met t) rest
  numbered_tree (variable n) met all rest h = ap (λ k. Var k ∷ numbered_nodes (with_variable met n) rest) (sym (place_kept n met all h))
  numbered_tree (integer z) met all rest h = refl
  numbered_tree (atom a) met all rest h = refl
  numbered_tree (compound g ts) met all rest h =
      ap (λ l. Functor g (count ts) ∷ l) (numbered_trees ts met all rest h)
      ∙ ap (λ k. Functor g k ∷ (nodes_all (all_renamed (λ v. place_of v all) ts) ++ numbered_nodes (all_variables_after met ts) rest)) (sym (count-renamed (λ v. place_of v all) ts))

  pub numbered_trees : (ts : Trees) (met all : List ℕ) (rest : List Node) → Begins (all_variables_after met ts) all
      → numbered_nodes met (nodes_all ts ++ rest) ≡ nodes_all (all_renamed (λ v. place_of v all) ts) ++ numbered_nodes (all_variables_after met ts) rest
  numbered_trees none met all rest h = refl
  numbered_trees (more t ts) met all rest h =
      let first = begins_later (variables_after met t) (all_variables_after met (more t ts)) all (begins_after_all ts (variables_after met t)) h in
      ap (numbered_nodes met) (append_assoc (nodes t) (nodes_all ts) rest)
      ∙ (numbered_tree t met all (nodes_all ts ++ rest) first
      ∙ (ap (λ l. nodes (renamed (λ v. place_of v all) t) ++ l) (numbered_trees ts (variables_after met t) all rest h)
      ∙ sym (append_assoc (nodes (renamed (λ v. place_of v all) t)) (nodes_all (all_renamed (λ v. place_of v all) ts)) (numbered_nodes (all_variables_after met (more t ts)) rest))))

mutual
  pub renamed_arities : (f : ℕ → ℕ) (t : Tree) → HasArities t → HasArities (renamed f t)
  renamed_arities f (variable n) h = tt
  renamed_arities f (integer z) h = tt
  renamed_arities f (atom a) h = tt
  renamed_arities f (compound g ts) h = (rw (count-renamed f ts) h.0, rw (count-renamed f ts) h.1, all_renamed_arities f ts h.2)

  all_renamed_arities : (f : ℕ → ℕ) (ts : Trees) → AllHaveArities ts → AllHaveArities (all_renamed f ts)
  all_renamed_arities f none h = tt
  all_renamed_arities f (more t ts) h = (renamed_arities f t h.0, all_renamed_arities f ts h.1)

-- ---- head and body

pub last_met : (h b : Tree) → met_after_nodes (met_after_nodes [] (nodes h)) (nodes b) ≡ variables_of (rule h b)
last_met h b =
    ap (met_after_nodes (met_after_nodes [] (nodes h))) (sym (append-nil (nodes b))) ∙ (met_tree b (met_after_nodes [] (nodes h)) []
    ∙ ap (λ l. variables_after l b) (ap (met_after_nodes []) (sym (append-nil (nodes h))) ∙ met_tree h [] []))

pub numbered_head : (h b : Tree) → numbered_nodes [] (nodes h) ≡ nodes (renamed (number_in (rule h b)) h)
numbered_head h b =
    ap (numbered_nodes []) (sym (append-nil (nodes h))) ∙ (numbered_tree h [] (variables_of (rule h b)) [] (begins_after b (variables_after [] h))
    ∙ append-nil (nodes (renamed (number_in (rule h b)) h)))

pub numbered_body : (h b : Tree) → numbered_nodes (met_after_nodes [] (nodes h)) (nodes b) ≡ nodes (renamed (number_in (rule h b)) b)
numbered_body h b =
    let met : met_after_nodes [] (nodes h) ≡ variables_after [] h = ap (met_after_nodes []) (sym (append-nil (nodes h))) ∙ met_tree h [] [] in
    ap (λ l. numbered_nodes l (nodes b)) met
    ∙ (ap (numbered_nodes (variables_after [] h)) (sym (append-nil (nodes b))) ∙ (numbered_tree b (variables_after [] h) (variables_of (rule h b)) [] (begins_itself (variables_of (rule h b)))
    ∙ append-nil (nodes (renamed (number_in (rule h b)) b))))

-- the same of lists of nodes

pub head_items : (hs bs : List Node) (met : List ℕ) (xs : List Node) → HasPrefixOrder hs → met ≡ [] → xs ≡ numbered_nodes met hs
    → nodes (renamed (number_in (rule (tree hs) (tree bs))) (tree hs)) ≡ xs
head_items hs bs met xs h void e =
    sym (e ∙ (ap (λ m. numbered_nodes m hs) void ∙ (ap (numbered_nodes []) (sym h.spelled) ∙ numbered_head (tree hs) (tree bs))))

pub body_items : (hs bs : List Node) (met later : List ℕ) (ys : List Node) → HasPrefixOrder hs → HasPrefixOrder bs → met ≡ [] → later ≡ met_after_nodes met hs → ys ≡ numbered_nodes later bs
    → nodes (renamed (number_in (rule (tree hs) (tree bs))) (tree bs)) ≡ ys
body_items hs bs met later ys h k void l e =
    sym (e ∙ (ap (λ m. numbered_nodes m bs) (l ∙ (ap (λ m. met_after_nodes m hs) void ∙ ap (met_after_nodes []) (sym h.spelled)))
    ∙ (ap (numbered_nodes (met_after_nodes [] (nodes (tree hs)))) (sym k.spelled) ∙ numbered_body (tree hs) (tree bs))))

pub last_items : (hs bs : List Node) (met later last : List ℕ) → HasPrefixOrder hs → HasPrefixOrder bs → met ≡ [] → later ≡ met_after_nodes met hs → last ≡ met_after_nodes later bs
    → last ≡ variables_of (rule (tree hs) (tree bs))
last_items hs bs met later last h k void l e =
    e ∙ (ap (λ m. met_after_nodes m bs) (l ∙ (ap (λ m. met_after_nodes m hs) void ∙ ap (met_after_nodes []) (sym h.spelled)))
    ∙ (ap (met_after_nodes (met_after_nodes [] (nodes (tree hs)))) (sym k.spelled) ∙ last_met (tree hs) (tree bs)))

pub same_tree : (t u : Tree) → nodes t ≡ nodes u → t ≡ u
same_tree t u e = sym (tree-nodes t) ∙ (ap tree e ∙ tree-nodes u)
