-- A term with its variables numbered from 0 by first occurrence.
use Rattle.std.proofs.Common.{◌≡◌, ℕ, ◌+◌, suc, List, [], ◌∷◌, ◌++◌, ◌||◌, nat_eq, if◌then◌else◌, refl, sym, ap, ◌∙◌, append-nil, arith}
use Rattle.std.specs.List.{list_any}
use Rattle.prolog_terms.specs.Tree.{Tree, Trees, variable, integer, atom, compound, none, more}
use Rattle.prolog_terms.specs.Flat.{nodes, tree, HasPrefixOrder, IsPrefixOrder}
use Rattle.prolog_terms.specs.Substitutions as terms
use Rattle.prolog_terms.specs.declared.node.Node.{Node}
use Rattle.prolog_clauses.specs.Renaming.{renamed, all_renamed, variables_after, all_variables_after, place_of}
use Rattle.prolog_clauses.specs.Flat.{numbered_nodes}
use Rattle.prolog_clauses.proofs.Numberings.{begins_itself, numbered_tree, renamed_arities, same_tree}

-- ---- the two ways in which variables and their places are defined are one

contains_any : (v : ℕ) (ns : List ℕ) → terms.contains v ns ≡ list_any (nat_eq v) ns
contains_any v [] = refl
contains_any v (n ∷ ns) = ap (λ b. nat_eq v n || b) (contains_any v ns)

same_place : (v : ℕ) (ns : List ℕ) → terms.place_of v ns ≡ place_of v ns
same_place v [] = refl
same_place v (n ∷ ns) = ap (λ k. if nat_eq v n then 0 else k) (let e : suc (terms.place_of v ns) ≡ 1 + terms.place_of v ns = omega arith in e ∙ ap (λ k. 1 + k) (same_place v ns))

mutual
  same_variables : (t : Tree) (seen : List ℕ) → terms.variables_after seen t ≡ variables_after seen t
  same_variables (variable n) seen = ap (λ b. if b then seen else seen ++ n ∷ []) (contains_any n seen)
  same_variables (integer z) seen = refl
  same_variables (atom a) seen = refl
  same_variables (compound f ts) seen = same_variables_all ts seen

  same_variables_all : (ts : Trees) (seen : List ℕ) → terms.all_variables_after seen ts ≡ all_variables_after seen ts
  same_variables_all none seen = refl
  same_variables_all (more t ts) seen =
      ap (λ l. terms.all_variables_after l ts) (same_variables t seen) ∙ same_variables_all ts (variables_after seen t)

mutual
  same_numbers : (f g : ℕ → ℕ) (t : Tree) → ((v : ℕ) → f v ≡ g v) → terms.substituted (λ v. variable (f v)) t ≡ renamed g t
  same_numbers f g (variable n) e = ap variable (e n)
  same_numbers f g (integer z) e = refl
  same_numbers f g (atom a) e = refl
  same_numbers f g (compound c ts) e = ap (compound c) (same_numbers_all f g ts e)

  same_numbers_all : (f g : ℕ → ℕ) (ts : Trees) → ((v : ℕ) → f v ≡ g v) → terms.all_substituted (λ v. variable (f v)) ts ≡ all_renamed g ts
  same_numbers_all f g none e = refl
  same_numbers_all f g (more t ts) e =
      ap (λ u. more u (terms.all_substituted (λ v. variable (f v)) ts)) (same_numbers f g t e) ∙ ap (more (renamed g t)) (same_numbers_all f g ts e)

abbrev number : Tree → ℕ → ℕ
number t v = place_of v (variables_after [] t)

pub numbered_is : (t : Tree) → terms.numbered t ≡ renamed (number t) t
numbered_is t =
    same_numbers (λ v. terms.place_of v (terms.variables t)) (number t) t
    (λ v. same_place v (terms.variables t) ∙ ap (place_of v) (same_variables t []))

-- ---- by nodes

numbered_items : (t : Tree) → numbered_nodes [] (nodes t) ≡ nodes (renamed (number t) t)
numbered_items t =
    ap (numbered_nodes []) (sym (append-nil (nodes t))) ∙ (numbered_tree t [] (variables_after [] t) [] (begins_itself (variables_after [] t))
    ∙ append-nil (nodes (renamed (number t) t)))

pub culprit_items : (ns : List Node) (met : List ℕ) (xs : List Node) → HasPrefixOrder ns → met ≡ [] → xs ≡ numbered_nodes met ns → nodes (renamed (number (tree ns)) (tree ns)) ≡ xs
culprit_items ns met xs h void e =
    sym (e ∙ (ap (λ m. numbered_nodes m ns) void ∙ (ap (numbered_nodes []) (sym h.spelled) ∙ numbered_items (tree ns))))

pub culprit_prefix : (ns : List Node) (met : List ℕ) (xs : List Node) → HasPrefixOrder ns → met ≡ [] → xs ≡ numbered_nodes met ns → IsPrefixOrder xs
culprit_prefix ns met xs h void e =
    (renamed (number (tree ns)) (tree ns), (renamed_arities (number (tree ns)) (tree ns) h.arities, culprit_items ns met xs h void e))

pub culprit_is : (ns : List Node) (met : List ℕ) (xs : List Node) (t : Tree) → HasPrefixOrder ns → met ≡ [] → xs ≡ numbered_nodes met ns → nodes t ≡ xs → t ≡ terms.numbered (tree ns)
culprit_is ns met xs t h void e made =
    same_tree t (renamed (number (tree ns)) (tree ns)) (made ∙ sym (culprit_items ns met xs h void e)) ∙ sym (numbered_is (tree ns))
