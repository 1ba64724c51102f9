-- How many positions of a term have a key, one position after another.
use Rattle.std.proofs.Common.{◌≡◌, ℕ, ◌+◌, List, [], ◌∷◌, ◌++◌, length, length-append, map, filter, true, false, Option, Some, None, refl, sym, ap, ◌∙◌, arith}
use Rattle.std.specs.Prelude.{IsTrue, IfSome, is_some, option_and_then}
use Rattle.std.specs.Option.{SomeIff}
use Rattle.std.proofs.lemmas.List.{map-append}
use Rattle.std.proofs.lemmas.List.Elements.{filter-append}
use Rattle.prolog_terms.specs.Tree.{Tree}
use Rattle.prolog_terms.specs.Flat.{are_trees, tree, nodes, tree-nodes, IsPrefixOrder-test}
use Rattle.prolog_terms.specs.declared.node.Node.{Node}
use Rattle.prolog_terms.specs.declared.entry.Clause.{Clause}
use Rattle.journals.specs.Numbers.{numbers_from}
use Rattle.call_patterns.specs.Keys.{keys, key_at, subterm_at}
use Rattle.call_patterns.specs.Places.{tree_at}
use Rattle.call_patterns.specs.NodeKey.{place_key}
use Rattle.journal_base.specs.Space.{clause_words, term_words, node_words}
use Rattle.std.specs.List.{sum_by}
use Rattle.call_patterns.proofs.NodeKeys.{numbers_from-last, position_key}

counted : Tree → ℕ → ℕ
counted t p = length (filter is_some (map (key_at t) (numbers_from 0 p)))

one_more : (t : Tree) (p : ℕ) → length (filter is_some (map (key_at t) (numbers_from 0 (p + 1))))
    ≡ length (filter is_some (map (key_at t) (numbers_from 0 p))) + length (filter is_some (key_at t p ∷ []))
one_more t p =
    let z : 0 + p ≡ p = omega arith in
    ap (λ l. length (filter is_some (map (key_at t) l))) (numbers_from-last 0 p ∙ ap (λ n. numbers_from 0 p ++ n ∷ []) z)
    ∙ ap (λ l. length (filter is_some l)) (map-append (key_at t) (numbers_from 0 p) (p ∷ []))
    ∙ ap length (filter-append is_some (map (key_at t) (numbers_from 0 p)) (key_at t p ∷ []))
    ∙ length-append (filter is_some (map (key_at t) (numbers_from 0 p))) (filter is_some (key_at t p ∷ []))

module _ (ns : List Node) (h : IsTrue (are_trees 1 ns)) (p a : ℕ) (place : tree_at ns a ≡ option_and_then (λ t. subterm_at t p) (tree_at ns 0)) where
  here : place_key ns a ≡ key_at (tree ns) p
  here = position_key (tree ns) ns p a (sym (IsPrefixOrder-test ns h).spelled) h place

  pub with_key : (n : ℕ) → n ≡ length (filter is_some (map (key_at (tree ns)) (numbers_from 0 p))) → true ≡ is_some (place_key ns a)
      → n + 1 ≡ length (filter is_some (map (key_at (tree ns)) (numbers_from 0 (p + 1))))
  with_key n before some =
      let is : is_some (key_at (tree ns) p) ≡ true = sym (some ∙ ap is_some here) in
      ap (λ m. m + 1) before ∙ sym (one_more (tree ns) p ∙ ap (λ m. length (filter is_some (map (key_at (tree ns)) (numbers_from 0 p))) + m) (rw is refl))

  pub without_key : (n : ℕ) → n ≡ length (filter is_some (map (key_at (tree ns)) (numbers_from 0 p))) → false ≡ is_some (place_key ns a)
      → n ≡ length (filter is_some (map (key_at (tree ns)) (numbers_from 0 (p + 1))))
  without_key n before none =
      let is : is_some (key_at (tree ns) p) ≡ false = sym (none ∙ ap is_some here) in
      let same : length (filter is_some (key_at (tree ns) p ∷ [])) ≡ 0 = rw is refl in
      omega (arith, before, one_more (tree ns) p, same)

pub all_keys : (t : Tree) (p n : ℕ) → p ≡ 40 → n ≡ length (filter is_some (map (key_at t) (numbers_from 0 p))) → n ≡ length (filter is_some (keys t))
unfolding keys
all_keys t p n all h = h ∙ ap (λ m. length (filter is_some (map (key_at t) (numbers_from 0 m)))) all

-- the words of a clause, from those of its parts
pub clause_sum : (c : Clause) (hs bs ks : List Node) (h b k : ℕ) → hs ≡ nodes c.head → bs ≡ nodes c.body → ks ≡ nodes c.head
    → h ≡ sum_by node_words hs → b ≡ sum_by node_words bs → k ≡ length (filter is_some (keys (tree ks))) → h + b + (6 + k) ≡ 4 + clause_words c
unfolding clause_words
clause_sum c hs bs ks h b k hs_are bs_are ks_are head body count =
    let x : h ≡ term_words c.head = head ∙ ap (sum_by node_words) hs_are in
    let y : b ≡ term_words c.body = body ∙ ap (sum_by node_words) bs_are in
    let z : k ≡ length (filter is_some (keys c.head)) = count ∙ ap (λ ns. length (filter is_some (keys (tree ns)))) ks_are ∙ ap (λ t. length (filter is_some (keys t))) (tree-nodes c.head) in
    omega arith

-- a sum that was checked is the sum
pub checked : (P : Type 0) (o : Option ℕ) (m n : ℕ) → SomeIff o P m → m ≡ n → IfSome o (λ k. k ≡ n)
checked P None m n h is = tt
checked P (Some k) m n h is = h.1 ∙ is
