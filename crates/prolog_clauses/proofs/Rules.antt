-- Where the head and the body of a rule's nodes are.
use Rattle.std.proofs.Common.{◌≡◌, ℕ, ◌+◌, List, [], ◌++◌, Bool, true, ◌==◌, if◌then◌else◌, codes, length, take, drop, refl, sym, ap, ◌∙◌, subst, append-nil, arith}
use Rattle.std.proofs.Math.Seq.{drop-append_seam, take-append_seam}
use Rattle.std.proofs.lemmas.Bool.{and_parts, eqb-true, true≢false}
use Rattle.prolog_terms.specs.Tree.{Tree, variable, integer, atom, compound, none, more, count, HasArities}
use Rattle.prolog_terms.specs.Flat.{nodes, tree, tree-nodes, HasPrefixOrder, IsPrefixOrder-tree}
use Rattle.prolog_terms.specs.Clauses.{is_named}
use Rattle.prolog_terms.specs.declared.node.Node.{Node}
use Rattle.prolog_clauses.specs.Formed.{Parts, rule, fact, parts_of}
use Rattle.prolog_clauses.specs.Flat.{span, begins_rule}
use Rattle.prolog_clauses.proofs.Spans.{span_one}

-- a list is split where the head ends
pub record Split (ns : List Node) (mid : ℕ) : Type 0 where
  pub head : HasPrefixOrder (take mid (drop 1 ns))
  pub body : HasPrefixOrder (drop mid (drop 1 ns))
  pub parts : parts_of (tree ns) ≡ rule (tree (take mid (drop 1 ns))) (tree (drop mid (drop 1 ns)))

is_prefix : (t : Tree) → HasArities t → HasPrefixOrder (nodes t)
is_prefix t h = IsPrefixOrder-tree (nodes t) (t, (h, refl))

chosen : (b : Bool) (x y : Parts) → b ≡ true → (if b then x else y) ≡ x
chosen b x y e = rw e refl

two_parts : (f : List ℕ) (a b : Tree) → is_named (codes ":-") f ≡ true → HasArities a → HasArities b
    → Split (nodes (compound f (more a (more b none)))) (span 1 (nodes a ++ (nodes b ++ [])))
two_parts f a b named ha hb =
    let mid : span 1 (nodes a ++ (nodes b ++ [])) ≡ length (nodes a) = span_one a (nodes b ++ []) in
    let front : take (span 1 (nodes a ++ (nodes b ++ []))) (nodes a ++ (nodes b ++ [])) ≡ nodes a =
    ap (λ k. take k (nodes a ++ (nodes b ++ []))) mid ∙ take-append_seam (nodes a) (nodes b ++ []) in
    let back : drop (span 1 (nodes a ++ (nodes b ++ []))) (nodes a ++ (nodes b ++ [])) ≡ nodes b =
    ap (λ k. drop k (nodes a ++ (nodes b ++ []))) mid ∙ (drop-append_seam (nodes a) (nodes b ++ []) ∙ append-nil (nodes b)) in
    record {
      head = subst HasPrefixOrder (sym front) (is_prefix a ha);
      body = subst HasPrefixOrder (sym back) (is_prefix b hb);
      parts =
          ap parts_of (tree-nodes (compound f (more a (more b none))))
          ∙ (chosen (is_named (codes ":-") f) (rule a b) (fact (compound f (more a (more b none)))) named
          ∙ (ap (λ t. rule t b) (sym (tree-nodes a) ∙ ap tree (sym front)) ∙ ap (rule (tree (take (span 1 (nodes a ++ (nodes b ++ []))) (nodes a ++ (nodes b ++ []))))) (sym (tree-nodes b) ∙ ap tree (sym back))));
    }

by_tree : (t : Tree) → HasArities t → begins_rule (nodes t) ≡ true → Split (nodes t) (span 1 (drop 1 (nodes t)))
by_tree (variable n) h e = absurd (true≢false (sym e))
by_tree (integer z) h e = absurd (true≢false (sym e))
by_tree (atom a) h e = absurd (true≢false (sym e))
by_tree (compound f none) h e = absurd (omega (arith, eqb-true 0 2 (and_parts (is_named (codes ":-") f) (0 == 2) e).1))
by_tree (compound f (more a none)) h e = absurd (omega (arith, eqb-true 1 2 (and_parts (is_named (codes ":-") f) (1 == 2) e).1))
by_tree (compound f (more a (more b none))) h e = two_parts f a b (and_parts (is_named (codes ":-") f) (2 == 2) e).0 h.2.0 h.2.1.0
by_tree (compound f (more a (more b (more c ts)))) h e =
    absurd (omega (arith, eqb-true (count ts + 1 + 1 + 1) 2 (and_parts (is_named (codes ":-") f) (count ts + 1 + 1 + 1 == 2) e).1))

pub split_rule : (ns : List Node) → HasPrefixOrder ns → begins_rule ns ≡ true → Split ns (span 1 (drop 1 ns))
split_rule ns h e =
    subst (λ l. Split l (span 1 (drop 1 l))) h.spelled (by_tree (tree ns) h.arities (ap begins_rule h.spelled ∙ e))
