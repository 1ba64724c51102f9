-- The nodes of a term as a body.
use Rattle.std.proofs.Common.{◌≡◌, ℕ, ◌+◌, ◌-◌, ◌==◌, ◌≤◌, ◌<◌, List, [], ◌∷◌, ◌++◌, Bool, true, false, ◌&&◌, if◌then◌else◌, Option, None, Some, refl, sym, ap, ◌∙◌, subst, append_assoc, append-nil, length, drop, get_or, arith}
use Rattle.std.specs.Prelude.{IfSome}
use Rattle.std.proofs.Math.Bool.{and-true, and-false}
use Rattle.std.proofs.lemmas.Bool.Decides.{nat_tests}
use Rattle.std.proofs.lemmas.List.{drop_all, drop_more}
use Rattle.prolog_terms.specs.Tree.{Tree, Trees, variable, integer, atom, compound, none, more, count, HasArities}
use Rattle.prolog_terms.specs.Flat.{nodes, nodes_all, tree, tree-nodes, HasPrefixOrder, IsPrefixOrder-tree}
use Rattle.prolog_terms.specs.Clauses.{is_connective, body_of, joined_bodies}
use Rattle.prolog_terms.specs.Faults.{two}
use Rattle.prolog_terms.specs.declared.node.Node.{Node}
use Rattle.prolog_terms.specs.declared.node.Node.TheVariants.{Var, Int, Atom, Functor}
use Rattle.prolog_clauses.specs.Flat.{goal_nodes, arity_of, trees_behind, and_nodes, body_nodes}

abbrev nodes_of : Option Tree → Option (List Node)
nodes_of None = None
nodes_of (Some t) = Some (nodes t)

pub and_nodes-assoc : (xs ys zs : Option (List Node)) → and_nodes (and_nodes xs ys) zs ≡ and_nodes xs (and_nodes ys zs)
and_nodes-assoc None ys zs = refl
and_nodes-assoc (Some xs) None zs = refl
and_nodes-assoc (Some xs) (Some ys) None = refl
and_nodes-assoc (Some xs) (Some ys) (Some zs) = ap Some (append_assoc xs ys zs)

and_nodes-first : (xs : Option (List Node)) → and_nodes (Some []) xs ≡ xs
and_nodes-first None = refl
and_nodes-first (Some xs) = refl

and_nodes-last : (xs : Option (List Node)) → and_nodes xs (Some []) ≡ xs
and_nodes-last None = refl
and_nodes-last (Some xs) = ap Some (append-nil xs)

-- ---- the trees behind a goal's first node stay as they are

later : (k : ℕ) (x y : Option (List Node)) → (if k + 1 == 0 then x else y) ≡ y
later k x y = let e : (k + 1 == 0) ≡ false = grind (arith, nat_tests) in rw e refl

mutual
  tree_behind : (t : Tree) (k : ℕ) (rest : List Node) → body_nodes (k + 1) (nodes t ++ rest) ≡ and_nodes (Some (nodes t)) (body_nodes k rest)
  tree_behind (variable n) k rest =
      let e : k + 1 - 1 + 0 ≡ k = omega arith in
      later k _ _ ∙ ap (λ m. and_nodes (Some (Var n ∷ [])) (body_nodes m rest)) e
  tree_behind (integer z) k rest =
      let e : k + 1 - 1 + 0 ≡ k = omega arith in
      later k _ _ ∙ ap (λ m. and_nodes (Some (Int z ∷ [])) (body_nodes m rest)) e
  tree_behind (atom a) k rest =
      let e : k + 1 - 1 + 0 ≡ k = omega arith in
      later k _ _ ∙ ap (λ m. and_nodes (Some (Atom a ∷ [])) (body_nodes m rest)) e
  tree_behind (compound f ts) k rest =
      let e : k + 1 - 1 + count ts ≡ k + count ts = omega arith in
      later k _ _ ∙ (ap (λ m. and_nodes (Some (Functor f (count ts) ∷ [])) (body_nodes m (nodes_all ts ++ rest))) e
      ∙ (ap (and_nodes (Some (Functor f (count ts) ∷ []))) (trees_all_behind ts k rest)
      ∙ sym (and_nodes-assoc (Some (Functor f (count ts) ∷ [])) (Some (nodes_all ts)) (body_nodes k rest))))

  trees_all_behind : (ts : Trees) (k : ℕ) (rest : List Node) → body_nodes (k + count ts) (nodes_all ts ++ rest) ≡ and_nodes (Some (nodes_all ts)) (body_nodes k rest)
  trees_all_behind none k rest =
      let e : k + 0 ≡ k = omega arith in
      ap (λ m. body_nodes m rest) e ∙ sym (and_nodes-first (body_nodes k rest))
  trees_all_behind (more t ts) k rest =
      let e : k + (count ts + 1) ≡ k + count ts + 1 = omega arith in
      ap (λ m. body_nodes m ((nodes t ++ nodes_all ts) ++ rest)) e
      ∙ (ap (body_nodes (k + count ts + 1)) (append_assoc (nodes t) (nodes_all ts) rest)
      ∙ (tree_behind t (k + count ts) (nodes_all ts ++ rest)
      ∙ (ap (and_nodes (Some (nodes t))) (trees_all_behind ts k rest)
      ∙ sym (and_nodes-assoc (Some (nodes t)) (Some (nodes_all ts)) (body_nodes k rest)))))

-- ---- a goal

abbrev IsGoal : Tree → Option Tree → Type 0
IsGoal t body = (rest : List Node) → body_nodes 0 (nodes t ++ rest) ≡ and_nodes (nodes_of body) (body_nodes 0 rest)

behind_is : (f : List ℕ) (n : ℕ) (b : Bool) → (is_connective f && n == 2) ≡ b → trees_behind (Functor f n) ≡ (if b then 0 else n)
behind_is f n b e = ap (λ c. if c then 0 else n) e

plain_goal : (f : List ℕ) (ts : Trees) → (is_connective f && count ts == 2) ≡ false → IsGoal (compound f ts) (Some (compound f ts))
plain_goal f ts e rest =
    let all : trees_behind (Functor f (count ts)) ≡ 0 + count ts = behind_is f (count ts) false e ∙ omega arith in
    ap (λ m. and_nodes (Some (Functor f (count ts) ∷ [])) (body_nodes m (nodes_all ts ++ rest))) all
    ∙ (ap (and_nodes (Some (Functor f (count ts) ∷ []))) (trees_all_behind ts 0 rest)
    ∙ sym (and_nodes-assoc (Some (Functor f (count ts) ∷ [])) (Some (nodes_all ts)) (body_nodes 0 rest)))

joins : (n : Node) (f : List ℕ) (oa ob : Option Tree) (xs : Option (List Node)) → n ≡ Functor f 2
    → and_nodes (Some (n ∷ [])) (and_nodes (nodes_of oa) (and_nodes (nodes_of ob) xs)) ≡ and_nodes (nodes_of (joined_bodies f oa ob)) xs
joins n f None ob xs e = refl
joins n f (Some a) None xs e = refl
joins n f (Some a) (Some b) None e = refl
joins n f (Some a) (Some b) (Some xs) e =
    ap (λ m. Some (m ∷ (nodes a ++ (nodes b ++ xs)))) e
    ∙ ap (λ l. Some (Functor f 2 ∷ l)) (sym (append_assoc (nodes a) (nodes b ++ []) xs ∙ ap (λ l. nodes a ++ (l ++ xs)) (append-nil (nodes b))))

both_goals : (f : List ℕ) (a b : Tree) (oa ob : Option Tree) → (is_connective f && 2 == 2) ≡ true → IsGoal a oa → IsGoal b ob → IsGoal (two f a b) (joined_bodies f oa ob)
both_goals f a b oa ob e ha hb rest =
    ap (λ m. and_nodes (Some (Functor f 2 ∷ [])) (body_nodes m ((nodes a ++ (nodes b ++ [])) ++ rest))) (behind_is f 2 true e)
    ∙ (ap (λ l. and_nodes (Some (Functor f 2 ∷ [])) (body_nodes 0 l)) (append_assoc (nodes a) (nodes b ++ []) rest ∙ ap (λ l. nodes a ++ (l ++ rest)) (append-nil (nodes b)))
    ∙ (ap (and_nodes (Some (Functor f 2 ∷ []))) (ha (nodes b ++ rest) ∙ ap (and_nodes (nodes_of oa)) (hb rest))
    ∙ joins (Functor f 2) f oa ob (body_nodes 0 rest) refl))

two_goals : (f : List ℕ) (a b : Tree) (oa ob : Option Tree) (c : Bool) → (is_connective f && 2 == 2) ≡ c → is_connective f ≡ c → IsGoal a oa → IsGoal b ob → IsGoal (two f a b) (if c then joined_bodies f oa ob else Some (two f a b))
two_goals f a b oa ob true e h ha hb = both_goals f a b oa ob e ha hb
two_goals f a b oa ob false e h ha hb = plain_goal f (more a (more b none)) e

not_two : (n : ℕ) → (n + 1 + 1 + 1 == 2) ≡ false
not_two n = grind (arith, nat_tests)

is_goal : (t : Tree) → IsGoal t (body_of t)
is_goal (variable n) rest = refl
is_goal (integer z) rest = refl
is_goal (atom a) rest = refl
is_goal (compound f none) rest = plain_goal f none (and-false (is_connective f)) rest
is_goal (compound f (more a none)) rest = plain_goal f (more a none) (and-false (is_connective f)) rest
is_goal (compound f (more a (more b none))) rest = two_goals f a b (body_of a) (body_of b) (is_connective f) (and-true (is_connective f)) refl (is_goal a) (is_goal b) rest
is_goal (compound f (more a (more b (more c ts)))) rest =
    plain_goal f (more a (more b (more c ts))) (ap (λ x. is_connective f && x) (not_two (count ts)) ∙ and-false (is_connective f)) rest

-- ---- the arguments of each compound are from 1 to 255

arities_two : (f : List ℕ) (a b : Tree) (c : Bool) (oa ob : Option Tree) → HasArities (two f a b) → IfSome oa HasArities → IfSome ob HasArities → IfSome (if c then joined_bodies f oa ob else Some (two f a b)) HasArities
arities_two f a b false oa ob h ha hb = h
arities_two f a b true None ob h ha hb = tt
arities_two f a b true (Some t) None h ha hb = tt
arities_two f a b true (Some t) (Some u) h ha hb = (h.0, h.1, (ha, (hb, tt)))

body_arities : (t : Tree) → HasArities t → IfSome (body_of t) HasArities
body_arities (variable n) h = (omega arith, omega arith, (tt, tt))
body_arities (integer z) h = tt
body_arities (atom a) h = tt
body_arities (compound f none) h = h
body_arities (compound f (more a none)) h = h
body_arities (compound f (more a (more b none))) h = arities_two f a b (is_connective f) (body_of a) (body_of b) h (body_arities a h.2.0) (body_arities b h.2.1.0)
body_arities (compound f (more a (more b (more c ts)))) h = h

-- ---- of all the nodes

all_nodes : (ns : List Node) → HasPrefixOrder ns → body_nodes 0 ns ≡ nodes_of (body_of (tree ns))
all_nodes ns h =
    ap (body_nodes 0) (sym (append-nil (nodes (tree ns)) ∙ h.spelled)) ∙ (is_goal (tree ns) [] ∙ and_nodes-last (nodes_of (body_of (tree ns))))

pub record IsBodyOf (ns bs : List Node) : Type 0 where
  pub order : HasPrefixOrder bs
  pub body : body_of (tree ns) ≡ Some (tree bs)

by_body : (ns bs : List Node) (o : Option Tree) → body_of (tree ns) ≡ o → IfSome o HasArities → nodes_of o ≡ Some bs → IsBodyOf ns bs
by_body ns bs None e h same = absurd cc
by_body ns bs (Some t) e h same =
    let spelled : nodes t ≡ bs = cc in
    record { order = IsPrefixOrder-tree bs (t, (h, spelled)); body = e ∙ ap Some (sym (tree-nodes t) ∙ ap tree spelled) }

pub found : (ns bs : List Node) → HasPrefixOrder ns → body_nodes 0 ns ≡ Some bs → IsBodyOf ns bs
found ns bs h e = by_body ns bs (body_of (tree ns)) refl (body_arities (tree ns) h.arities) (sym (all_nodes ns h) ∙ e)

no_nodes : (o : Option Tree) → nodes_of o ≡ None → o ≡ None
no_nodes None e = refl
no_nodes (Some t) e = absurd cc

pub not_found : (ns : List Node) → HasPrefixOrder ns → body_nodes 0 ns ≡ None → body_of (tree ns) ≡ None
not_found ns h e = no_nodes (body_of (tree ns)) (sym (all_nodes ns h) ∙ e)

-- ---- one node after the other

begun : (ns : List Node) (i : ℕ) (n : Node) → i < length ns → n ≡ get_or ns i n → drop i ns ≡ n ∷ drop (i + 1) ns
begun ns i n low is = drop_more ns i n low ∙ ap (λ m. m ∷ drop (i + 1) ns) (sym is)

-- the nodes so far, and those that are left, are those of the body
abbrev pub Goes : List Node → ℕ → ℕ → List Node → Type 0
Goes ns i k xs = and_nodes (Some xs) (body_nodes k (drop i ns)) ≡ body_nodes 0 ns

at_goal : (ns : List Node) (i : ℕ) (n : Node) (xs : List Node) → i < length ns → n ≡ get_or ns i n → Goes ns i 0 xs
    → and_nodes (Some xs) (and_nodes (goal_nodes n) (body_nodes (trees_behind n) (drop (i + 1) ns))) ≡ body_nodes 0 ns
at_goal ns i n xs low is same = sym (ap (λ l. and_nodes (Some xs) (body_nodes 0 l)) (begun ns i n low is)) ∙ same

pub goal_next : (ns : List Node) (i : ℕ) (n : Node) (k m : ℕ) (xs ys : List Node) → i < length ns → n ≡ get_or ns i n → k ≡ 0 → Goes ns i k xs
    → and_nodes (Some xs) (goal_nodes n) ≡ Some ys → m ≡ trees_behind n → Goes ns (i + 1) m ys
goal_next ns i n k m xs ys low is at same pushed behind =
    ap (λ o. and_nodes o (body_nodes m (drop (i + 1) ns))) (sym pushed)
    ∙ (and_nodes-assoc (Some xs) (goal_nodes n) (body_nodes m (drop (i + 1) ns))
    ∙ (ap (λ j. and_nodes (Some xs) (and_nodes (goal_nodes n) (body_nodes j (drop (i + 1) ns)))) behind
    ∙ at_goal ns i n xs low is (subst (λ j. Goes ns i j xs) at same)))

pub goal_refused : (ns : List Node) (i : ℕ) (n : Node) (k : ℕ) (xs : List Node) → i < length ns → n ≡ get_or ns i n → k ≡ 0 → Goes ns i k xs → goal_nodes n ≡ None → body_nodes 0 ns ≡ None
goal_refused ns i n k xs low is at same none_is =
    sym (at_goal ns i n xs low is (subst (λ j. Goes ns i j xs) at same)) ∙ ap (λ o. and_nodes (Some xs) (and_nodes o (body_nodes (trees_behind n) (drop (i + 1) ns)))) none_is

plain_node : (k : ℕ) (n : Node) (ns : List Node) → 0 < k → body_nodes k (n ∷ ns) ≡ and_nodes (Some (n ∷ [])) (body_nodes (k - 1 + arity_of n) ns)
plain_node k n ns some = let e : (k == 0) ≡ false = grind (arith, nat_tests) in rw e refl

pub plain_next : (ns : List Node) (i : ℕ) (n : Node) (k m : ℕ) (xs ys : List Node) → i < length ns → n ≡ get_or ns i n → 0 < k → Goes ns i k xs
    → ys ≡ xs ++ n ∷ [] → m ≡ k - 1 + arity_of n → Goes ns (i + 1) m ys
plain_next ns i n k m xs ys low is some same pushed behind =
    ap (λ l. and_nodes (Some l) (body_nodes m (drop (i + 1) ns))) pushed
    ∙ (and_nodes-assoc (Some xs) (Some (n ∷ [])) (body_nodes m (drop (i + 1) ns))
    ∙ (ap (λ j. and_nodes (Some xs) (and_nodes (Some (n ∷ [])) (body_nodes j (drop (i + 1) ns)))) behind
    ∙ (sym (ap (λ l. and_nodes (Some xs) (body_nodes k l)) (begun ns i n low is) ∙ ap (and_nodes (Some xs)) (plain_node k n (drop (i + 1) ns) some)) ∙ same)))

pub all_gone : (ns : List Node) (i k : ℕ) (xs : List Node) → length ns ≤ i → Goes ns i k xs → body_nodes 0 ns ≡ Some xs
all_gone ns i k xs end same =
    sym same ∙ (ap (λ l. and_nodes (Some xs) (body_nodes k l)) (drop_all i ns end) ∙ ap Some (append-nil xs))
