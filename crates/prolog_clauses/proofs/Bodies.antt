-- Which trees are bodies, by their nodes.
use Rattle.std.proofs.Common.{◌≡◌, ℕ, ◌+◌, List, [], ◌∷◌, ◌++◌, Bool, true, false, ◌&&◌, ◌==◌, if◌then◌else◌, length, drop, ◌<◌, subst, None, Some, refl, sym, ap, ◌∙◌, append_assoc, append-nil, arith}
use Rattle.std.proofs.Math.Bool.{and-true}
use Rattle.std.proofs.Math.Seq.{drop-append_seam}
use Rattle.std.proofs.lemmas.Bool.{and_parts, eqb-true}
use Rattle.prolog_terms.specs.Tree.{Trees, variable, integer, atom, compound, none, more, count}
use Rattle.prolog_terms.specs.Flat.{nodes, nodes_all, chained, tree, HasPrefixOrder}
use Rattle.prolog_terms.specs.Clauses.{is_body, is_connective}
use Rattle.prolog_terms.specs.declared.node.Node.{Node}
use Rattle.prolog_terms.specs.declared.node.Node.TheVariants.{Atom, Functor}
use Rattle.prolog_clauses.specs.Flat.{span, goal_len}
use Rattle.prolog_clauses.proofs.Spans.{span_one}

abbrev pub all_bodies : Trees → Bool
all_bodies none = true
all_bodies (more t ts) = is_body t && all_bodies ts

-- what is left to look at are goals, and the answer is theirs
pub record Left (ns : List Node) (answer : Bool) : Type 0 where
  pub goals : Trees
  pub spelled : nodes_all goals ≡ ns
  pub same : all_bodies goals ≡ answer

pub left_all : (ns : List Node) → HasPrefixOrder ns → Left ns (is_body (tree ns))
left_all ns h = record { goals = more (tree ns) none; spelled = append-nil (nodes (tree ns)) ∙ h.spelled; same = and-true (is_body (tree ns)) }

nodes_all-chained : (us ts : Trees) → nodes_all (chained us ts) ≡ nodes_all us ++ nodes_all ts
nodes_all-chained none ts = refl
nodes_all-chained (more u us) ts = ap (λ l. nodes u ++ l) (nodes_all-chained us ts) ∙ sym (append_assoc (nodes u) (nodes_all us) (nodes_all ts))

and-assoc : (x y z : Bool) → ((x && y) && z) ≡ (x && (y && z))
and-assoc true y z = refl
and-assoc false y z = refl

all_bodies-chained : (us ts : Trees) → all_bodies (chained us ts) ≡ (all_bodies us && all_bodies ts)
all_bodies-chained none ts = refl
all_bodies-chained (more u us) ts = ap (λ b. is_body u && b) (all_bodies-chained us ts) ∙ sym (and-assoc (is_body u) (all_bodies us) (all_bodies ts))

chosen : (b x y : Bool) → b ≡ true → (if b then x else y) ≡ x
chosen b x y e = rw e refl

-- the goals that a connective joins
joined_body : (f : List ℕ) (us : Trees) → (is_connective f && count us == 2) ≡ true → is_body (compound f us) ≡ all_bodies us
joined_body f none e = absurd (omega (arith, eqb-true 0 2 (and_parts (is_connective f) (0 == 2) e).1))
joined_body f (more a none) e = absurd (omega (arith, eqb-true 1 2 (and_parts (is_connective f) (1 == 2) e).1))
joined_body f (more a (more b none)) e =
    chosen (is_connective f) (is_body a && is_body b) true (and_parts (is_connective f) (2 == 2) e).0 ∙ ap (λ x. is_body a && x) (sym (and-true (is_body b)))
joined_body f (more a (more b (more c ts))) e = absurd (omega (arith, eqb-true (count ts + 1 + 1 + 1) 2 (and_parts (is_connective f) (count ts + 1 + 1 + 1 == 2) e).1))

kept : (b x : Bool) → (b && true) ≡ false → (if b then x else true) ≡ true
kept true x e = cc
kept false x e = refl

-- any other goal
plain_body : (f : List ℕ) (us : Trees) → (is_connective f && count us == 2) ≡ false → is_body (compound f us) ≡ true
plain_body f none e = refl
plain_body f (more a none) e = refl
plain_body f (more a (more b none)) e = kept (is_connective f) (is_body a && is_body b) e
plain_body f (more a (more b (more c ts))) e = refl

some_same : (m n : ℕ) → Some m ≡ Some n → m ≡ n
some_same m n e = cc

-- the goals after the next one, or those that it joins
after_compound : (f : List ℕ) (us ts : Trees) (answer : Bool) (b : Bool) → (is_connective f && count us == 2) ≡ b → (is_body (compound f us) && all_bodies ts) ≡ answer
    → Left (drop (if b then 1 else span 1 (Functor f (count us) ∷ (nodes_all us ++ nodes_all ts))) (Functor f (count us) ∷ (nodes_all us ++ nodes_all ts))) answer
after_compound f us ts answer true e same =
    record { goals = chained us ts; spelled = nodes_all-chained us ts; same = all_bodies-chained us ts ∙ (ap (λ x. x && all_bodies ts) (sym (joined_body f us e)) ∙ same) }
after_compound f us ts answer false e same =
    record {
      goals = ts;
      spelled = sym (ap (λ k. drop k (nodes (compound f us) ++ nodes_all ts)) (span_one (compound f us) (nodes_all ts)) ∙ drop-append_seam (nodes (compound f us)) (nodes_all ts));
      same = sym (ap (λ x. x && all_bodies ts) (plain_body f us e)) ∙ same;
    }

next_goal : (goals : Trees) (answer : Bool) (n : ℕ) → all_bodies goals ≡ answer → goal_len (nodes_all goals) ≡ Some n → Left (drop n (nodes_all goals)) answer
next_goal none answer n same e = absurd cc
next_goal (more (variable v) ts) answer n same e = absurd cc
next_goal (more (integer z) ts) answer n same e = absurd cc
next_goal (more (atom a) ts) answer n same e =
    subst (λ k. Left (drop k (Atom a ∷ nodes_all ts)) answer) (some_same 1 n e) (record { goals = ts; spelled = refl; same = same })
next_goal (more (compound f us) ts) answer n same e =
    subst (λ k. Left (drop k (Functor f (count us) ∷ (nodes_all us ++ nodes_all ts))) answer) (some_same _ n e) (after_compound f us ts answer (is_connective f && count us == 2) refl same)

pub left_next : (ns : List Node) (answer : Bool) (n : ℕ) → Left ns answer → goal_len ns ≡ Some n → Left (drop n ns) answer
left_next ns answer n h e = subst (λ l. Left (drop n l) answer) h.spelled (next_goal h.goals answer n h.same (ap goal_len h.spelled ∙ e))

no_goal : (goals : Trees) (n : Node) (ns : List Node) → nodes_all goals ≡ n ∷ ns → goal_len (nodes_all goals) ≡ None → all_bodies goals ≡ false
no_goal none n ns e f = absurd cc
no_goal (more (variable v) ts) n ns e f = refl
no_goal (more (integer z) ts) n ns e f = refl
no_goal (more (atom a) ts) n ns e f = absurd cc
no_goal (more (compound g us) ts) n ns e f = absurd cc

pub left_refused : (ns : List Node) (answer : Bool) → Left ns answer → 0 < length ns → goal_len ns ≡ None → answer ≡ false
left_refused [] answer h low e = absurd (omega arith)
left_refused (n ∷ ns) answer h low e = sym h.same ∙ no_goal h.goals n ns h.spelled (ap goal_len h.spelled ∙ e)

all_left : (goals : Trees) → nodes_all goals ≡ [] → all_bodies goals ≡ true
all_left none e = refl
all_left (more (variable v) ts) e = absurd cc
all_left (more (integer z) ts) e = absurd cc
all_left (more (atom a) ts) e = absurd cc
all_left (more (compound g us) ts) e = absurd cc

pub left_end : (answer : Bool) → Left [] answer → answer ≡ true
left_end answer h = sym h.same ∙ all_left h.goals h.spelled
