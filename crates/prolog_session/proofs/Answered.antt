-- The nodes of the list of an answer's values, one value after the other.
use Rattle.std.proofs.Common.{◌≡◌, ℕ, ◌+◌, ◌<◌, length, length-drop, drop, get_or, List, [], ◌∷◌, ◌++◌, Bool, true, false, refl, sym, ◌∙◌, ap, append-nil, append_assoc, arith}
use Rattle.std.specs.Prelude.{codes, ◌==◌, ◌&&◌}
use Rattle.std.proofs.lemmas.Bool.{true≢false}
use Rattle.std.proofs.lemmas.Bool.Decides.{nat_tests}
use Rattle.std.proofs.lemmas.List.{drop-drop, drop_more}
use Rattle.std.proofs.Math.Seq.{drop-append_seam}
use Rattle.prolog_terms.specs.Tree.{Tree, variable, integer, atom, compound, none, more, count, HasArities}
use Rattle.prolog_terms.specs.Flat.{nodes}
use Rattle.prolog_terms.specs.Operators.{Table}
use Rattle.prolog_terms.specs.declared.node.Node.{Node}
use Rattle.prolog_terms.specs.declared.shown.Shown.{Shown}
use Rattle.prolog_writer.specs.Spelling.{same_text}
use Rattle.prolog_writer.specs.Shapes.{is_cell}
use Rattle.prolog_session.specs.Cells.{at_cell}
use Rattle.prolog_session.specs.Output.{elements, value_text, further_text, values_text}

-- ---- a list cell

pub record Cell (t : Tree) : Type 0 where
  pub element : Tree
  pub rest : Tree
  pub listed : elements t ≡ element ∷ elements rest
  pub behind : drop 1 (nodes t) ≡ nodes element ++ nodes rest
  pub arities : HasArities element × HasArities rest

three_or_more : (f : List ℕ) (n : ℕ) → is_cell f (n + 1 + 1 + 1) ≡ false
three_or_more f n = let e : (n + 1 + 1 + 1 == 2) ≡ false = grind (arith, nat_tests) in ap (λ (b : Bool). b && same_text f (codes ".")) e

pub cell_of : (t : Tree) → HasArities t → at_cell (nodes t) ≡ true → Cell t
cell_of (variable n) h e = absurd (true≢false (sym e))
cell_of (integer z) h e = absurd (true≢false (sym e))
cell_of (atom a) h e = absurd (true≢false (sym e))
cell_of (compound f none) h e = absurd (true≢false (sym e))
cell_of (compound f (more t none)) h e = absurd (true≢false (sym e))
cell_of (compound f (more t (more r none))) h e =
    record { element = t; rest = r; listed = rw e refl; behind = ap (λ (l : List Node). nodes t ++ l) (append-nil (nodes r)); arities = (h.2.0, h.2.1.0) }
cell_of (compound f (more t (more r (more u us)))) h e = absurd (true≢false (sym e ∙ three_or_more f (count us)))

-- where there is none, there is no element
pub no_elements : (t : Tree) → at_cell (nodes t) ≡ false → elements t ≡ []
no_elements (variable n) e = refl
no_elements (integer z) e = refl
no_elements (atom a) e = refl
no_elements (compound f none) e = refl
no_elements (compound f (more t none)) e = refl
no_elements (compound f (more t (more r none))) e = rw e refl
no_elements (compound f (more t (more r (more u us)))) e = refl

some_node : (ns : List Node) → at_cell ns ≡ true → 0 < length ns
some_node [] e = absurd (true≢false (sym e))
some_node (n ∷ ns) e = omega arith

-- a cell is a node of its own
pub cell_within : (ns : List Node) (at : ℕ) → at_cell (drop at ns) ≡ true → at < length ns
cell_within ns at e = let some = some_node (drop at ns) e in omega (arith, some, length-drop at ns)

-- ---- the loop over further variables

-- these nodes are those of the list of the values that are left, and this text with theirs is all
pub record Left (ops : Table) (shown : List Shown) (ns : List Node) (text whole : List ℕ) : Type 0 where
  pub tree : Tree
  pub arities : HasArities tree
  pub nodes_are : ns ≡ nodes tree
  pub text_is : text ++ further_text ops shown (elements tree) ≡ whole

further_none : (ops : Table) (shown : List Shown) → further_text ops shown [] ≡ []
further_none ops [] = refl
further_none ops (s ∷ ss) = refl

-- no value is left
pub nothing_left : (ops : Table) (shown : List Shown) (ns : List Node) (text whole : List ℕ) → Left ops shown ns text whole → at_cell ns ≡ false → text ≡ whole
nothing_left ops shown ns text whole l e =
    sym (append-nil text)
    ∙ ap (λ (x : List ℕ). text ++ x) (sym (ap (further_text ops shown) (no_elements l.tree (ap at_cell (sym l.nodes_are) ∙ e)) ∙ further_none ops shown))
    ∙ l.text_is

-- one more value
pub further_step : (ops : Table) (shown : List Shown) (i : ℕ) (s : Shown) (ns : List Node) (at n : ℕ) (old mid new whole : List ℕ) → i < length shown → s ≡ get_or shown i s
    → Left ops (drop i shown) (drop at ns) old whole → at_cell (drop at ns) ≡ true → mid ≡ old ++ codes ", "
    → ((t : Tree) → (rest : List Node) → HasArities t → drop (at + 1) ns ≡ nodes t ++ rest → new ≡ mid ++ value_text ops s t)
    → ((t : Tree) → (rest : List Node) → HasArities t → drop (at + 1) ns ≡ nodes t ++ rest → n ≡ length (nodes t))
    → Left ops (drop (i + 1) shown) (drop (at + 1 + n) ns) new whole
further_step ops shown i s ns at n old mid new whole low is l cell comma value counted =
    let c = cell_of l.tree l.arities (ap at_cell (sym l.nodes_are) ∙ cell) in
    let past : drop (at + 1) ns ≡ nodes c.element ++ nodes c.rest = sym (drop-drop 1 at ns) ∙ ap (drop 1) l.nodes_are ∙ c.behind in
    let size : n ≡ length (nodes c.element) = counted c.element (nodes c.rest) c.arities.0 past in
    let v : List ℕ = value_text ops s c.element in
    let later : List ℕ = further_text ops (drop (i + 1) shown) (elements c.rest) in
    let first : drop i shown ≡ s ∷ drop (i + 1) shown = drop_more shown i s low ∙ ap (λ (x : Shown). x ∷ drop (i + 1) shown) (sym is) in
    let all : further_text ops (drop i shown) (elements l.tree) ≡ (codes ", " ++ v) ++ later =
    ap (λ (ss : List Shown). further_text ops ss (elements l.tree)) first ∙ ap (further_text ops (s ∷ drop (i + 1) shown)) c.listed in
    record {
      tree = c.rest;
      arities = c.arities.1;
      nodes_are = sym (drop-drop n (at + 1) ns)
          ∙ ap (drop n) past
          ∙ ap (λ (k : ℕ). drop k (nodes c.element ++ nodes c.rest)) size
          ∙ drop-append_seam (nodes c.element) (nodes c.rest);
      text_is = ap (λ (x : List ℕ). x ++ later) (value c.element (nodes c.rest) c.arities.0 past ∙ ap (λ (x : List ℕ). x ++ v) comma ∙ append_assoc old (codes ", ") v)
          ∙ append_assoc old (codes ", " ++ v) later
          ∙ ap (λ (x : List ℕ). old ++ x) (sym all)
          ∙ l.text_is;
    }

-- ---- the values of an answer

-- the first value, and then the further ones
pub values_put : (ops : Table) (shown : List Shown) (s : Shown) (ss : List Shown) (t : Tree) (ns x y : List Node) (n : ℕ) (old mid new : List ℕ)
    → HasArities t → ns ≡ nodes t → x ≡ drop 1 ns → y ≡ drop n x → at_cell ns ≡ true
    → ((u : Tree) → (rest : List Node) → HasArities u → x ≡ nodes u ++ rest → mid ≡ old ++ value_text ops s u)
    → ((u : Tree) → (rest : List Node) → HasArities u → x ≡ nodes u ++ rest → n ≡ length (nodes u))
    → ((u : Tree) → HasArities u → y ≡ nodes u → new ≡ mid ++ further_text ops ss (elements u))
    → shown ≡ s ∷ ss → new ≡ old ++ values_text ops shown (elements t)
values_put ops shown s ss t ns x y n old mid new h is one two cell value counted further all =
    let c = cell_of t h (ap at_cell (sym is) ∙ cell) in
    let past : x ≡ nodes c.element ++ nodes c.rest = one ∙ ap (drop 1) is ∙ c.behind in
    let size : n ≡ length (nodes c.element) = counted c.element (nodes c.rest) c.arities.0 past in
    let rest : y ≡ nodes c.rest =
    two ∙ ap (drop n) past ∙ ap (λ (k : ℕ). drop k (nodes c.element ++ nodes c.rest)) size ∙ drop-append_seam (nodes c.element) (nodes c.rest) in
    let later : List ℕ = further_text ops ss (elements c.rest) in
    further c.rest c.arities.1 rest
    ∙ ap (λ (m : List ℕ). m ++ later) (value c.element (nodes c.rest) c.arities.0 past)
    ∙ append_assoc old (value_text ops s c.element) later
    ∙ ap (λ (l : List Tree). old ++ values_text ops (s ∷ ss) l) (sym c.listed)
    ∙ ap (λ (l : List Shown). old ++ values_text ops l (elements t)) (sym all)
