-- The walk over the nodes of a term puts its pieces.
use Rattle.std.proofs.Common.{◌≡◌, ℕ, ◌+◌, ◌-◌, ◌≤◌, ◌<◌, length, drop, get_or, List, [], ◌∷◌, ◌++◌, Bool, true, false, Option, Some, None, refl, sym, ◌∙◌, ap, subst, append_assoc, append-nil, arith}
use Rattle.std.specs.Prelude.{codes, nat_lt, ◌==◌, if◌then◌else◌}
use Rattle.std.specs.Fmt.{signed_decimal}
use Rattle.std.proofs.lemmas.Bool.{and_parts, eqb-true, true≢false}
use Rattle.std.proofs.lemmas.List.{drop_more}
use Rattle.std.proofs.lemmas.Bool.Decides.{nat_tests}
use Rattle.prolog_terms.specs.declared.node.Node.{Node}
use Rattle.prolog_terms.specs.declared.node.Node.TheVariants.{Var, Int, Atom, Functor}
use Rattle.prolog_terms.specs.declared.ops.Prefix.{Prefix}
use Rattle.prolog_terms.specs.declared.ops.Infix.{Infix}
use Rattle.prolog_terms.specs.declared.ops.Postfix.{Postfix}
use Rattle.prolog_terms.specs.Operators.{Table, prefix_op, infix_op, postfix_op}
use Rattle.prolog_terms.specs.Tree.{Tree, Trees, variable, integer, atom, compound, none, more, count, HasArities, AllHaveArities}
use Rattle.prolog_terms.specs.Flat.{nodes, nodes_all}
use Rattle.prolog_writer.specs.declared.style.Style.{Style}
use Rattle.prolog_writer.specs.declared.kind.Kind.TheVariants.{Paren}
use Rattle.prolog_writer.specs.declared.shape.Shape.{Shape}
use Rattle.prolog_writer.specs.declared.shape.Shape.TheVariants.{Cell, Braced, Prefixed, Infixed, Postfixed, Call}
use Rattle.prolog_writer.specs.declared.shape.Place.{Place}
use Rattle.prolog_writer.specs.declared.shape.Place.TheVariants.{Operand, Left}
use Rattle.prolog_writer.specs.declared.frames.Frame.{Frame}
use Rattle.prolog_writer.specs.declared.frames.Frame.TheVariants.{InArguments, InBraces, InElement, InTail, InOperand, InLeft, InPostfixed, InParenthesis}
use Rattle.prolog_writer.specs.Spelling.{same_text, variable_text}
use Rattle.prolog_writer.specs.Spaces.{Piece, piece}
use Rattle.prolog_writer.specs.Shapes.{shape_of, is_enclosed, is_cell, is_braced, is_nil, has_operators, unary, binary, operator_shape}
use Rattle.prolog_writer.specs.Pieces.{pieces, separated, joined, items, further_items, shaped, enclosed, mark, atom_pieces, operator_piece, argument_place, braces_place}
use Rattle.prolog_writer.specs.Frames.{behind, frames_behind, inside_of, place_in, opening, opened, parenthesis, in_parenthesis, begun, plain_pieces, plain_frames, in_tail, rest_pieces, rest_frames, node_pieces, frames_after, Walk, put_before, walk_on, walk}

-- what the nodes behind a whole term give
abbrev pub walk_behind : Table → Style → Place → List Frame → List Node → Walk
walk_behind o s w frames rest = put_before (behind s frames) (walk_on (frames_behind frames) rest (walk o s w (frames_behind frames) rest))

-- ---- some pieces behind others

join : (a b : List Piece) (x : Walk) → put_before a (put_before b x) ≡ put_before (a ++ b) x
join a b x = ap (λ (t : List Piece). record { pieces = t; left = x.left }) (sym (append_assoc a b x.pieces))

-- ---- behind a whole term

last_behind : (o : Table) (s : Style) (w : Place) (frames : List Frame) (rest : List Node)
    → walk_behind o s w (InArguments 1 ∷ frames) rest ≡ put_before (mark (codes ")") ∷ []) (walk_behind o s w frames rest)
unfolding behind frames_behind
last_behind o s w frames rest = refl

more_behind : (o : Table) (s : Style) (w : Place) (n : ℕ) (frames : List Frame) (rest : List Node)
    → walk_behind o s w (InArguments (n + 1 + 1) ∷ frames) rest ≡ put_before (mark (codes ",") ∷ []) (walk o s w (InArguments (n + 1) ∷ frames) rest)
unfolding behind frames_behind
more_behind o s w n frames rest =
    let e : nat_lt 1 (n + 1 + 1) ≡ true = grind (arith, nat_tests) in
    let d : n + 1 + 1 - 1 ≡ n + 1 = omega arith in
    rw (e, d) refl

braces_behind : (o : Table) (s : Style) (w : Place) (frames : List Frame) (rest : List Node)
    → walk_behind o s w (InBraces ∷ frames) rest ≡ put_before (mark (codes "}") ∷ []) (walk_behind o s w frames rest)
unfolding behind frames_behind
braces_behind o s w frames rest = refl

parenthesis_behind : (o : Table) (s : Style) (w : Place) (frames : List Frame) (rest : List Node)
    → walk_behind o s w (InParenthesis ∷ frames) rest ≡ put_before (mark (codes ")") ∷ []) (walk_behind o s w frames rest)
unfolding behind frames_behind
parenthesis_behind o s w frames rest = refl

element_behind : (o : Table) (s : Style) (w : Place) (frames : List Frame) (rest : List Node) → walk_behind o s w (InElement ∷ frames) rest ≡ walk o s w (InTail ∷ frames) rest
unfolding behind frames_behind
element_behind o s w frames rest = refl

tail_behind : (o : Table) (s : Style) (w : Place) (frames : List Frame) (rest : List Node)
    → walk_behind o s w (InTail ∷ frames) rest ≡ put_before (mark (codes "]") ∷ []) (walk_behind o s w frames rest)
unfolding behind frames_behind
tail_behind o s w frames rest = refl

operand_behind : (o : Table) (s : Style) (w : Place) (most : ℕ) (frames : List Frame) (rest : List Node)
    → walk_behind o s w (InOperand most ∷ frames) rest ≡ walk_behind o s w frames rest
unfolding behind frames_behind
operand_behind o s w most frames rest = refl

left_behind : (o : Table) (s : Style) (w : Place) (f : List ℕ) (i : Infix) (frames : List Frame) (rest : List Node)
    → walk_behind o s w (InLeft f i ∷ frames) rest ≡ put_before (operator_piece s f ∷ []) (walk o s w (InOperand i.right ∷ frames) rest)
unfolding behind frames_behind
left_behind o s w f i frames rest = refl

postfixed_behind : (o : Table) (s : Style) (w : Place) (f : List ℕ) (q : Postfix) (frames : List Frame) (rest : List Node)
    → walk_behind o s w (InPostfixed f q ∷ frames) rest ≡ put_before (operator_piece s f ∷ []) (walk_behind o s w frames rest)
unfolding behind frames_behind
postfixed_behind o s w f q frames rest = refl

-- ---- at one node

plain : (o : Table) (s : Style) (w : Place) (frames : List Frame) (node : Node) → in_tail frames ≡ false → node_pieces o s w frames node ≡ plain_pieces o s (place_in w frames) frames node
unfolding node_pieces
plain o s w frames node e = ap (λ (b : Bool). if b then rest_pieces o s frames node else plain_pieces o s (place_in w frames) frames node) e

plain_after : (o : Table) (s : Style) (w : Place) (frames : List Frame) (node : Node) → in_tail frames ≡ false → frames_after o s w frames node ≡ plain_frames o s (place_in w frames) frames node
unfolding frames_after
plain_after o s w frames node e = ap (λ (b : Bool). if b then rest_frames o s frames node else plain_frames o s (place_in w frames) frames node) e

tailing : (o : Table) (s : Style) (w : Place) (frames : List Frame) (node : Node) → node_pieces o s w (InTail ∷ frames) node ≡ rest_pieces o s (InTail ∷ frames) node
unfolding node_pieces
tailing o s w frames node = refl

tailing_after : (o : Table) (s : Style) (w : Place) (frames : List Frame) (node : Node) → frames_after o s w (InTail ∷ frames) node ≡ rest_frames o s (InTail ∷ frames) node
unfolding frames_after
tailing_after o s w frames node = refl

-- a node that is a whole term
leaf : (o : Table) (s : Style) (w : Place) (frames : List Frame) (node : Node) (rest : List Node) (ps : List Piece)
    → node_pieces o s w frames node ≡ ps ++ behind s frames → frames_after o s w frames node ≡ frames_behind frames
    → walk o s w frames (node ∷ rest) ≡ put_before ps (walk_behind o s w frames rest)
leaf o s w frames node rest ps e f =
    ap (λ (t : List Piece). put_before t (walk_on (frames_after o s w frames node) rest (walk o s w (frames_after o s w frames node) rest))) e
    ∙ ap (λ (fs : List Frame). put_before (ps ++ behind s frames) (walk_on fs rest (walk o s w fs rest))) f
    ∙ sym (join ps (behind s frames) (walk_on (frames_behind frames) rest (walk o s w (frames_behind frames) rest)))

-- a node behind which a frame is open
branch : (o : Table) (s : Style) (w : Place) (frames : List Frame) (node : Node) (rest : List Node) (ps : List Piece) (f : Frame) (fs : List Frame)
    → node_pieces o s w frames node ≡ ps → frames_after o s w frames node ≡ f ∷ fs
    → walk o s w frames (node ∷ rest) ≡ put_before ps (walk o s w (f ∷ fs) rest)
branch o s w frames node rest ps f fs e h =
    ap (λ (t : List Piece). put_before t (walk_on (frames_after o s w frames node) rest (walk o s w (frames_after o s w frames node) rest))) e
    ∙ ap (λ (gs : List Frame). put_before ps (walk_on gs rest (walk o s w gs rest))) h

-- ---- how many arguments a form has

abbrev pub Fits : Shape → ℕ → Type 0
Fits Cell n = n ≡ 2
Fits Braced n = n ≡ 1
Fits (Prefixed p) n = n ≡ 1
Fits (Infixed i) n = n ≡ 2
Fits (Postfixed q) n = n ≡ 1
Fits Call n = Unit {0}

fits_unary : (p : Option Prefix) (q : Option Postfix) (n : ℕ) → n ≡ 1 → Fits (unary p q) n
fits_unary (Some p) q n e = e
fits_unary None (Some q) n e = e
fits_unary None None n e = tt

fits_binary : (i : Option Infix) (n : ℕ) → n ≡ 2 → Fits (binary i) n
fits_binary (Some i) n e = e
fits_binary None n e = tt

fits_operator : (p : Option Prefix) (i : Option Infix) (q : Option Postfix) (n : ℕ) (a b : Bool) → n == 1 ≡ a → n == 2 ≡ b
    → Fits (if a then unary p q else (if b then binary i else Call)) n
fits_operator p i q n true b e h = fits_unary p q n (eqb-true n 1 e)
fits_operator p i q n false true e h = fits_binary i n (eqb-true n 2 h)
fits_operator p i q n false false e h = tt

fits_form : (sh : Shape) (f : List ℕ) (n : ℕ) → Fits sh n → (a b c : Bool) → is_cell f n ≡ a → is_braced f n ≡ b
    → Fits (if a then Cell else (if b then Braced else (if c then sh else Call))) n
fits_form sh f n h true b c e g = eqb-true n 2 (and_parts (n == 2) (same_text f (codes ".")) e).0
fits_form sh f n h false true c e g = eqb-true n 1 (and_parts (n == 1) (same_text f (codes "{}")) g).0
fits_form sh f n h false false true e g = h
fits_form sh f n h false false false e g = tt

fits : (o : Table) (s : Style) (f : List ℕ) (n : ℕ) → Fits (shape_of o s f n) n
unfolding shape_of
fits o s f n =
    fits_form (operator_shape o f n) f n (fits_operator (prefix_op o f) (infix_op o f) (postfix_op o f) n (n == 1) (n == 2) refl refl)
    (is_cell f n) (is_braced f n) (has_operators s) refl refl

-- ---- compounds

abbrev inside : Table → Style → Place → Frame → Trees → List Frame → List Node → Walk
inside o s w f ts frames rest = walk o s w (f ∷ frames) (nodes_all ts ++ rest)

-- what arguments give inside the frames that a compound of them can open, whatever is open before
record Inside (o : Table) (s : Style) (w : Place) (ts : Trees) (rest : List Node) : Type 0 where
  elements : (frames : List Frame) → count ts ≡ 2 → inside o s w InElement ts frames rest ≡ put_before (items o s ts) (put_before (mark (codes "]") ∷ []) (walk_behind o s w frames rest))
  arguments : (frames : List Frame)
      → inside o s w (InArguments (count ts)) ts frames rest ≡ put_before (separated o s argument_place ts) (put_before (mark (codes ")") ∷ []) (walk_behind o s w frames rest))
  alone : (f : Frame) (frames : List Frame) → in_tail (f ∷ []) ≡ false → count ts ≡ 1
      → inside o s w f ts frames rest ≡ put_before (separated o s (inside_of f) ts) (walk_behind o s w (f ∷ frames) rest)
  operands : (f : List ℕ) (i : Infix) (frames : List Frame) → count ts ≡ 2
      → inside o s w (InLeft f i) ts frames rest ≡ put_before (joined o s (Left i.left i.priority) (operator_piece s f) (Operand i.right) ts) (walk_behind o s w frames rest)

abbrev form : Table → Style → Shape → List ℕ → Trees → List Piece
form o s sh f ts = shaped s sh f (λ place. separated o s place ts) (λ left g right. joined o s left g right ts) (items o s ts)

formed : (o : Table) (s : Style) (w : Place) (sh : Shape) (f : List ℕ) (ts : Trees) (rest : List Node) (frames : List Frame) → Fits sh (count ts) → Inside o s w ts rest
    → put_before (opening s sh f) (inside o s w (opened sh f (count ts)) ts frames rest) ≡ put_before (form o s sh f ts) (walk_behind o s w frames rest)
formed o s w Cell f ts rest frames fit h =
    ap (put_before (mark (codes "[") ∷ [])) (h.elements frames fit ∙ join (items o s ts) (mark (codes "]") ∷ []) (walk_behind o s w frames rest))
formed o s w Braced f ts rest frames fit h =
    ap (put_before (mark (codes "{") ∷ [])) (
    h.alone InBraces frames refl fit
    ∙ ap (put_before (separated o s braces_place ts)) (braces_behind o s w frames rest)
    ∙ join (separated o s braces_place ts) (mark (codes "}") ∷ []) (walk_behind o s w frames rest)
    )
formed o s w (Prefixed p) f ts rest frames fit h =
    ap (put_before (opening s (Prefixed p) f)) (
    h.alone (InOperand p.operand) frames refl fit
    ∙ ap (put_before (separated o s (Operand p.operand) ts)) (operand_behind o s w p.operand frames rest)
    )
formed o s w (Infixed i) f ts rest frames fit h = h.operands f i frames fit
formed o s w (Postfixed q) f ts rest frames fit h =
    h.alone (InPostfixed f q) frames refl fit
    ∙ ap (put_before (separated o s (Left q.operand q.priority) ts)) (postfixed_behind o s w f q frames rest)
    ∙ join (separated o s (Left q.operand q.priority) ts) (operator_piece s f ∷ []) (walk_behind o s w frames rest)
formed o s w Call f ts rest frames fit h =
    ap (put_before (opening s Call f)) (h.arguments frames ∙ join (separated o s argument_place ts) (mark (codes ")") ∷ []) (walk_behind o s w frames rest))

-- in a parenthesis, where one stands
in_place : (o : Table) (s : Style) (w : Place) (b : Bool) (sh : Shape) (f : List ℕ) (ts : Trees) (rest : List Node) (frames : List Frame) → Fits sh (count ts) → Inside o s w ts rest
    → put_before (parenthesis b ++ opening s sh f) (walk o s w (opened sh f (count ts) ∷ in_parenthesis b frames) (nodes_all ts ++ rest))
    ≡ put_before (enclosed b (form o s sh f ts)) (walk_behind o s w frames rest)
in_place o s w true sh f ts rest frames fit h =
    ap (put_before (piece Paren (codes "(") ∷ [])) (
    formed o s w sh f ts rest (InParenthesis ∷ frames) fit h
    ∙ ap (put_before (form o s sh f ts)) (parenthesis_behind o s w frames rest)
    ∙ join (form o s sh f ts) (mark (codes ")") ∷ []) (walk_behind o s w frames rest)
    )
in_place o s w false sh f ts rest frames fit h = formed o s w sh f ts rest frames fit h

compounds : (o : Table) (s : Style) (w : Place) (f : List ℕ) (ts : Trees) (frames : List Frame) (rest : List Node) → in_tail frames ≡ false → Inside o s w ts rest
    → walk o s w frames (nodes (compound f ts) ++ rest) ≡ put_before (pieces o s (place_in w frames) (compound f ts)) (walk_behind o s w frames rest)
compounds o s w f ts frames rest begins h =
    let sh = shape_of o s f (count ts) in
    let at = place_in w frames in
    branch o s w frames (Functor f (count ts)) (nodes_all ts ++ rest) (begun s at sh f) (opened sh f (count ts)) (in_parenthesis (is_enclosed at sh) frames)
    (plain o s w frames (Functor f (count ts)) begins) (plain_after o s w frames (Functor f (count ts)) begins)
    ∙ in_place o s w (is_enclosed at sh) sh f ts rest frames (fits o s f (count ts)) h

-- the same behind an element of a list
further_compounds : (o : Table) (s : Style) (w : Place) (f : List ℕ) (ts : Trees) (frames : List Frame) (rest : List Node) → Inside o s w ts rest
    → walk o s w (InTail ∷ frames) (nodes (compound f ts) ++ rest) ≡ put_before (further_items o s (compound f ts)) (put_before (mark (codes "]") ∷ []) (walk_behind o s w frames rest))
further_compounds o s w f ts frames rest h = go (is_cell f (count ts)) refl
  where
    go : (b : Bool) → is_cell f (count ts) ≡ b
        → walk o s w (InTail ∷ frames) (nodes (compound f ts) ++ rest) ≡ put_before (further_items o s (compound f ts)) (put_before (mark (codes "]") ∷ []) (walk_behind o s w frames rest))
    go true e =
        let two : count ts ≡ 2 = eqb-true (count ts) 2 (and_parts (count ts == 2) (same_text f (codes ".")) e).0 in
        branch o s w (InTail ∷ frames) (Functor f (count ts)) (nodes_all ts ++ rest) (mark (codes ",") ∷ []) InElement frames
        (tailing o s w frames (Functor f (count ts)) ∙ rw e refl) (tailing_after o s w frames (Functor f (count ts)) ∙ rw e refl)
        ∙ ap (put_before (mark (codes ",") ∷ [])) (h.elements frames two)
        ∙ rw e refl
    go false e =
        let sh = shape_of o s f (count ts) in
        let b = is_enclosed argument_place sh in
        branch o s w (InTail ∷ frames) (Functor f (count ts)) (nodes_all ts ++ rest) (mark (codes "|") ∷ begun s argument_place sh f) (opened sh f (count ts)) (in_parenthesis b (InTail ∷ frames))
        (tailing o s w frames (Functor f (count ts)) ∙ rw e refl) (tailing_after o s w frames (Functor f (count ts)) ∙ rw e refl)
        ∙ ap (put_before (mark (codes "|") ∷ [])) (
        in_place o s w b sh f ts rest (InTail ∷ frames) (fits o s f (count ts)) h
        ∙ ap (put_before (enclosed b (form o s sh f ts))) (tail_behind o s w frames rest)
        )
        ∙ rw e refl

further_atom : (o : Table) (s : Style) (w : Place) (a : List ℕ) (frames : List Frame) (rest : List Node)
    → walk o s w (InTail ∷ frames) (Atom a ∷ rest) ≡ put_before (further_items o s (atom a)) (put_before (mark (codes "]") ∷ []) (walk_behind o s w frames rest))
further_atom o s w a frames rest =
    leaf o s w (InTail ∷ frames) (Atom a) rest (further_items o s (atom a)) (tailing o s w frames (Atom a) ∙ go (is_nil a)) (tailing_after o s w frames (Atom a))
    ∙ ap (put_before (further_items o s (atom a))) (tail_behind o s w frames rest)
  where
    go : (b : Bool) → ◌≡◌ {A = List Piece} (if b then behind s (InTail ∷ frames) else mark (codes "|") ∷ (atom_pieces o s argument_place a ++ behind s (InTail ∷ frames)))
        ((if b then [] else mark (codes "|") ∷ atom_pieces o s argument_place a) ++ behind s (InTail ∷ frames))
    go true = refl
    go false = refl

-- ---- terms

begins_alone : (f : Frame) (frames : List Frame) → in_tail (f ∷ []) ≡ false → in_tail (f ∷ frames) ≡ false
begins_alone (InArguments n) frames b = refl
begins_alone InBraces frames b = refl
begins_alone InElement frames b = refl
begins_alone InTail frames b = b
begins_alone (InOperand m) frames b = refl
begins_alone (InLeft f i) frames b = refl
begins_alone (InPostfixed f q) frames b = refl
begins_alone InParenthesis frames b = refl

mutual
  walk-term : (o : Table) (s : Style) (w : Place) (t : Tree) (frames : List Frame) (rest : List Node) → HasArities t → in_tail frames ≡ false
      → walk o s w frames (nodes t ++ rest) ≡ put_before (pieces o s (place_in w frames) t) (walk_behind o s w frames rest)
  walk-term o s w (variable n) frames rest h b =
      leaf o s w frames (Var n) rest (mark (variable_text n) ∷ []) (plain o s w frames (Var n) b) (plain_after o s w frames (Var n) b)
  walk-term o s w (integer z) frames rest h b =
      leaf o s w frames (Int z) rest (mark (signed_decimal z) ∷ []) (plain o s w frames (Int z) b) (plain_after o s w frames (Int z) b)
  walk-term o s w (atom a) frames rest h b =
      leaf o s w frames (Atom a) rest (atom_pieces o s (place_in w frames) a) (plain o s w frames (Atom a) b) (plain_after o s w frames (Atom a) b)
  walk-term o s w (compound f ts) frames rest h b = compounds o s w f ts frames rest b (record {
    elements = λ gs two. walk-items o s w ts gs rest h.2 two;
    arguments = λ gs. walk-arguments o s w ts gs rest h.0 h.2;
    alone = λ g gs c one. walk-alone o s w ts g gs rest h.2 c one;
    operands = λ g i gs two. walk-operands o s w ts g i gs rest h.2 two;
  })

  walk-arguments : (o : Table) (s : Style) (w : Place) (ts : Trees) (frames : List Frame) (rest : List Node) → 1 ≤ count ts → AllHaveArities ts
      → inside o s w (InArguments (count ts)) ts frames rest ≡ put_before (separated o s argument_place ts) (put_before (mark (codes ")") ∷ []) (walk_behind o s w frames rest))
  walk-arguments o s w none frames rest some h = absurd (omega arith)
  walk-arguments o s w (more t none) frames rest some h =
      ap (λ (l : List Node). walk o s w (InArguments 1 ∷ frames) (l ++ rest)) (append-nil (nodes t))
      ∙ walk-term o s w t (InArguments 1 ∷ frames) rest h.0 refl
      ∙ ap (put_before (pieces o s argument_place t)) (last_behind o s w frames rest)
  walk-arguments o s w (more t (more u us)) frames rest some h =
      let low : 1 ≤ count us + 1 = omega arith in
      let after : List Node = nodes_all (more u us) ++ rest in
      let x : Walk = put_before (mark (codes ")") ∷ []) (walk_behind o s w frames rest) in
      ap (walk o s w (InArguments (count us + 1 + 1) ∷ frames)) (append_assoc (nodes t) (nodes_all (more u us)) rest)
      ∙ walk-term o s w t (InArguments (count us + 1 + 1) ∷ frames) after h.0 refl
      ∙ ap (put_before (pieces o s argument_place t)) (
      more_behind o s w (count us) frames after
      ∙ ap (put_before (mark (codes ",") ∷ [])) (walk-arguments o s w (more u us) frames rest low h.1)
      )
      ∙ join (pieces o s argument_place t) (mark (codes ",") ∷ separated o s argument_place (more u us)) x

  walk-alone : (o : Table) (s : Style) (w : Place) (ts : Trees) (f : Frame) (frames : List Frame) (rest : List Node) → AllHaveArities ts → in_tail (f ∷ []) ≡ false → count ts ≡ 1
      → inside o s w f ts frames rest ≡ put_before (separated o s (inside_of f) ts) (walk_behind o s w (f ∷ frames) rest)
  walk-alone o s w none f frames rest h b one = absurd (omega (arith, one))
  walk-alone o s w (more t none) f frames rest h b one =
      ap (λ (l : List Node). walk o s w (f ∷ frames) (l ++ rest)) (append-nil (nodes t))
      ∙ walk-term o s w t (f ∷ frames) rest h.0 (begins_alone f frames b)
  walk-alone o s w (more t (more u us)) f frames rest h b one = absurd (omega (arith, one))

  walk-operands : (o : Table) (s : Style) (w : Place) (ts : Trees) (f : List ℕ) (i : Infix) (frames : List Frame) (rest : List Node) → AllHaveArities ts → count ts ≡ 2
      → inside o s w (InLeft f i) ts frames rest ≡ put_before (joined o s (Left i.left i.priority) (operator_piece s f) (Operand i.right) ts) (walk_behind o s w frames rest)
  walk-operands o s w none f i frames rest h two = absurd (omega (arith, two))
  walk-operands o s w (more t none) f i frames rest h two = absurd (omega (arith, two))
  walk-operands o s w (more t (more u none)) f i frames rest h two =
      let after : List Node = (nodes u ++ []) ++ rest in
      ap (walk o s w (InLeft f i ∷ frames)) (append_assoc (nodes t) (nodes u ++ []) rest)
      ∙ walk-term o s w t (InLeft f i ∷ frames) after h.0 refl
      ∙ ap (put_before (pieces o s (Left i.left i.priority) t)) (
      left_behind o s w f i frames after
      ∙ ap (put_before (operator_piece s f ∷ [])) (
      ap (λ (l : List Node). walk o s w (InOperand i.right ∷ frames) (l ++ rest)) (append-nil (nodes u))
      ∙ walk-term o s w u (InOperand i.right ∷ frames) rest h.1.0 refl
      ∙ ap (put_before (pieces o s (Operand i.right) u)) (operand_behind o s w i.right frames rest)
      )
      )
      ∙ join (pieces o s (Left i.left i.priority) t) (operator_piece s f ∷ pieces o s (Operand i.right) u) (walk_behind o s w frames rest)
  walk-operands o s w (more t (more u (more v us))) f i frames rest h two = absurd (omega (arith, two))

  walk-items : (o : Table) (s : Style) (w : Place) (ts : Trees) (frames : List Frame) (rest : List Node) → AllHaveArities ts → count ts ≡ 2
      → inside o s w InElement ts frames rest ≡ put_before (items o s ts) (put_before (mark (codes "]") ∷ []) (walk_behind o s w frames rest))
  walk-items o s w none frames rest h two = absurd (omega (arith, two))
  walk-items o s w (more t none) frames rest h two = absurd (omega (arith, two))
  walk-items o s w (more t (more u none)) frames rest h two =
      ap (walk o s w (InElement ∷ frames)) (append_assoc (nodes t) (nodes u ++ []) rest)
      ∙ walk-term o s w t (InElement ∷ frames) ((nodes u ++ []) ++ rest) h.0 refl
      ∙ ap (put_before (pieces o s argument_place t)) (
      element_behind o s w frames ((nodes u ++ []) ++ rest)
      ∙ ap (λ (l : List Node). walk o s w (InTail ∷ frames) (l ++ rest)) (append-nil (nodes u))
      ∙ walk-further o s w u frames rest h.1.0
      )
      ∙ join (pieces o s argument_place t) (further_items o s u) (put_before (mark (codes "]") ∷ []) (walk_behind o s w frames rest))
  walk-items o s w (more t (more u (more v us))) frames rest h two = absurd (omega (arith, two))

  walk-further : (o : Table) (s : Style) (w : Place) (t : Tree) (frames : List Frame) (rest : List Node) → HasArities t
      → walk o s w (InTail ∷ frames) (nodes t ++ rest) ≡ put_before (further_items o s t) (put_before (mark (codes "]") ∷ []) (walk_behind o s w frames rest))
  walk-further o s w (variable n) frames rest h =
      leaf o s w (InTail ∷ frames) (Var n) rest (further_items o s (variable n)) (tailing o s w frames (Var n)) (tailing_after o s w frames (Var n))
      ∙ ap (put_before (further_items o s (variable n))) (tail_behind o s w frames rest)
  walk-further o s w (integer z) frames rest h =
      leaf o s w (InTail ∷ frames) (Int z) rest (further_items o s (integer z)) (tailing o s w frames (Int z)) (tailing_after o s w frames (Int z))
      ∙ ap (put_before (further_items o s (integer z))) (tail_behind o s w frames rest)
  walk-further o s w (atom a) frames rest h = further_atom o s w a frames rest
  walk-further o s w (compound f ts) frames rest h = further_compounds o s w f ts frames rest (record {
    elements = λ gs two. walk-items o s w ts gs rest h.2 two;
    arguments = λ gs. walk-arguments o s w ts gs rest h.0 h.2;
    alone = λ g gs c one. walk-alone o s w ts g gs rest h.2 c one;
    operands = λ g i gs two. walk-operands o s w ts g i gs rest h.2 two;
  })

-- with nothing open before it: its pieces, and the nodes behind it
pub walk_front : (o : Table) (s : Style) (w : Place) (t : Tree) (rest : List Node) → HasArities t → walk o s w [] (nodes t ++ rest) ≡ record { pieces = pieces o s w t; left = rest }
unfolding behind frames_behind
walk_front o s w t rest h = walk-term o s w t [] rest h refl ∙ ap (λ (ps : List Piece). record { pieces = ps; left = rest }) (append-nil (pieces o s w t))

pub walk_alone : (o : Table) (s : Style) (w : Place) (t : Tree) → HasArities t → walk o s w [] (nodes t) ≡ record { pieces = pieces o s w t; left = [] }
walk_alone o s w t h = subst (λ (l : List Node). walk o s w [] l ≡ record { pieces = pieces o s w t; left = [] }) (append-nil (nodes t)) (walk_front o s w t [] h)

-- ---- the loop of a walk

-- a walk goes on where something is open behind a node
goes_on : (o : Table) (s : Style) (w : Place) (frames gs : List Frame) (node : Node) (rest : List Node) → gs ≡ frames_after o s w frames node → (length gs == 0) ≡ false
    → walk o s w frames (node ∷ rest) ≡ put_before (node_pieces o s w frames node) (walk o s w gs rest)
goes_on o s w frames [] node rest e some = absurd (true≢false some)
goes_on o s w frames (g ∷ gs) node rest e some = branch o s w frames node rest (node_pieces o s w frames node) g gs refl (sym e)

pub walk_more : (o : Table) (s : Style) (w : Place) (ns : List Node) (i : ℕ) (node : Node) (frames gs : List Frame) → i < length ns → node ≡ get_or ns i node
    → gs ≡ frames_after o s w frames node → (length gs == 0) ≡ false
    → walk o s w frames (drop i ns) ≡ put_before (node_pieces o s w frames node) (walk o s w gs (drop (i + 1) ns))
walk_more o s w ns i node frames gs low is e some =
    ap (walk o s w frames) (drop_more ns i node low ∙ ap (λ (n : Node). n ∷ drop (i + 1) ns) (sym is)) ∙ goes_on o s w frames gs node (drop (i + 1) ns) e some
