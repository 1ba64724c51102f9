-- The pieces of a term, node by node in prefix order. The frames say what is open, the innermost first.
use Rattle.std.specs.Prelude.{ℕ, ◌-◌, List, [], ◌∷◌, ◌++◌, Bool, true, false, nat_lt, codes, if◌then◌else◌}
use Rattle.std.specs.Fmt.{signed_decimal}
use Rattle.prolog_terms.specs.declared.node.Node.{Node}
use Rattle.prolog_terms.specs.declared.node.Node.TheVariants.{Var, Int, Atom, Functor}
use Rattle.prolog_terms.specs.Operators.{Table}
use Rattle.prolog_writer.specs.declared.kind.Kind.TheVariants.{Paren}
use Rattle.prolog_writer.specs.declared.style.Style.{Style}
use Rattle.prolog_writer.specs.declared.shape.Shape.{Shape}
use Rattle.prolog_writer.specs.declared.shape.Shape.TheVariants.{Cell, Braced, Prefixed, Infixed, Postfixed, Call}
use Rattle.prolog_writer.specs.declared.shape.Place.{Place}
use Rattle.prolog_writer.specs.declared.shape.Place.TheVariants.{Operand, Left}
use Rattle.prolog_writer.specs.declared.frames.Frame.{Frame}
use Rattle.prolog_writer.specs.declared.frames.Frame.TheVariants.{InArguments, InBraces, InElement, InTail, InOperand, InLeft, InPostfixed, InParenthesis}
use Rattle.prolog_writer.specs.Spelling.{variable_text}
use Rattle.prolog_writer.specs.Spaces.{Piece, piece}
use Rattle.prolog_writer.specs.Shapes.{shape_of, is_enclosed, is_cell, is_nil}
use Rattle.prolog_writer.specs.Pieces.{mark, atom_pieces, operator_piece, prefix_piece, functor_piece, argument_place, braces_place}

-- ---- behind a whole term

-- what is put there
unfoldable pub behind : Style → List Frame → List Piece
behind style [] = []
behind style (InArguments left ∷ frames) = if nat_lt 1 left then mark (codes ",") ∷ [] else mark (codes ")") ∷ behind style frames
behind style (InBraces ∷ frames) = mark (codes "}") ∷ behind style frames
behind style (InElement ∷ frames) = []
behind style (InTail ∷ frames) = mark (codes "]") ∷ behind style frames
behind style (InOperand most ∷ frames) = behind style frames
behind style (InLeft name i ∷ frames) = operator_piece style name ∷ []
behind style (InPostfixed name q ∷ frames) = operator_piece style name ∷ behind style frames
behind style (InParenthesis ∷ frames) = mark (codes ")") ∷ behind style frames

-- what is open there
unfoldable pub frames_behind : List Frame → List Frame
frames_behind [] = []
frames_behind (InArguments left ∷ frames) = if nat_lt 1 left then InArguments (left - 1) ∷ frames else frames_behind frames
frames_behind (InBraces ∷ frames) = frames_behind frames
frames_behind (InElement ∷ frames) = InTail ∷ frames
frames_behind (InTail ∷ frames) = frames_behind frames
frames_behind (InOperand most ∷ frames) = frames_behind frames
frames_behind (InLeft name i ∷ frames) = InOperand i.right ∷ frames
frames_behind (InPostfixed name q ∷ frames) = frames_behind frames
frames_behind (InParenthesis ∷ frames) = frames_behind frames

-- ---- at a node that begins a term

-- where a term stands that begins inside a frame
abbrev pub inside_of : Frame → Place
inside_of (InArguments left) = argument_place
inside_of InBraces = braces_place
inside_of InElement = argument_place
inside_of InTail = argument_place
inside_of (InOperand most) = Operand most
inside_of (InLeft name i) = Left i.left i.priority
inside_of (InPostfixed name q) = Left q.operand q.priority
inside_of InParenthesis = braces_place

-- where the next term stands; the outermost has a place of its own
abbrev pub place_in : Place → List Frame → Place
place_in outer [] = outer
place_in outer (f ∷ frames) = inside_of f

-- what stands before the arguments of a compound
abbrev pub opening : Style → Shape → List ℕ → List Piece
opening style Cell name = mark (codes "[") ∷ []
opening style Braced name = mark (codes "{") ∷ []
opening style (Prefixed p) name = prefix_piece style name ∷ []
opening style (Infixed i) name = []
opening style (Postfixed q) name = []
opening style Call name = functor_piece style name ∷ mark (codes "(") ∷ []

abbrev pub opened : Shape → List ℕ → ℕ → Frame
opened Cell name arity = InElement
opened Braced name arity = InBraces
opened (Prefixed p) name arity = InOperand p.operand
opened (Infixed i) name arity = InLeft name i
opened (Postfixed q) name arity = InPostfixed name q
opened Call name arity = InArguments arity

abbrev pub parenthesis : Bool → List Piece
parenthesis b = if b then piece Paren (codes "(") ∷ [] else []

abbrev pub in_parenthesis : Bool → List Frame → List Frame
in_parenthesis b frames = if b then InParenthesis ∷ frames else frames

-- what is put at a compound, and what is open then
abbrev pub begun : Style → Place → Shape → List ℕ → List Piece
begun style at shape name = parenthesis (is_enclosed at shape) ++ opening style shape name

abbrev pub frames_begun : Place → Shape → List ℕ → ℕ → List Frame → List Frame
frames_begun at shape name arity frames = opened shape name arity ∷ in_parenthesis (is_enclosed at shape) frames

abbrev pub plain_pieces : Table → Style → Place → List Frame → Node → List Piece
plain_pieces ops style at frames (Var n) = mark (variable_text n) ∷ behind style frames
plain_pieces ops style at frames (Int z) = mark (signed_decimal z) ∷ behind style frames
plain_pieces ops style at frames (Atom name) = atom_pieces ops style at name ++ behind style frames
plain_pieces ops style at frames (Functor name arity) = begun style at (shape_of ops style name arity) name

abbrev pub plain_frames : Table → Style → Place → List Frame → Node → List Frame
plain_frames ops style at frames (Var n) = frames_behind frames
plain_frames ops style at frames (Int z) = frames_behind frames
plain_frames ops style at frames (Atom name) = frames_behind frames
plain_frames ops style at frames (Functor name arity) = frames_begun at (shape_of ops style name arity) name arity frames

-- ---- at a node behind an element of a list

abbrev pub in_tail : List Frame → Bool
in_tail (InTail ∷ frames) = true
in_tail frames = false

abbrev pub begins_cell : Node → Bool
begins_cell (Var n) = false
begins_cell (Int z) = false
begins_cell (Atom name) = false
begins_cell (Functor name arity) = is_cell name arity

abbrev pub ends_list : Node → Bool
ends_list (Var n) = false
ends_list (Int z) = false
ends_list (Atom name) = is_nil name
ends_list (Functor name arity) = false

-- a further element is open in place of what was behind the last one
abbrev pub next_element : List Frame → List Frame
next_element [] = []
next_element (f ∷ frames) = InElement ∷ frames

abbrev pub rest_pieces : Table → Style → List Frame → Node → List Piece
rest_pieces ops style frames node =
    if begins_cell node then mark (codes ",") ∷ []
    else (if ends_list node then behind style frames else mark (codes "|") ∷ plain_pieces ops style argument_place frames node)

abbrev pub rest_frames : Table → Style → List Frame → Node → List Frame
rest_frames ops style frames node = if begins_cell node then next_element frames else plain_frames ops style argument_place frames node

-- ---- at any node

unfoldable pub node_pieces : Table → Style → Place → List Frame → Node → List Piece
node_pieces ops style outer frames node =
    if in_tail frames then rest_pieces ops style frames node else plain_pieces ops style (place_in outer frames) frames node

unfoldable pub frames_after : Table → Style → Place → List Frame → Node → List Frame
frames_after ops style outer frames node =
    if in_tail frames then rest_frames ops style frames node else plain_frames ops style (place_in outer frames) frames node

-- ---- up to the end of a term

-- what was put, and the nodes that are left
pub record Walk : Type 0 where
  pub pieces : List Piece
  pub left : List Node

abbrev pub put_before : List Piece → Walk → Walk
put_before ps w = record { pieces = ps ++ w.pieces; left = w.left }

abbrev pub walk_on : List Frame → List Node → Walk → Walk
walk_on [] nodes later = record { pieces = []; left = nodes }
walk_on (f ∷ frames) nodes later = later

-- the walk over nodes ends where nothing is open
abbrev pub walk : Table → Style → Place → List Frame → List Node → Walk
walk ops style outer frames [] = record { pieces = []; left = [] }
walk ops style outer frames (node ∷ nodes) =
    put_before (node_pieces ops style outer frames node)
    (walk_on (frames_after ops style outer frames node) nodes (walk ops style outer (frames_after ops style outer frames node) nodes))
