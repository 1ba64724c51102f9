-- The rows, computed.
use Rattle.std.proofs.Common.{refl}
use Rattle.std.specs.Fmt.{digits}
use Rattle.prolog_terms.specs.Operators.{initial_operators, definitions}
use Rattle.prolog_writer.specs.Spelling.{escaped, name_text}
use Rattle.prolog_writer.specs.Shapes.{shape_of, is_enclosed, is_atom_enclosed}
use Rattle.prolog_writer.specs.Rows.{HasSpaces, HasParentheses, HasBrackets, HasNames, HasStyles, HasDeclared, HasRows}

rows_spaces : HasSpaces
unfolding digits initial_operators definitions escaped name_text shape_of is_enclosed is_atom_enclosed
rows_spaces = record {
  minus_a_minus = refl;
  minus_of_one = refl;
  minus_of_minus = refl;
  minus_of_a_name = refl;
  minus_of_a_variable = refl;
  words = refl;
  numbers = refl;
  variables = refl;
  parenthesis = refl;
  comma = refl;
  no_operator_comma = refl;
  quote_before_a_letter = refl;
  quotes = refl;
}

rows_parentheses : HasParentheses
unfolding digits initial_operators definitions escaped name_text shape_of is_enclosed is_atom_enclosed
rows_parentheses = record {
  clause = refl;
  whole_clause = refl;
  directive = refl;
  negation = refl;
  negated_pair = refl;
  left_nested = refl;
  right_nested = refl;
  powers = refl;
  power_of_power = refl;
  power_of_minus = refl;
  minus_of_power = refl;
  power_of_integer = refl;
  pair = refl;
  pair_as_argument = refl;
  body = refl;
  word = refl;
  operator_as_argument = refl;
  operator_as_element = refl;
  operator_as_operand = refl;
  indicator = refl;
  operator_alone = refl;
}

rows_brackets : HasBrackets
unfolding digits initial_operators definitions escaped name_text shape_of is_enclosed is_atom_enclosed
rows_brackets = record {
  codes_of_text = refl;
  codes_of_accent = refl;
  tail = refl;
  variable_tail = refl;
  clause_as_element = refl;
  clause_as_tail = refl;
  empty = refl;
  braces = refl;
  clause_in_braces = refl;
  two_in_braces = refl;
  brackets_as_name = refl;
}

rows_names : HasNames
unfolding digits initial_operators definitions escaped name_text shape_of is_enclosed is_atom_enclosed
rows_names = record {
  quote = refl;
  blank = refl;
  line = refl;
  tab = refl;
  control = refl;
  backslash = refl;
  accent = refl;
  capital = refl;
  no_bytes = refl;
  symbols = refl;
  comment = refl;
  point = refl;
  comma = refl;
  cut = refl;
  mixed = refl;
  symbols_all = refl;
  points = refl;
  comment_behind = refl;
  accent_in_quotes = refl;
  last_control = refl;
  last_letters = refl;
}

rows_styles : HasStyles
unfolding digits initial_operators definitions escaped name_text shape_of is_enclosed is_atom_enclosed
rows_styles = record {
  plain_name = refl;
  plain_operator = refl;
  plain_nothing = refl;
  canonical_minus = refl;
  canonical_clause = refl;
  canonical_list = refl;
  canonical_operand = refl;
  canonical_name = refl;
}

rows_declared : HasDeclared
unfolding digits initial_operators definitions escaped name_text shape_of is_enclosed is_atom_enclosed
rows_declared = record {
  both = refl;
  postfix_of_one = refl;
  postfix_twice = refl;
  postfix_of_another = refl;
  postfix_nested = refl;
  prefix_inside = refl;
  equal_on_the_left = refl;
  postfix_alone = refl;
}

pub has_rows : HasRows
has_rows = record {
  spaces = rows_spaces;
  parentheses = rows_parentheses;
  brackets = rows_brackets;
  names = rows_names;
  styles = rows_styles;
  declarations = rows_declared;
}
