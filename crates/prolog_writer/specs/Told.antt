-- The term that the text of a term is read as: each variable by the name that it is written with.
use Rattle.prolog_terms.specs.Tree.{Tree, Trees, variable, integer, atom, compound, none, more}
use Rattle.prolog_reader.specs.Numberings.{Numbering, numbered, met}
use Rattle.prolog_writer.specs.Spelling.{variable_text}

-- the variables met after those of a term, from left to right
abbrev mutual
  pub told : Tree → Numbering → Numbering
  told (variable n) vs = met (variable_text n) vs
  told (integer z) vs = vs
  told (atom a) vs = vs
  told (compound f ts) vs = all_told ts vs

  pub all_told : Trees → Numbering → Numbering
  all_told none vs = vs
  all_told (more t ts) vs = all_told ts (told t vs)

-- the term with each variable's number among those met by then
abbrev mutual
  pub as_told : Tree → Numbering → Tree
  as_told (variable n) vs = variable (numbered (variable_text n) vs)
  as_told (integer z) vs = integer z
  as_told (atom a) vs = atom a
  as_told (compound f ts) vs = compound f (all_as_told ts vs)

  pub all_as_told : Trees → Numbering → Trees
  all_as_told none vs = none
  all_as_told (more t ts) vs = more (as_told t vs) (all_as_told ts (told t vs))
