use Rattle.std.proofs.Common.{◌≡◌, [], map, drop}
use Rattle.term_store.specs.Terms.{term_of}
use Rattle.term_builtins.specs.Meanings.{spelled}
use Rattle.term_builtins.specs.Answers.{byte_element}
use Rattle.term_builtins.proofs.atoms.from_bytes.Given as goal

abbrev pub invariant-loop-cell : goal.invariant-loop-cell
invariant-loop-cell l =
    spelled (byte_element l.form) (term_of l.names l.store l.atom) [] (map (term_of l.names l.store) l.cell-items)
    ≡ spelled (byte_element l.form) (term_of l.names l.store l.atom) l.text.items (map (term_of l.names l.store) (drop l.cell-index l.cell-items))
