use Rattle.std.proofs.Common.{ℕ, ◌++◌, List, length, true, refl, sym, ap, ◌∙◌, subst, arith}
use Rattle.std.proofs.lemmas.Option.{slice_get_within}
use Rattle.prolog_terms.specs.Tree.{integer, atom}
use Rattle.term_store.specs.declared.cell.Cell.TheVariants.{Atom}
use Rattle.term_store.specs.Shape.{Shape}
use Rattle.term_store.specs.Terms.{IsNamed}
use Rattle.term_store.specs.Heads.{IsFurther, Matches}
use Rattle.term_store.proofs.Puts.{intern-longer}
use Rattle.term_store.proofs.Leaves.{further-itself, further-names, further-bound, matches-free, matches-other, raw-integer_at, raw-atom_at, raw-compound_at, integer-atom, atom-compound, atom-absent, name-stays, matches-texts}
use Rattle.term_store.proofs.store.Store.match_atom.Goals as goal

pub returns-in_err-number-in-Variable-clause-further : goal.returns-in_err-number-in-Variable-clause-further
returns-in_err-number-in-Variable-clause-further c =
    subst (λ (texts : List (List ℕ)). IsFurther c.args.self.now c.args.names.now c.args.self.now texts) (sym c.in_err-number-in-Variable.ensures.err) (further-itself c.args.self.now c.args.names.now c.requires.named)

pub bind-requires-clause-absent : goal.bind-requires-clause-absent
bind-requires-clause-absent c = λ name o. atom-absent name c.args.self.now c.in-Variable.free _ o

pub returns-in_err-bind-in-Variable-clause-further : goal.returns-in_err-bind-in-Variable-clause-further
returns-in_err-bind-in-Variable-clause-further c =
    subst (λ (s : Shape). IsFurther c.args.self.now c.args.names.now s c.intern.new.self) (sym c.in_err-bind-in-Variable.ensures.err)
    (further-names c.args.self.now c.args.names.now c.intern.new.self
    (intern-longer c.args.names.now c.intern.new.self c.bytes.result.now c.in_ok-number-in-Variable.ensures.texts) (λ _. c.intern.ensures.distinct) c.requires.named)

pub text-requires : goal.text-requires
text-requires c = subst (IsNamed (length c.args.names.now)) c.in-Atom.is (c.deref.ensures.named (length c.args.names.now) c.requires.named c.requires.valid.1)

pub returns-in_ok-bind-in-Variable-clause-further : goal.returns-in_ok-bind-in-Variable-clause-further
returns-in_ok-bind-in-Variable-clause-further c =
    subst (λ (s : Shape). IsFurther c.args.self.now c.args.names.now s c.intern.new.self) (sym c.in_ok-bind-in-Variable.ensures.ok)
    (further-bound c.args.self.now c.args.self.now.variables c.in-Variable.free (Atom c.in_ok-number-in-Variable.number) c.args.names.now c.intern.new.self (omega arith)
    (intern-longer c.args.names.now c.intern.new.self c.bytes.result.now c.in_ok-number-in-Variable.ensures.texts) (λ _. c.intern.ensures.distinct) c.requires.named
    (slice_get_within c.intern.new.self c.in_ok-number-in-Variable.number c.bytes.result.now c.in_ok-number-in-Variable.ensures.number))

pub returns-in_ok-bind-in-Variable-clause-matches : goal.returns-in_ok-bind-in-Variable-clause-matches
returns-in_ok-bind-in-Variable-clause-matches c =
    subst (λ (s : Shape). Matches c.args.self.now c.args.names.now s c.intern.new.self (atom c.args.name.now) c.args.cell true) (sym c.in_ok-bind-in-Variable.ensures.ok)
    (matches-free c.args.self.now c.in-Variable.free (Atom c.in_ok-number-in-Variable.number) c.deref.result c.args.cell (atom c.args.name.now) c.args.names.now c.intern.new.self c.known.ensures
    (intern-longer c.args.names.now c.intern.new.self c.bytes.result.now c.in_ok-number-in-Variable.ensures.texts)
    c.in-Variable.is c.deref.ensures.term
    (λ names. raw-atom_at (c.intern.new.self ++ names) c.args.self.now _ _ refl
    ∙ ap atom (name-stays c.intern.new.self names c.in_ok-number-in-Variable.number c.bytes.result.now c.in_ok-number-in-Variable.ensures.number ∙ c.bytes.ensures)))

pub returns-in-Integer-clause-further : goal.returns-in-Integer-clause-further
returns-in-Integer-clause-further c = further-itself c.args.self.now c.args.names.now c.requires.named

pub returns-in-Integer-clause-matches : goal.returns-in-Integer-clause-matches
returns-in-Integer-clause-matches c =
    matches-other c.args.self.now c.args.self.now c.deref.result c.args.cell (atom c.args.name.now) (integer c.in-Integer.field-0) c.args.names.now c.args.names.now c.deref.ensures.term
    (raw-integer_at c.args.names.now c.args.self.now c.deref.result c.in-Integer.field-0 c.in-Integer.is) (λ r e. integer-atom c.in-Integer.field-0 c.args.name.now r (sym e))

pub returns-in-Atom-clause-further : goal.returns-in-Atom-clause-further
returns-in-Atom-clause-further c = further-itself c.args.self.now c.args.names.now c.requires.named

pub returns-in-Atom-clause-matches : goal.returns-in-Atom-clause-matches
returns-in-Atom-clause-matches c =
    matches-texts c.args.self.now c.deref.result c.args.cell c.in-Atom.found c.args.name.now c.text.result.now c.bytes-in-Atom.result.now c.args.names.now c.eq.result c.known.ensures c.in-Atom.is
    c.deref.ensures.term c.text.ensures c.bytes-in-Atom.ensures c.eq.ensures

pub returns-in-Compound-clause-further : goal.returns-in-Compound-clause-further
returns-in-Compound-clause-further c = further-itself c.args.self.now c.args.names.now c.requires.named

pub returns-in-Compound-clause-matches : goal.returns-in-Compound-clause-matches
returns-in-Compound-clause-matches c =
    matches-other c.args.self.now c.args.self.now c.deref.result c.args.cell (atom c.args.name.now) _ c.args.names.now c.args.names.now c.deref.ensures.term
    (raw-compound_at c.args.names.now c.args.self.now c.deref.result c.in-Compound.field-0 c.known.ensures c.deref.ensures.valid c.in-Compound.is) (atom-compound c.args.name.now _ _)
