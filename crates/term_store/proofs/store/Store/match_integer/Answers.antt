use Rattle.std.proofs.Common.{◌≡◌, ◌≢◌, ℕ, ◌++◌, List, Bool, true, false, nat_eq, refl, sym, ap, ◌∙◌, subst, arith, rules, w64, SFits, of_z, to_z}
use Rattle.std.proofs.Math.Facts.{to_z-of_z}
use Rattle.prolog_terms.specs.Tree.{integer}
use Rattle.term_store.specs.declared.cell.Cell.TheVariants.{Integer}
use Rattle.term_store.specs.Shape.{Shape}
use Rattle.term_store.specs.Heads.{IsFurther, Matches}
use Rattle.term_store.proofs.Laws.{longer-itself}
use Rattle.term_store.proofs.Leaves.{further-itself, further-bound, matches-free, matches-same, matches-other, raw-integer_at, raw-atom_at, raw-compound_at, integer-integer, integer-atom, integer-compound, integer-absent}
use Rattle.term_store.proofs.store.Store.match_integer.Goals as goal

pub bind-requires-clause-absent : goal.bind-requires-clause-absent
bind-requires-clause-absent c = λ name o. integer-absent name c.args.self.now c.in-Variable.free _ o

pub returns-in_err-bind-in-Variable-clause-further : goal.returns-in_err-bind-in-Variable-clause-further
returns-in_err-bind-in-Variable-clause-further c = λ texts named.
    subst (λ (s : Shape). IsFurther c.args.self.now texts s texts) (sym c.in_err-bind-in-Variable.ensures.err) (further-itself c.args.self.now texts named)

pub returns-in_ok-bind-in-Variable-clause-further : goal.returns-in_ok-bind-in-Variable-clause-further
returns-in_ok-bind-in-Variable-clause-further c = λ texts named.
    subst (λ (s : Shape). IsFurther c.args.self.now texts s texts) (sym c.in_ok-bind-in-Variable.ensures.ok)
    (further-bound c.args.self.now c.args.self.now.variables c.in-Variable.free (Integer _) texts texts (omega arith) (longer-itself texts) (λ d. d) named tt)

pub returns-in_ok-bind-in-Variable-clause-matches : goal.returns-in_ok-bind-in-Variable-clause-matches
returns-in_ok-bind-in-Variable-clause-matches c = λ texts named has.
    let fits : SFits w64 c.args.value = search rules in
    subst (λ (s : Shape). Matches c.args.self.now texts s texts (integer c.args.value) c.args.cell true) (sym c.in_ok-bind-in-Variable.ensures.ok)
    (matches-free c.args.self.now c.in-Variable.free (Integer (to_z w64 (of_z w64 c.args.value))) c.deref.result c.args.cell (integer c.args.value) texts texts c.known.ensures (longer-itself texts)
    c.in-Variable.is c.deref.ensures.term
    (λ names. raw-integer_at (texts ++ names) c.args.self.now _ _ refl ∙ ap integer (to_z-of_z fits)))

pub returns-in-Integer-clause-further : goal.returns-in-Integer-clause-further
returns-in-Integer-clause-further c = λ texts named. further-itself c.args.self.now texts named

pub returns-in-Integer-clause-matches : goal.returns-in-Integer-clause-matches
returns-in-Integer-clause-matches c = λ texts named has. go texts (nat_eq (of_z w64 c.in-Integer.found) (of_z w64 c.args.value)) refl
  where
    go : (texts : List (List ℕ)) (t : Bool) → nat_eq (of_z w64 c.in-Integer.found) (of_z w64 c.args.value) ≡ t
        → Matches c.args.self.now texts c.args.self.now texts (integer c.args.value) c.args.cell t
    go texts true q =
        let found_fits : SFits w64 c.in-Integer.found = search rules in
        let value_fits : SFits w64 c.args.value = search rules in
        let coded : of_z w64 c.in-Integer.found ≡ of_z w64 c.args.value = grind arith in
        let same : c.in-Integer.found ≡ c.args.value = sym (to_z-of_z found_fits) ∙ ap (to_z w64) coded ∙ to_z-of_z value_fits in
        matches-same c.args.self.now c.deref.result c.args.cell (integer c.args.value) texts c.known.ensures c.deref.ensures.term
        (λ names. raw-integer_at (texts ++ names) c.args.self.now c.deref.result c.in-Integer.found c.in-Integer.is ∙ ap integer same)
    go texts false q =
        let other : c.args.value ≢ c.in-Integer.found = λ e. let coded = ap (of_z w64) e in grind arith in
        matches-other c.args.self.now c.args.self.now c.deref.result c.args.cell (integer c.args.value) (integer c.in-Integer.found) texts texts c.deref.ensures.term
        (raw-integer_at texts c.args.self.now c.deref.result c.in-Integer.found c.in-Integer.is) (integer-integer c.args.value c.in-Integer.found other)

pub returns-in-Atom-clause-further : goal.returns-in-Atom-clause-further
returns-in-Atom-clause-further c = λ texts named. further-itself c.args.self.now texts named

pub returns-in-Atom-clause-matches : goal.returns-in-Atom-clause-matches
returns-in-Atom-clause-matches c = λ texts named has.
    matches-other c.args.self.now c.args.self.now c.deref.result c.args.cell (integer c.args.value) _ texts texts c.deref.ensures.term
    (raw-atom_at texts c.args.self.now c.deref.result c.in-Atom.field-0 c.in-Atom.is) (integer-atom c.args.value _)

pub returns-in-Compound-clause-further : goal.returns-in-Compound-clause-further
returns-in-Compound-clause-further c = λ texts named. further-itself c.args.self.now texts named

pub returns-in-Compound-clause-matches : goal.returns-in-Compound-clause-matches
returns-in-Compound-clause-matches c = λ texts named has.
    matches-other c.args.self.now c.args.self.now c.deref.result c.args.cell (integer c.args.value) _ texts texts c.deref.ensures.term
    (raw-compound_at texts c.args.self.now c.deref.result c.in-Compound.field-0 c.known.ensures c.deref.ensures.valid c.in-Compound.is) (integer-compound c.args.value _ _)
