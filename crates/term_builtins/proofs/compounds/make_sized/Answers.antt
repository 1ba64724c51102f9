use Rattle.std.proofs.Common.{◌≡◌, ◌∙◌, nat_abs, rules, pos, length, refl, sym, ap, codes, arith, w64}
use mir.Val.{to_z, of_z}
use Rattle.std.proofs.Math.Facts.{to_z-of_z}
use Rattle.prolog_terms.specs.Tree.{Tree, integer, compound}
use Rattle.prolog_terms.specs.declared.fault.Fault.TheVariants.{OfType, Domain, Representation}
use Rattle.prolog_terms.specs.Substitutions.{numbered}
use Rattle.term_store.specs.Terms.{text, term_of}
use Rattle.term_builtins.specs.Meanings.{made_sized, made, variables_from}
use Rattle.term_builtins.proofs.Answered.{answer-equal, answer-raises}
use Rattle.term_builtins.proofs.Grown.{further-itself, has-further, term-further}
use Rattle.term_builtins.proofs.Views.{named-atom}
use Rattle.term_builtins.proofs.NewCells.{integer-term}
use Rattle.term_builtins.proofs.NewCompounds.{answer-made}
use Rattle.term_builtins.proofs.Functors.{sized-lower, sized-upper, sized-between, small-few, small-is, small-cast, made-atom, made-other}
use Rattle.term_builtins.proofs.compounds.make_sized.Goals as goal

pub returns-in_err-fault-clause-further : goal.returns-in_err-fault-clause-further
returns-in_err-fault-clause-further c = further-itself c.args.store.now c.args.names.now c.requires.named

pub returns-then-count-lt0-clause-further : goal.returns-then-count-lt0-clause-further
returns-then-count-lt0-clause-further c = further-itself c.args.store.now c.args.names.now c.requires.named

pub returns-then-count-lt0-clause-answer : goal.returns-then-count-lt0-clause-answer
returns-then-count-lt0-clause-answer c =
    let s = c.args.store.now in let texts = c.args.names.now in
    answer-raises texts s s _ (Domain (codes "not_less_than_zero") (integer c.args.count)) c.in_ok-fault.fault
    (sized-lower s.variables (term_of texts s c.args.term) (term_of texts s c.args.name) c.args.count c.ranges.count c.if-count-lt0.true)
    (c.in_ok-fault.ensures ∙ ap (λ (u : Tree). Domain (codes "not_less_than_zero") (numbered u)) (integer-term texts s (to_z w64 (of_z w64 c.args.count)) ∙ ap integer (to_z-of_z c.ranges.count)))
    refl

pub returns-in_err-too_many-clause-further : goal.returns-in_err-too_many-clause-further
returns-in_err-too_many-clause-further c = further-itself c.args.store.now c.args.names.now c.requires.named

pub returns-then-count-gt255-clause-further : goal.returns-then-count-gt255-clause-further
returns-then-count-gt255-clause-further c = further-itself c.args.store.now c.args.names.now c.requires.named

pub returns-then-count-gt255-clause-answer : goal.returns-then-count-gt255-clause-answer
returns-then-count-gt255-clause-answer c =
    let s = c.args.store.now in let texts = c.args.names.now in
    answer-raises texts s s _ (Representation (codes "max_arity")) _
    (sized-upper s.variables (term_of texts s c.args.term) (term_of texts s c.args.name) c.args.count c.ranges.count c.if-count-gt255.true)
    c.in_ok-too_many.ensures refl

pub returns-then-count-eq0-clause-further : goal.returns-then-count-eq0-clause-further
returns-then-count-eq0-clause-further c = further-itself c.args.store.now c.args.names.now c.requires.named

pub returns-then-count-eq0-clause-answer : goal.returns-then-count-eq0-clause-answer
returns-then-count-eq0-clause-answer c =
    let s = c.args.store.now in let texts = c.args.names.now in
    let t = term_of texts s c.args.term in let n = term_of texts s c.args.name in
    let is : c.args.count ≡ pos 0 = sym (to_z-of_z c.ranges.count) ∙ ap (to_z w64) c.if-count-eq0.true in
    answer-equal texts s s _ t n c.args.term c.args.name (ap (made_sized s.variables t n) is) refl c.requires.term c.requires.name refl refl

pub overflow_cast-count : goal.overflow_cast-count
overflow_cast-count c = small-cast c.args.count c.ranges.count c.if-count-lt0.false

pub make_compound-requires-clause-some : goal.make_compound-requires-clause-some
make_compound-requires-clause-some c =
    let some = c.if-count-eq0.false in let is = small-is c.args.count c.ranges.count c.if-count-lt0.false in omega (arith, some, is)

pub make_compound-requires-clause-few : goal.make_compound-requires-clause-few
make_compound-requires-clause-few c =
    let few = small-few c.args.count c.if-count-lt0.false c.if-count-gt255.false c.ranges.count in let is = small-is c.args.count c.ranges.count c.if-count-lt0.false in omega (arith, few, is)

pub returns-in_err-made-in-Atom-clause-further : goal.returns-in_err-made-in-Atom-clause-further
returns-in_err-made-in-Atom-clause-further c =
    c.make_compound.ensures.further c.args.names.now c.requires.named
    (named-atom (length c.args.names.now) c.args.store.now c.args.name c.in-Atom.text c.requires.named c.requires.name.1 c.in-Atom.ensures.looks)

pub returns-in_err-fault-in_default : goal.returns-in_err-fault-in_default
returns-in_err-fault-in_default c = record { further = further-itself c.args.store.now c.args.names.now c.requires.named; bindings = search rules; answer = search rules }

pub returns-in_ok-made-in-Atom-clause-further : goal.returns-in_ok-made-in-Atom-clause-further
returns-in_ok-made-in-Atom-clause-further c =
    c.make_compound.ensures.further c.args.names.now c.requires.named
    (named-atom (length c.args.names.now) c.args.store.now c.args.name c.in-Atom.text c.requires.named c.requires.name.1 c.in-Atom.ensures.looks)

pub returns-in_ok-made-in-Atom-clause-answer : goal.returns-in_ok-made-in-Atom-clause-answer
returns-in_ok-made-in-Atom-clause-answer c =
    let s = c.args.store.now in let texts = c.args.names.now in let u = c.make_compound.new.store in
    let t = term_of texts s c.args.term in let n = term_of texts s c.args.name in
    let low = named-atom (length texts) s c.args.name c.in-Atom.text c.requires.named c.requires.name.1 c.in-Atom.ensures.looks in
    let further = c.make_compound.ensures.further texts c.requires.named low in
    let there = c.in_ok-made-in-Atom.ensures.made texts c.requires.named low in
    let some = c.if-count-eq0.false in
    let is = small-is c.args.count c.ranges.count c.if-count-lt0.false in
    let k = nat_abs (to_z w64 (of_z w64 c.args.count)) in
    answer-made texts s u _ k t (compound (text texts c.in-Atom.text) (variables_from s.variables k)) c.args.term c.in_ok-made-in-Atom.made
    (sized-between s.variables t n c.args.count c.ranges.count c.if-count-lt0.false c.if-count-gt255.false
    ∙ ap (made s.variables t n) (sym is)
    ∙ made-atom s.variables t n (text texts c.in-Atom.text) k (omega (arith, some, is)) (c.in-Atom.ensures.term texts))
    c.in_ok-made-in-Atom.ensures.variables
    (has-further s u texts texts c.args.term further c.requires.term) there.0
    (term-further s u texts texts c.args.term c.known.ensures c.requires.named further c.make_compound.ensures.bindings c.requires.term) there.1

pub returns-in_ok-fault-in_default : goal.returns-in_ok-fault-in_default
returns-in_ok-fault-in_default c =
    let s = c.args.store.now in let texts = c.args.names.now in
    let t = term_of texts s c.args.term in let n = term_of texts s c.args.name in
    let some = c.if-count-eq0.false in
    record {
      further = further-itself s texts c.requires.named;
      bindings = refl;
      answer = answer-raises texts s s _ (OfType (codes "atom") (numbered n)) c.in_ok-fault-in_default.fault
          (sized-between s.variables t n c.args.count c.ranges.count c.if-count-lt0.false c.if-count-gt255.false
          ∙ made-other s.variables t n (text texts) (term_of texts s) c.look.result (of_z w64 c.args.count) (omega (arith, some)) (c.look.ensures.term texts) c.in_default.not-Atom)
          c.in_ok-fault-in_default.ensures refl;
    }
