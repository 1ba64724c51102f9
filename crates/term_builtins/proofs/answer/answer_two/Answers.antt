use Rattle.std.proofs.Common.{false, IfOk, arith, refl, sym, subst}
use Rattle.prolog_terms.specs.Tree.{none, more}
use Rattle.term_store.specs.Terms.{term_of}
use Rattle.term_builtins.specs.declared.answer.Answer.TheVariants as gives
use Rattle.term_builtins.specs.declared.table.What.{What}
use Rattle.term_builtins.specs.Meanings.{Meaning, meaning}
use Rattle.term_builtins.specs.Answers.{IsAnswer}
use Rattle.term_builtins.proofs.Grown.{further-itself}
use Rattle.term_builtins.proofs.Called.{two-other}
use Rattle.term_builtins.proofs.answer.answer_two.Goals as goal

pub returns-in-Differ-clause-further : goal.returns-in-Differ-clause-further
returns-in-Differ-clause-further c = c.differ.ensures.further

pub returns-in-Differ-clause-answer : goal.returns-in-Differ-clause-answer
returns-in-Differ-clause-answer c =
    let s = c.args.store.now in let texts = c.args.names.now in
    subst (λ (w : What). IfOk c.differ.result (IsAnswer texts s c.differ.new.store (meaning w s.variables (more (term_of texts s c.args.left) (more (term_of texts s c.args.right) none))))) (sym c.in-Differ.is) c.differ.ensures.answer

pub returns-in-Order-clause-further : goal.returns-in-Order-clause-further
returns-in-Order-clause-further c = further-itself c.args.store.now c.args.names.now c.requires.named

pub returns-in-Order-clause-answer : goal.returns-in-Order-clause-answer
returns-in-Order-clause-answer c =
    let s = c.args.store.now in let texts = c.args.names.now in
    subst (λ (w : What). IfOk c.ordered.result (IsAnswer texts s s (meaning w s.variables (more (term_of texts s c.args.left) (more (term_of texts s c.args.right) none))))) (sym c.in-Order.is) c.ordered.ensures.answer

pub returns-in-Univ-clause-further : goal.returns-in-Univ-clause-further
returns-in-Univ-clause-further c = c.univ.ensures.further

pub returns-in-Univ-clause-answer : goal.returns-in-Univ-clause-answer
returns-in-Univ-clause-answer c =
    let s = c.args.store.now in let texts = c.univ.new.names in
    subst (λ (w : What). IfOk c.univ.result (IsAnswer texts s c.univ.new.store (meaning w s.variables (more (term_of texts s c.args.left) (more (term_of texts s c.args.right) none))))) (sym c.in-Univ.is) c.univ.ensures.answer

pub returns-in-Copy-clause-further : goal.returns-in-Copy-clause-further
returns-in-Copy-clause-further c = c.copy.ensures.further

pub returns-in-Copy-clause-answer : goal.returns-in-Copy-clause-answer
returns-in-Copy-clause-answer c =
    let s = c.args.store.now in let texts = c.args.names.now in
    subst (λ (w : What). IfOk c.copy.result (IsAnswer texts s c.copy.new.store (meaning w s.variables (more (term_of texts s c.args.left) (more (term_of texts s c.args.right) none))))) (sym c.in-Copy.is) c.copy.ensures.answer

pub returns-in-AtomLength-clause-further : goal.returns-in-AtomLength-clause-further
returns-in-AtomLength-clause-further c = further-itself c.args.store.now c.args.names.now c.requires.named

pub returns-in-AtomLength-clause-answer : goal.returns-in-AtomLength-clause-answer
returns-in-AtomLength-clause-answer c =
    let s = c.args.store.now in let texts = c.args.names.now in
    subst (λ (w : What). IfOk c.atom_length.result (IsAnswer texts s s (meaning w s.variables (more (term_of texts s c.args.left) (more (term_of texts s c.args.right) none))))) (sym c.in-AtomLength.is) c.atom_length.ensures.answer

pub returns-in-AtomCodes-clause-further : goal.returns-in-AtomCodes-clause-further
returns-in-AtomCodes-clause-further c = c.atom_codes.ensures.further

pub returns-in-AtomCodes-clause-answer : goal.returns-in-AtomCodes-clause-answer
returns-in-AtomCodes-clause-answer c =
    let s = c.args.store.now in let texts = c.atom_codes.new.names in
    subst (λ (w : What). IfOk c.atom_codes.result (IsAnswer texts s c.atom_codes.new.store (meaning w s.variables (more (term_of texts s c.args.left) (more (term_of texts s c.args.right) none))))) (sym c.in-AtomCodes.is) c.atom_codes.ensures.answer

pub returns-in-AtomChars-clause-further : goal.returns-in-AtomChars-clause-further
returns-in-AtomChars-clause-further c = c.atom_chars.ensures.further

pub returns-in-AtomChars-clause-answer : goal.returns-in-AtomChars-clause-answer
returns-in-AtomChars-clause-answer c =
    let s = c.args.store.now in let texts = c.atom_chars.new.names in
    subst (λ (w : What). IfOk c.atom_chars.result (IsAnswer texts s c.atom_chars.new.store (meaning w s.variables (more (term_of texts s c.args.left) (more (term_of texts s c.args.right) none))))) (sym c.in-AtomChars.is) c.atom_chars.ensures.answer

pub returns-in-CharCode-clause-further : goal.returns-in-CharCode-clause-further
returns-in-CharCode-clause-further c = c.char_code.ensures.further

pub returns-in-CharCode-clause-answer : goal.returns-in-CharCode-clause-answer
returns-in-CharCode-clause-answer c =
    let s = c.args.store.now in let texts = c.char_code.new.names in
    subst (λ (w : What). IfOk c.char_code.result (IsAnswer texts s s (meaning w s.variables (more (term_of texts s c.args.left) (more (term_of texts s c.args.right) none))))) (sym c.in-CharCode.is) c.char_code.ensures.answer

pub returns-in-Evaluate-clause-further : goal.returns-in-Evaluate-clause-further
returns-in-Evaluate-clause-further c = further-itself c.args.store.now c.args.names.now c.requires.named

pub returns-in-Evaluate-clause-answer : goal.returns-in-Evaluate-clause-answer
returns-in-Evaluate-clause-answer c =
    let s = c.args.store.now in let texts = c.args.names.now in
    subst (λ (w : What). IfOk c.evaluate.result (IsAnswer texts s s (meaning w s.variables (more (term_of texts s c.args.left) (more (term_of texts s c.args.right) none))))) (sym c.in-Evaluate.is) c.evaluate.ensures.answer

pub returns-in-Numbers-clause-further : goal.returns-in-Numbers-clause-further
returns-in-Numbers-clause-further c = further-itself c.args.store.now c.args.names.now c.requires.named

pub returns-in-Numbers-clause-answer : goal.returns-in-Numbers-clause-answer
returns-in-Numbers-clause-answer c =
    let s = c.args.store.now in let texts = c.args.names.now in
    subst (λ (w : What). IfOk c.numbers.result (IsAnswer texts s s (meaning w s.variables (more (term_of texts s c.args.left) (more (term_of texts s c.args.right) none))))) (sym c.in-Numbers.is) c.numbers.ensures.answer

pub returns-in-Unify-clause-further : goal.returns-in-Unify-clause-further
returns-in-Unify-clause-further c = further-itself c.args.store.now c.args.names.now c.requires.named

pub returns-in-Unify-clause-answer : goal.returns-in-Unify-clause-answer
returns-in-Unify-clause-answer c =
    let s = c.args.store.now in let texts = c.args.names.now in
    subst (λ (w : What). IsAnswer texts s s (meaning w s.variables (more (term_of texts s c.args.left) (more (term_of texts s c.args.right) none))) (gives.Equates c.args.left c.args.right)) (sym c.in-Unify.is)
    (omega arith, c.requires.left, c.requires.right, refl, refl)

pub returns-in_default-clause-further : goal.returns-in_default-clause-further
returns-in_default-clause-further c = further-itself c.args.store.now c.args.names.now c.requires.named

pub returns-in_default-clause-answer : goal.returns-in_default-clause-answer
returns-in_default-clause-answer c =
    let s = c.args.store.now in let texts = c.args.names.now in let d = c.in_default in
    subst (λ (m : Meaning). IsAnswer texts s s m (gives.Holds false))
    (sym (two-other c.args.what s.variables (term_of texts s c.args.left) (term_of texts s c.args.right) record {
      unify = d.not-Unify;
      differ = d.not-Differ;
      order = d.not-Order;
      univ = d.not-Univ;
      copy = d.not-Copy;
      atom_length = d.not-AtomLength;
      atom_codes = d.not-AtomCodes;
      atom_chars = d.not-AtomChars;
      char_code = d.not-CharCode;
      evaluate = d.not-Evaluate;
      numbers = d.not-Numbers;
    }))
    (refl, refl)
