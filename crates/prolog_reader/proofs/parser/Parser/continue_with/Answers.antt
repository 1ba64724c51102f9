use Rattle.std.proofs.Common.{◌∷◌, ap, sym, ◌∙◌}
use Rattle.prolog_reader.specs.Grammar.{continued, goes}
use Rattle.prolog_reader.proofs.Continues.{told, grows, ends, closes_prefixed, closes_infixed, argument, item, tail, paren, braces}
use Rattle.prolog_reader.proofs.parser.Parser.continue_with.Goals as goal

pub returns-in-Some : goal.returns-in-Some
returns-in-Some c =
    sym c.frames.invariant
    ∙ grows c.args.ops.now c.frames.priority c.frames.most c.frames.self.terms c.frames.self.variables c.args.token.now c.frames.self.frames c.in-Some.extension (told c.args.ops.now c.frames.priority c.frames.most c.operator_text-text.ensures c.found_of-found.ensures c.in_ok-extension.ensures ∙ c.in-Some.is)
    ∙ ap goes (sym c.in_ok-grow.ensures)

pub returns-in-None : goal.returns-in-None
returns-in-None c =
    sym c.frames.invariant
    ∙ ends c.args.ops.now c.frames.priority c.frames.most c.frames.self.terms c.frames.self.variables c.args.token.now (told c.args.ops.now c.frames.priority c.frames.most c.operator_text-text.ensures c.found_of-found.ensures c.in_ok-extension.ensures ∙ c.in_default.is) c.frames.self.frames c.in-None.ensures.0
    ∙ c.refusal.ensures

pub frames-preserved-in-Some-Prefixed : goal.frames-preserved-in-Some-Prefixed
frames-preserved-in-Some-Prefixed c =
    ap (λ ts. continued c.args.ops.now c.in-Some-Prefixed.own c.in-Some-Prefixed.around c.pop.new.self ts c.frames.self.variables c.args.token.now) c.in_ok-push-in-Some-Prefixed.ensures
    ∙ sym (closes_prefixed c.args.ops.now c.frames.priority c.frames.most c.frames.self.terms c.frames.self.variables c.args.token.now (told c.args.ops.now c.frames.priority c.frames.most c.operator_text-text.ensures c.found_of-found.ensures c.in_ok-extension.ensures ∙ c.in_default.is) c.frames.self.frames c.pop.new.self c.in-Some-Prefixed.name c.in-Some-Prefixed.own c.in-Some-Prefixed.around (c.in-Some-Prefixed.ensures ∙ ap (λ f. f ∷ c.pop.new.self) c.in-Some-Prefixed.field-0-is))
    ∙ c.frames.invariant

pub frames-preserved : goal.frames-preserved
frames-preserved c =
    ap (λ ts. continued c.args.ops.now c.in-Some-Infixed.own c.in-Some-Infixed.around c.pop.new.self ts c.frames.self.variables c.args.token.now) c.in_ok-push-in-Some-Infixed.ensures
    ∙ sym (closes_infixed c.args.ops.now c.frames.priority c.frames.most c.frames.self.terms c.frames.self.variables c.args.token.now (told c.args.ops.now c.frames.priority c.frames.most c.operator_text-text.ensures c.found_of-found.ensures c.in_ok-extension.ensures ∙ c.in_default.is) c.frames.self.frames c.pop.new.self c.in-Some-Infixed.name c.in-Some-Infixed.own c.in-Some-Infixed.around (c.in-Some-Infixed.ensures ∙ ap (λ f. f ∷ c.pop.new.self) c.in-Some-Infixed.field-0-is))
    ∙ c.frames.invariant

pub returns-in-Some-Arguments : goal.returns-in-Some-Arguments
returns-in-Some-Arguments c =
    rw (sym c.frames.invariant ∙ argument c.args.ops.now c.frames.priority c.frames.most c.frames.self.terms c.frames.self.variables c.args.token.now (told c.args.ops.now c.frames.priority c.frames.most c.operator_text-text.ensures c.found_of-found.ensures c.in_ok-extension.ensures ∙ c.in_default.is) c.frames.self.frames c.pop.new.self c.in-Some-Arguments.name c.in-Some-Arguments.count c.in-Some-Arguments.around (c.in-Some-Arguments.ensures ∙ ap (λ f. f ∷ c.pop.new.self) c.in-Some-Arguments.field-0-is)) c.take_argument.ensures

pub returns-in-Some-Items : goal.returns-in-Some-Items
returns-in-Some-Items c =
    rw (sym c.frames.invariant ∙ item c.args.ops.now c.frames.priority c.frames.most c.frames.self.terms c.frames.self.variables c.args.token.now (told c.args.ops.now c.frames.priority c.frames.most c.operator_text-text.ensures c.found_of-found.ensures c.in_ok-extension.ensures ∙ c.in_default.is) c.frames.self.frames c.pop.new.self c.in-Some-Items.count c.in-Some-Items.around (c.in-Some-Items.ensures ∙ ap (λ f. f ∷ c.pop.new.self) c.in-Some-Items.field-0-is)) c.take_item.ensures

pub returns-in-Some-Tail : goal.returns-in-Some-Tail
returns-in-Some-Tail c =
    rw (sym c.frames.invariant ∙ tail c.args.ops.now c.frames.priority c.frames.most c.frames.self.terms c.frames.self.variables c.args.token.now (told c.args.ops.now c.frames.priority c.frames.most c.operator_text-text.ensures c.found_of-found.ensures c.in_ok-extension.ensures ∙ c.in_default.is) c.frames.self.frames c.pop.new.self c.in-Some-Tail.count c.in-Some-Tail.around (c.in-Some-Tail.ensures ∙ ap (λ f. f ∷ c.pop.new.self) c.in-Some-Tail.field-0-is)) c.take_tail.ensures

pub returns-in-Some-Paren : goal.returns-in-Some-Paren
returns-in-Some-Paren c =
    rw (sym c.frames.invariant ∙ paren c.args.ops.now c.frames.priority c.frames.most c.frames.self.terms c.frames.self.variables c.args.token.now (told c.args.ops.now c.frames.priority c.frames.most c.operator_text-text.ensures c.found_of-found.ensures c.in_ok-extension.ensures ∙ c.in_default.is) c.frames.self.frames c.pop.new.self c.in-Some-Paren.around (c.in-Some-Paren.ensures ∙ ap (λ f. f ∷ c.pop.new.self) c.in-Some-Paren.field-0-is)) c.take_paren.ensures

pub returns-in-Some-Braces : goal.returns-in-Some-Braces
returns-in-Some-Braces c =
    rw (sym c.frames.invariant ∙ braces c.args.ops.now c.frames.priority c.frames.most c.frames.self.terms c.frames.self.variables c.args.token.now (told c.args.ops.now c.frames.priority c.frames.most c.operator_text-text.ensures c.found_of-found.ensures c.in_ok-extension.ensures ∙ c.in_default.is) c.frames.self.frames c.pop.new.self c.in-Some-Braces.around (c.in-Some-Braces.ensures ∙ ap (λ f. f ∷ c.pop.new.self) c.in-Some-Braces.field-0-is)) c.take_braces.ensures
