use Rattle.std.proofs.Common.{◌≡◌, [], ◌∷◌, rules}
use Rattle.prolog_terms.specs.Tree.{integer}
use Rattle.prolog_terms.specs.declared.node.Node.TheVariants.{Int}
use Rattle.prolog_session.proofs.texts.put_code.Goals as goal

pub returns : goal.returns
returns c =
    let is : c.deref.result.now ≡ Int c.args.code.now ∷ [] = search rules in
    c.in_ok-write_front.ensures.text (integer c.args.code.now) [] tt is
