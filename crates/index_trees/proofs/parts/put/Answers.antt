use Rattle.std.proofs.Common.{sym, ◌∙◌}
use Rattle.index_trees.proofs.Parting.{put_coded, put_plain}
use Rattle.index_trees.proofs.parts.put.Goals as goal

pub returns-in_ok-push-in-Some-clause-parts : goal.returns-in_ok-push-in-Some-clause-parts
returns-in_ok-push-in-Some-clause-parts c done h =
    put_coded c.args.level done c.args.codes.now c.args.children.now.items c.args.rest.now.items c.args.item.now c.place-at.result c.in-Some.code c.index_mut.result.now c.push.new.self
    c.requires.ascending c.requires.many c.place-at.ensures.below c.place-at.ensures.found (sym c.item_code.ensures ∙ c.in-Some.is) c.index_mut.ensures.value c.in_ok-push-in-Some.ensures.items h

pub returns-in_ok-push-in-None-clause-parts : goal.returns-in_ok-push-in-None-clause-parts
returns-in_ok-push-in-None-clause-parts c done h =
    put_plain c.args.level done c.args.codes.now c.args.children.now.items c.give.new.children.items c.args.rest.now.items c.push-in-None.new.self.items c.args.item.now
    c.requires.many (sym c.item_code.ensures ∙ c.in-None.is) c.in_ok-give-in-None.ensures.each c.in_ok-push-in-None.ensures.items h
