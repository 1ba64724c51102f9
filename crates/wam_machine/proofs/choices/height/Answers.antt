use Rattle.std.proofs.Common.{◌∙◌, sym}
use Rattle.std.proofs.lemmas.List.{length-map}
use Rattle.wam_machine.specs.Terms.{said, saved_of}
use Rattle.wam_machine.proofs.choices.height.Goals as goal

pub returns : goal.returns
unfolding said
returns g c =
    let t = c.args.terms.now in
    c.len.ensures ∙ t.choices.ok.0 ∙ sym (length-map t.choices.items (saved_of t.names t.store t.frames.items))
