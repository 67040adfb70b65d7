use Rattle.std.proofs.Common.{refl, sym, ◌∙◌, length}
use Rattle.std.proofs.lemmas.Option.{slice_get_read}
use Rattle.core_nodes.proofs.Reading.{sort_is}
use Rattle.core_nodes.proofs.reads.is_place.Goals as goal

pub returns : goal.returns
returns c =
    let nodes = c.args.unit.now.nodes.items in
    let at = slice_get_read nodes (length nodes) c.args.node c.index.result.now refl c.requires.node c.index.ensures in
    let e = sort_is c.args.unit.now c.requires.ready c.args.node c.index.result.now at in
    (λ h. sym e ∙ c.is_place_kind.ensures.0 h, λ h. c.is_place_kind.ensures.1 (e ∙ h))
