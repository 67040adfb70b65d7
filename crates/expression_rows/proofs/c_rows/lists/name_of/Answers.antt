use Rattle.std.proofs.Common.{ℕ, Bool, List, ◌==◌, length, refl, sym, ap, ◌∙◌}
use Rattle.std.proofs.lemmas.Option.{slice_get_read}
use Rattle.c_types.specs.Table.{type_of}
use Rattle.core_nodes.proofs.Reading.{core_is}
use Rattle.expression_rows.specs.c_rows.Lists.{named_leaf}
use Rattle.expression_rows.proofs.c_rows.Inner.{lone_is}
use Rattle.expression_rows.proofs.c_rows.lists.name_of.Goals as goal

pub returns : goal.returns
returns c =
    let u = c.args.unit.now in
    let nodes = u.nodes.items in
    let n = c.index-there.result.now in
    let at = slice_get_read nodes (length nodes) c.args.node n refl c.requires.node c.index-there.ensures in
    let alone = c.is_empty-alone.ensures ∙ ap (λ (l : List ℕ). length l == 0) c.as_slice.ensures in
    c.leaf_of.ensures ∙ (lone_is u n.kind n.place (type_of u.types n.ty.0) n.children _ alone ∙ sym (ap named_leaf (core_is u c.requires.ready c.args.node n at)))
