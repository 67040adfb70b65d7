use Rattle.std.proofs.Common.{refl, ap, ◌∙◌, ◌++◌, List}
use Rattle.std.proofs.lemmas.Option.{slice_get_read}
use Rattle.normal_form.specs.declared.normal.Assignment.{Assignment}
use Rattle.row_numbers.specs.Frame.{setting_in}
use Rattle.normal_form.proofs.WholeLemmas.{at_node}
use Rattle.normal_form.proofs.whole.node.Goals as goal

pub returns : goal.returns
returns c =
    let at = slice_get_read c.args.frame.now.program.now.nodes.items _ c.args.n c.index-node.result.now refl c.requires.node c.index-node.ensures in
    c.in_ok-demanded.ensures ∙ rw c.as_slice.ensures (ap (λ (xs : List Assignment). c.args.out.now ++ xs) (at_node (setting_in c.args.frame.now) c.args.n c.index-node.result.now at))

pub demanded-requires-clause-spotted : goal.demanded-requires-clause-spotted
demanded-requires-clause-spotted c =
    let at = slice_get_read c.args.frame.now.program.now.nodes.items _ c.args.n c.index-node.result.now refl c.requires.node c.index-node.ensures in
    rw c.as_slice.ensures (c.requires.spots c.args.n c.index-node.result.now at)

pub demanded-requires-clause-named : goal.demanded-requires-clause-named
demanded-requires-clause-named c =
    (c.index-node.result.now, slice_get_read c.args.frame.now.program.now.nodes.items _ c.args.n c.index-node.result.now refl c.requires.node c.index-node.ensures, refl)
