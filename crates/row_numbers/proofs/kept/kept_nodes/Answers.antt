use Rattle.std.proofs.Common.{arith, ◌^◌, ◌∙◌, sym, take, length-take}
use Rattle.c_types.specs.Table.{type_of}
use Rattle.row_numbers.specs.Kept.{nodes_of}
use Rattle.row_numbers.proofs.KeptLemmas.{up_to, kept_below, kept_more, kept_same}
use Rattle.row_numbers.proofs.kept.kept_nodes.Goals as goal
use Rattle.row_numbers.proofs.kept.kept_nodes.Goals.{then-has_row+in_ok-push, else-has_row}

pub loop-node-preserved : goal.loop-node-preserved
loop-node-preserved c =
    let nodes = nodes_of c.args.types.now (type_of c.args.types.now c.args.id.0) in
    elim c.if-has_row.branch [
      | then-has_row+in_ok-push w ↦ let e = kept_more nodes c.loop-node.node (omega arith) (sym c.has_row.ensures ∙ w.if-has_row.true) in cc (w.in_ok-push.ensures.items, c.loop-node.invariant)
      | else-has_row w ↦ let e = kept_same nodes c.loop-node.node (omega arith) (sym c.has_row.ensures ∙ w.if-has_row.false) in cc c.loop-node.invariant
    ]

pub returns-clause-within : goal.returns-clause-within
returns-clause-within c =
    let bound = up_to (nodes_of c.args.types.now (type_of c.args.types.now c.args.id.0)) c.loop-node.node (omega arith) in
    rw c.loop-node.invariant (omega arith)

pub returns-clause-below : goal.returns-clause-below
returns-clause-below c =
    let nodes = nodes_of c.args.types.now (type_of c.args.types.now c.args.id.0) in
    rw c.loop-node.invariant (kept_below (take c.loop-node.node nodes) (2 ^ 24) (omega (arith, length-take c.loop-node.node nodes, c.node_count-node-end.ensures.within)))
