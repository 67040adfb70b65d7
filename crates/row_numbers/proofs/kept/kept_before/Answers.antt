use Rattle.std.proofs.Common.{arith, ◌∙◌, sym}
use Rattle.c_types.specs.Table.{type_of}
use Rattle.row_numbers.specs.Kept.{nodes_of}
use Rattle.row_numbers.proofs.KeptLemmas.{up_to, count_more, count_same}
use Rattle.row_numbers.proofs.kept.kept_before.Goals as goal
use Rattle.row_numbers.proofs.kept.kept_before.Goals.{then-has_row, else-has_row}

pub overflow_add-count : goal.overflow_add-count
overflow_add-count c = omega (arith, up_to (nodes_of c.args.types.now (type_of c.args.types.now c.args.id.0)) c.loop-node.node (omega arith))

pub loop-node-preserved : goal.loop-node-preserved
loop-node-preserved c =
    let nodes = nodes_of c.args.types.now (type_of c.args.types.now c.args.id.0) in
    elim c.if-has_row.branch [
      | then-has_row w ↦ w.count-is ∙ rw c.loop-node.invariant (sym (count_more nodes c.loop-node.node (omega arith) (sym c.has_row.ensures ∙ w.if-has_row.true)))
      | else-has_row w ↦ w.count-is ∙ c.loop-node.invariant ∙ sym (count_same nodes c.loop-node.node (omega arith) (sym c.has_row.ensures ∙ w.if-has_row.false))
    ]

pub returns-clause-within : goal.returns-clause-within
returns-clause-within c = omega (arith, up_to (nodes_of c.args.types.now (type_of c.args.types.now c.args.id.0)) c.loop-node.node (omega arith))
