use Rattle.std.proofs.Common.{arith, ◌∙◌, sym, true, false}
use Rattle.c_types.specs.Table.{type_of}
use Rattle.row_numbers.specs.Kept.{nodes_of}
use Rattle.row_numbers.proofs.KeptLemmas.{up_to, rows_more, count_more, count_same}
use Rattle.row_numbers.proofs.kept.row_list.Goals as goal
use Rattle.row_numbers.proofs.kept.row_list.Goals.{then-has_row+in_ok-push, else-has_row+in_ok-push-2}

pub overflow_add-next : goal.overflow_add-next
overflow_add-next c =
    let bound = up_to (nodes_of c.args.types.now (type_of c.args.types.now c.args.id.0)) c.loop-node.node (omega arith) in
    omega (arith, c.loop-node.invariant.row)

pub loop-node-preserved : goal.loop-node-preserved
loop-node-preserved c =
    let nodes = nodes_of c.args.types.now (type_of c.args.types.now c.args.id.0) in
    elim c.if-has_row.branch [
      | then-has_row+in_ok-push w ↦
          let h = sym c.has_row.ensures ∙ w.if-has_row.true in
          let e = rows_more c.args.none c.args.first nodes c.loop-node.node true h c.loop-node.next c.loop-node.invariant.row in
          record {
            row = omega (arith, w.next-is, c.loop-node.invariant.row, count_more nodes c.loop-node.node (omega arith) h);
            rows = cc (w.in_ok-push.ensures.ok, c.loop-node.invariant.rows, e);
          }
      | else-has_row+in_ok-push-2 w ↦
          let h = sym c.has_row.ensures ∙ w.if-has_row.false in
          let e = rows_more c.args.none c.args.first nodes c.loop-node.node false h c.loop-node.next c.loop-node.invariant.row in
          record {
            row = omega (arith, w.next-is, c.loop-node.invariant.row, count_same nodes c.loop-node.node (omega arith) h);
            rows = cc (w.in_ok-push-2.ensures.ok, c.loop-node.invariant.rows, e);
          }
    ]
