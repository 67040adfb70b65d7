use Rattle.std.proofs.Common.{arith, refl, ◌+◌, ◌∙◌, sym}
use Rattle.std.specs.List.{slice_get}
use Rattle.std.proofs.lemmas.List.FromFn.{map-range_with_len_more}
use Rattle.c_types.specs.Table.{type_of}
use Rattle.row_numbers.specs.Kept.{nodes_of, kept_at, row_or}
use Rattle.constraints.proofs.functions.cell_list.Goals as goal
use Rattle.constraints.proofs.functions.cell_list.Goals.{then-has_row+in_ok-push, else-has_row+in_ok-push-2}

pub loop-node-preserved : goal.loop-node-preserved
loop-node-preserved c =
    let nodes = nodes_of c.args.types.now (type_of c.args.types.now c.args.id.0) in
    let more = map-range_with_len_more (λ i. row_or c.args.none (c.args.first + i) (kept_at (slice_get nodes i))) 0 c.loop-node.node c.loop-node.node (omega arith) in
    elim c.if-has_row.branch [
      | then-has_row+in_ok-push w ↦
          let h = sym c.has_row.ensures ∙ w.if-has_row.true in
          rw (w.list-is, w.in_ok-push.ensures.ok, c.loop-node.invariant, more, h) refl
      | else-has_row+in_ok-push-2 w ↦
          let h = sym c.has_row.ensures ∙ w.if-has_row.false in
          rw (w.list-is, w.in_ok-push-2.ensures.ok, c.loop-node.invariant, more, h) refl
    ]
