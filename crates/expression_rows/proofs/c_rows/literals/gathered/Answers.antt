use Rattle.std.proofs.Common.{arith, ◌∙◌, get_or}
use Rattle.expression_rows.specs.c_rows.Pieces.{piece_at}
use Rattle.tree_reads.specs.Sources.{source_read}
use Rattle.expression_rows.proofs.c_rows.Bytes.{piece_more, joined_bytes}
use Rattle.expression_rows.proofs.c_rows.literals.gathered.Goals as goal

pub loop-leaf-preserved : goal.loop-leaf-preserved
loop-leaf-preserved c =
    let text = c.loop-leaf.text.items in
    let more = c.add_piece.new.text.items in
    let leaves = c.args.leaves.now in
    let i = c.loop-leaf.leaf-index in
    let source = source_read c.args.syntax.now in
    record {
      gathered = piece_more source text more leaves i (omega (arith, c.loop-leaf-test.true)) c.in-Ok.ensures.0 ∙ c.loop-leaf.invariant.gathered;
      bytes = joined_bytes text (piece_at source (get_or leaves i 0)) more (c.in-Ok.ensures).0 c.loop-leaf.invariant.bytes (c.in-Ok.ensures).1;
    }
