use Rattle.std.proofs.Common.{Contains, arith}
use Rattle.sol_model.specs.declared.system.Constraint.TheVariants.{Copy}
use Rattle.row_share.proofs.row_classes.Books.{book_more, are_targets}
use Rattle.row_share.proofs.row_classes.copies.copies.Goals as goal

pub loop-i-preserved : goal.loop-i-preserved
loop-i-preserved c from to = book_more (Contains c.loop-i.book (from, to)) (Contains c.add_copy.new.book (from, to)) c.args.system.now.constraints c.loop-i.i c.constraint_at.result (Copy from to)
    c.constraint_at.ensures.value (c.loop-i.invariant from to) (c.in_ok-add_copy.ensures from to)

pub returns : goal.returns
returns c = are_targets c.args.system.now c.loop-i.book c.loop-i.i (omega arith) c.loop-i.invariant
