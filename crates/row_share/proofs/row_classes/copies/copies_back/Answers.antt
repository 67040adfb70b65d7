use Rattle.std.proofs.Common.{Contains, arith}
use Rattle.sol_model.specs.declared.system.Constraint.TheVariants.{Copy}
use Rattle.row_share.proofs.row_classes.Books.{book_more, are_sources}
use Rattle.row_share.proofs.row_classes.copies.copies_back.Goals as goal

pub loop-i-preserved : goal.loop-i-preserved
loop-i-preserved c from to = book_more (Contains c.loop-i.book (to, from)) (Contains c.add_copy_back.new.book (to, from)) c.args.system.now.constraints c.loop-i.i c.constraint_at.result (Copy from to)
    c.constraint_at.ensures.value (c.loop-i.invariant from to) (c.in_ok-add_copy_back.ensures from to)

pub returns : goal.returns
returns c = are_sources c.args.system.now c.loop-i.book c.loop-i.i (omega arith) c.loop-i.invariant
