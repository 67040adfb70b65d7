use Rattle.std.proofs.Common.{◌≡◌}
use Rattle.sol_model.specs.declared.system.Constraint.TheVariants.{Copy}
use Rattle.row_share.proofs.row_classes.Books.{copy_after_back}
use Rattle.row_share.proofs.row_classes.copies.add_copy_back.Goals as goal

pub returns-in-Some : goal.returns-in-Some
returns-in-Some c = let is : c.args.constraint ≡ Copy c.in-Some.from c.in-Some.to = cc (c.in-Some.ensures.some, c.in-Some.from-is, c.in-Some.to-is) in
    copy_after_back c.in_ok-add.field-0 c.args.book.now c.add.new.self c.in-Some.from c.in-Some.to c.args.constraint c.in_ok-add.ensures.added c.in_ok-add.ensures.new is
