use Rattle.std.proofs.Common.{arith}
use Rattle.edge_book.specs.Leaving.{targets_of}
use Rattle.row_share.proofs.share_laws.Searching.{search_done}
use Rattle.row_share.proofs.row_classes.order.visit_all.Goals as goal

pub returns : goal.returns
returns c = search_done c.args.system.now (λ row. targets_of row c.args.copies.now) c.loop-root.order.items c.loop-root.seen c.loop-root.invariant.search (λ row known. c.loop-root.invariant.passed row (omega arith))
