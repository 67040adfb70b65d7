use Rattle.std.proofs.Common.{◌≡◌, ℕ, ◌<◌, true, []}
use Rattle.edge_book.specs.Leaving.{targets_of}
use Rattle.row_share.specs.share_laws.Orders.{IsSearch, is_seen}
use Rattle.row_share.proofs.row_classes.order.visit_all.Given as goal

abbrev pub invariant-loop-root : goal.invariant-loop-root
invariant-loop-root l = record {
  search : IsSearch l.system (λ row. targets_of row l.copies) l.order.items [] l.seen;
  empty : l.path.items ≡ [];
  passed : (row : ℕ) → row < l.root → is_seen l.seen row ≡ true;
}
