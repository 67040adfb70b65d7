use Rattle.std.proofs.Common.{◌≡◌, ℕ, ◌+◌, ◌*◌, true, length}
use Rattle.edge_book.specs.Leaving.{targets_of}
use Rattle.row_share.specs.share_laws.Orders.{IsSearch, is_seen, unseen}
use Rattle.row_share.proofs.row_classes.order.visit.Given as goal

abbrev pub invariant-loop-row : goal.invariant-loop-row
invariant-loop-row l = record {
  search : IsSearch l.system (λ row. targets_of row l.copies) l.order.items l.path.items l.seen;
  root : is_seen l.seen l.root ≡ true;
  kept : (other : ℕ) → is_seen l.fn.seen other ≡ true → is_seen l.seen other ≡ true;
}

abbrev pub decreases-loop-row : goal.decreases-loop-row
decreases-loop-row l = 2 * unseen l.seen + length l.path.items
