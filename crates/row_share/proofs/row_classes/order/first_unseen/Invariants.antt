use Rattle.std.proofs.Common.{◌≡◌, ℕ, ◌<◌, ◌≤◌, true, get_or}
use Rattle.row_share.specs.share_laws.Orders.{is_seen}
use Rattle.row_share.proofs.row_classes.order.first_unseen.Given as goal

abbrev pub invariant-loop-i : goal.invariant-loop-i
invariant-loop-i l = (k : ℕ) → l.from ≤ k → k < l.i → is_seen l.seen (get_or l.rows k 0) ≡ true
