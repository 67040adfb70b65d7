use Rattle.std.proofs.Common.{◌≡◌, ℕ, ◌+◌, ◌<◌, ◌≤◌, [], length, get_or}
use Rattle.row_share.specs.share_laws.Gathered.{ArePartly, HasClass}
use Rattle.row_share.proofs.row_classes.gather.classify_all.Given as goal

abbrev pub invariant-loop-done : goal.invariant-loop-done
invariant-loop-done l = record {
  partly : ArePartly l.system l.classes;
  after : (i : ℕ) → i < length l.order → length l.order ≤ i + l.done → HasClass l.classes (get_or l.order i 0);
  empty : l.waiting.items ≡ [];
}
