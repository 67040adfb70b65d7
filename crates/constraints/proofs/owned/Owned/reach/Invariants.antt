use Rattle.std.proofs.Common.{◌≡◌, ℕ, length}
use Rattle.constraints.specs.Owned.{listed}
use Rattle.constraints.proofs.owned.Owned.reach.Given as goal

abbrev pub invariant-loop : goal.invariant-loop
invariant-loop l = record {
  same : (other : ℕ) → listed l.self.lists.items other ≡ listed l.initial.self.lists.items other;
  grown : length l.self.lists.items ≡ l.counter;
}
