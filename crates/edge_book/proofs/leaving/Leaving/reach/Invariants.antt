use Rattle.std.proofs.Common.{◌≡◌, ℕ, length}
use Rattle.edge_book.specs.Leaving.{listed}
use Rattle.edge_book.proofs.leaving.Leaving.reach.Given as goal

abbrev pub invariant-loop : goal.invariant-loop
invariant-loop l = record {
  same : (other : ℕ) → listed l.self.lists.items other ≡ listed l.initial.self.lists.items other;
  grown : length l.self.lists.items ≡ l.counter;
}
