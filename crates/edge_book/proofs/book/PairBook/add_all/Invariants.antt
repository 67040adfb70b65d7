use Rattle.std.proofs.Common.{◌≡◌, ◌+◌, length, take}
use Rattle.edge_book.specs.Edges.{with_pairs}
use Rattle.edge_book.proofs.book.PairBook.add_all.Given as goal

-- the first pairs were taken in
abbrev pub invariant-loop-i : goal.invariant-loop-i
invariant-loop-i l = record {
  book : l.self ≡ with_pairs l.initial.self (take l.i l.pairs);
  counted : length l.self ≡ length l.initial.self + l.new;
}
