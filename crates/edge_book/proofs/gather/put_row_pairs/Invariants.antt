use Rattle.std.proofs.Common.{◌≡◌, Some, slice_get}
use Rattle.edge_book.specs.Edges.{Gains}
use Rattle.edge_book.proofs.Gaining.{Below}
use Rattle.edge_book.proofs.gather.put_row_pairs.Given as goal

-- the pairs of the places so far
abbrev pub invariant-loop-i : goal.invariant-loop-i
invariant-loop-i l = Gains l.initial.pairs.items l.pairs.items (Below l.i (λ k a b. (slice_get l.from k ≡ Some a) × (slice_get l.to k ≡ Some b)))
