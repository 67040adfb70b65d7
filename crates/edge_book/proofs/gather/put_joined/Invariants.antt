use Rattle.std.proofs.Common.{◌≡◌, ℕ, List, Some, slice_get, Contains, zip}
use Rattle.edge_book.specs.Edges.{Gains}
use Rattle.edge_book.proofs.Gaining.{Below}
use Rattle.edge_book.proofs.gather.put_joined.Given as goal

-- the pairs of the lists so far
abbrev pub invariant-loop-i : goal.invariant-loop-i
invariant-loop-i l = Gains l.initial.pairs.items l.pairs.items (Below l.i (λ k a b. (from : List ℕ) × (to : List ℕ) × (slice_get l.from k ≡ Some from) × (slice_get l.to k ≡ Some to) × Contains (zip from to) (a, b)))
