use Rattle.std.proofs.Common.{◌≡◌, Some, slice_get}
use Rattle.sol_model.specs.Places.{deep}
use Rattle.edge_book.specs.Edges.{Gains}
use Rattle.edge_book.proofs.Gaining.{Below}
use Rattle.edge_book.proofs.gather.put_copy.Given as goal

-- the pairs so far
abbrev pub invariant-loop-i : goal.invariant-loop-i
invariant-loop-i l = Gains l.initial.pairs.items l.pairs.items (Below l.i (λ k a b. slice_get (deep l.system l.to l.from) k ≡ Some (b, a)))
