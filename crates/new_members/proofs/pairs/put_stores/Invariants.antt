use Rattle.std.proofs.Common.{ℕ, ◌≡◌, Some}
use Rattle.edge_book.specs.Edges.{Gains}
use Rattle.new_members.proofs.Through.{Through}
use Rattle.new_members.proofs.pairs.put_stores.Given as goal

abbrev pub invariant-loop-to : goal.invariant-loop-to
invariant-loop-to l = Gains l.initial.pairs.items l.pairs.items (Through l.tos (λ (to a b : ℕ). (l.from ≡ Some a) × (Some to ≡ Some b)) l.to-index)
