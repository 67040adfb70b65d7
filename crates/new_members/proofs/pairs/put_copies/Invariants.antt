use Rattle.std.proofs.Common.{ℕ}
use Rattle.new_members.specs.News.{FromEach}
use Rattle.edge_book.specs.Edges.{Gains}
use Rattle.new_members.proofs.Through.{Through}
use Rattle.new_members.proofs.pairs.put_copies.Given as goal

abbrev pub invariant-loop-to : goal.invariant-loop-to
invariant-loop-to l = Gains l.initial.pairs.items l.pairs.items (Through l.tos (λ (to : ℕ). FromEach l.system to l.froms) l.to-index)
