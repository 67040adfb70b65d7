use Rattle.std.proofs.Common.{◌≡◌, ℕ, List, Some}
use Rattle.sol_model.specs.Rules.{first_row}
use Rattle.edge_book.specs.Edges.{Gains}
use Rattle.new_members.proofs.Through.{Through}
use Rattle.new_members.proofs.reading.put_call_readers.Given as goal

abbrev pub invariant-loop-i : goal.invariant-loop-i
invariant-loop-i l = Gains l.initial.readers l.readers (Through l.site.arguments (λ (rows : List ℕ) (a b : ℕ). (first_row rows ≡ Some a) × (b ≡ l.number)) l.i)
