use Rattle.std.proofs.Common.{◌≡◌, ℕ}
use Rattle.new_members.specs.News.{Takes}
use Rattle.new_members.proofs.Through.{Through}
use Rattle.new_members.proofs.books.add_all.Given as goal

abbrev pub invariant-loop-from : goal.invariant-loop-from
invariant-loop-from l = Takes l.initial.book l.book (Through l.pairs (λ (pair : ℕ × ℕ) (a b : ℕ). (a ≡ pair.0) × (b ≡ pair.1)) l.from-index)
