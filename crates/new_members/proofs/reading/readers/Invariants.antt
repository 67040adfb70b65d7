use Rattle.std.proofs.Common.{◌↔◌, ℕ, ◌<◌, Contains}
use Rattle.new_members.specs.News.{IsReader}
use Rattle.new_members.proofs.reading.readers.Given as goal

abbrev pub invariant-loop-number : goal.invariant-loop-number
invariant-loop-number l = (row number : ℕ) → (Contains l.readers (row, number) ↔ (IsReader l.system row number × (number < l.number)))
