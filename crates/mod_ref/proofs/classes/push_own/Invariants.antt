use Rattle.std.proofs.Common.{◌≡◌, ◌++◌, map}
use Rattle.std.specs.List.{range_with_len}
use Rattle.mod_ref.specs.Ways.{own_copy}
use Rattle.mod_ref.proofs.classes.push_own.Given as goal

-- those of the rows so far
abbrev pub invariant-loop-row : goal.invariant-loop-row
invariant-loop-row l = l.list ≡ l.fn.list ++ map own_copy (range_with_len 0 l.row)
