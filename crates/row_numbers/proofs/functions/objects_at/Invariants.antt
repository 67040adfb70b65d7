use Rattle.std.proofs.Common.{◌≡◌, take}
use Rattle.obj_space.specs.View.{view_of}
use Rattle.row_numbers.specs.Functions.{objects_at}
use Rattle.row_numbers.proofs.functions.objects_at.Given as goal

abbrev pub invariant-loop-key : goal.invariant-loop-key
invariant-loop-key l = l.at.items ≡ objects_at (view_of l.space) (take l.key-index l.keys) (view_of l.space).count
