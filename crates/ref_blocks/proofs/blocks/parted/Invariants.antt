-- The instances so far stay or end.
use Rattle.std.proofs.Common.{◌≡◌, ◌++◌, not, take, slice_get}
use Rattle.std.specs.List.{filter}
use Rattle.ref_blocks.specs.Blocks.{is_of}
use Rattle.ref_blocks.proofs.blocks.parted.Given as goal

abbrev pub invariant-loop-i : goal.invariant-loop-i
invariant-loop-i l = record {
  own : l.kept ≡ filter (λ i. not (is_of l.objects (slice_get (l.memory ++ l.fresh) i))) (take l.i-index l.own);
  ended : l.ended ≡ l.fn.ended ++ filter (λ i. is_of l.objects (slice_get (l.memory ++ l.fresh) i)) (take l.i-index l.own);
}
