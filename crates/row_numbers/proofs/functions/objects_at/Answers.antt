use Rattle.std.proofs.Common.{ap, ◌∙◌, length}
use Rattle.std.proofs.lemmas.List.FromFn.{length-map-range_with_len}
use Rattle.row_numbers.proofs.functions.objects_at.Goals as goal

pub put-requires : goal.put-requires
put-requires c = ap length c.loop-key.invariant ∙ length-map-range_with_len _ 0 _
