-- It stands in the first or in the second list.
use Rattle.std.proofs.Common.{arith, ◌-◌, ◌<◌, ◌≤◌, List, length, slice_get, sym, ap, ◌∙◌}
use Rattle.ref_cells.specs.declared.instance.Instance.{Instance}
use Rattle.ref_blocks.proofs.Ended.{slice_get_front, slice_get_back}
use Rattle.ref_blocks.proofs.blocks.instance_at.Goals as goal

pub returns-then-at-count : goal.returns-then-at-count
returns-then-at-count c =
    let l : c.args.i < length c.args.memory.now = omega (arith, ap length c.instances-count.ensures) in
    c.get_at.ensures ∙ ap (λ (w : List Instance). slice_get w c.args.i) c.instances.ensures ∙ sym (slice_get_front c.args.memory.now c.args.fresh.now c.args.i l)

pub returns-else-at-count : goal.returns-else-at-count
returns-else-at-count c =
    let l : length c.args.memory.now ≤ c.args.i = omega (arith, ap length c.instances-count.ensures) in
    c.get_at-else-at-count.ensures ∙ ap (λ (w : List Instance). slice_get c.args.fresh.now (c.args.i - length w)) c.instances-count.ensures ∙ sym (slice_get_back c.args.memory.now c.args.fresh.now c.args.i l)
