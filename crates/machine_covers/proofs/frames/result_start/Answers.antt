use Rattle.std.proofs.Common.{arith, rules, ℕ, ◌+◌, ◌≡◌, ◌∙◌, Option, length, map, sum, take, slice_get, ap}
use Rattle.core_tree.specs.Seen.{core_of}
use Rattle.sol_model.specs.declared.system.Function.{Function}
use Rattle.machine_covers.specs.Frames.{width_of, width_at}
use Rattle.row_covers.proofs.Sums.{sum_at}
use Rattle.machine_covers.proofs.frames.result_start.Goals as goal

pub loop-i-preserved : goal.loop-i-preserved
loop-i-preserved c =
    let u = core_of c.args.scene.now.trees in
    let space = c.args.scene.now.space.now in
    let functions = c.args.scene.now.system.now.functions in
    let w = c.width_at.result in
    let more =
    sum_at (width_of u space) functions c.loop-i.i w (λ x e. c.width_at.ensures.width ∙ ap (λ (o : Option Function). width_at u space o) e) (λ e. c.width_at.ensures.width ∙ ap (λ (o : Option Function). width_at u space o) e) in
    let within = c.width_at.ensures.within in
    let wider = c.from-row.ensures in
    let value = c.loop-i.invariant.value in
    let small = c.loop-i.invariant.small in
    record { value = omega (arith, more, wider, value); small = omega (arith, wider, within, small) }
