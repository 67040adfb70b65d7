-- One item more is counted.
use Rattle.std.proofs.Common.{arith, ◌≡◌, ◌+◌, ◌<◌, length, drop, sym, ap, ◌∙◌}
use Rattle.std.specs.Option.{option_copied}
use Rattle.ref_blocks.specs.Jumps.{items_to}
use Rattle.ref_blocks.proofs.Counted.{counted, counted_on, nothing}
use Rattle.ref_blocks.proofs.jumps.items_to.Goals as goal
use Rattle.ref_blocks.proofs.jumps.items_to.Goals.{in-Some+else-is_wait_of, in_default}

pub returns-then-is_wait_of : goal.returns-then-is_wait_of
returns-then-is_wait_of c =
    counted c.args.a c.args.items.now c.loop-i.i c.loop-i.count c.in-Some.item.now (sym c.in-Some.ensures) c.loop-i.invariant.left
    (sym c.is_wait_of.ensures ∙ c.if-is_wait_of.true)

pub loop-i-preserved : goal.loop-i-preserved
loop-i-preserved c =
    let items = c.args.items.now in
    let i = c.loop-i.i in
    let within : i < length items = omega (arith, c.loop-i-test.true, c.len-i-end.ensures) in
    let left : c.loop-i.count + 1 + items_to c.args.a (drop (i + 1) items) ≡ items_to c.args.a items =
    elim c.match-from_top.branch [
      | in-Some+else-is_wait_of w ↦
          counted_on c.args.a items i c.loop-i.count w.in-Some.item.now (sym w.in-Some.ensures) c.loop-i.invariant.left
          (sym w.is_wait_of.ensures ∙ w.if-is_wait_of.false)
      | in_default w ↦ absurd (nothing items i within (sym c.from_top.ensures ∙ ap option_copied w.in_default.is))
    ] in
    record { left = left; bound = omega (arith, c.loop-i.invariant.bound) }
