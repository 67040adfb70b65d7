use Rattle.std.proofs.Common.{arith, rules, ℕ, ap, ◌+◌, ◌≡◌, ◌∙◌, length, sum, take}
use Rattle.core_tree.specs.Seen.{core_of}
use Rattle.row_numbers.specs.Setting.{width, widths}
use Rattle.row_covers.proofs.Sums.{sum_more, type_known}
use Rattle.row_covers.proofs.values.start_row.Goals as goal

pub loop-m-preserved : goal.loop-m-preserved
loop-m-preserved c =
    let u = core_of c.args.scene.now.trees in
    let nodes = c.args.scene.now.trees.nodes.now in
    let more = sum_more (width u) nodes c.loop-m.m c.index-scene-m.result (omega (arith, c.requires.node, c.loop-m-test.true)) in
    let here = ap (width u) c.index-scene-m.is in
    let wide = c.width.ensures.width in
    let within = c.width.ensures.within in
    let wider = c.from-row-in-loop-m.ensures in
    let value = c.loop-m.invariant.value in
    let small = c.loop-m.invariant.small in
    record {
      value = omega (arith, more, here, wide, wider, value);
      small = omega (arith, wider, within, small);
    }

pub returns-clause-value : goal.returns-clause-value
returns-clause-value c =
    let same : c.loop-m.m ≡ c.args.n = search rules in
    c.loop-m.invariant.value ∙ ap (λ (k : ℕ). length c.args.scene.now.space.now + sum (take k (widths (core_of c.args.scene.now.trees)))) same

pub returns-clause-small : goal.returns-clause-small
returns-clause-small c = omega (arith, c.loop-m.invariant.small, c.loop-m.auto.m-end)
