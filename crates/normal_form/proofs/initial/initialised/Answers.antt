use Rattle.std.proofs.Common.{arith, ap, ◌∙◌, ◌++◌, ◌<◌, length, List}
use Rattle.normal_form.specs.declared.normal.Assignment.{Assignment}
use Rattle.row_numbers.specs.Frame.{setting_in}
use Rattle.obj_space.specs.View.{view_of}
use Rattle.core_tree.specs.Typed.{trees_in}
use Rattle.normal_form.proofs.InitialLemmas.{items_step, items_all, least_of}
use Rattle.normal_form.proofs.SpotLemmas.{spot_is}
use Rattle.normal_form.proofs.initial.initialised.Goals as goal

pub item-requires-clause-spotted : goal.item-requires-clause-spotted
item-requires-clause-spotted c =
    let path_in : c.loop-i.i < length c.args.paths.now = omega (arith, c.min-count.ensures) in
    let value_in : c.loop-i.i < length c.args.values.now = omega (arith, c.min-count.ensures) in
    spot_is (trees_in c.args.frame.now.program.now) (view_of c.args.frame.now.space.now) c.args.e c.args.paths.now c.args.values.now c.loop-i.i c.as_slice.result.now c.index-paths-i.result 0 path_in value_in (c.as_slice.ensures ∙ c.index-paths-i.is) c.requires.spotted

pub loop-i-preserved : goal.loop-i-preserved
loop-i-preserved c =
    let w = setting_in c.args.frame.now in
    let path_in : c.loop-i.i < length c.args.paths.now = omega (arith, c.min-count.ensures) in
    let value_in : c.loop-i.i < length c.args.values.now = omega (arith, c.min-count.ensures) in
    items_step w c.args.e c.args.paths.now c.args.values.now c.loop-i.i c.args.out.now c.loop-i.out c.item.new.out c.as_slice.result.now c.index-paths-i.result 0 path_in value_in c.loop-i.invariant (c.as_slice.ensures ∙ c.index-paths-i.is) c.in_ok-item.ensures

pub returns : goal.returns
returns c =
    c.loop-i.invariant ∙ ap (λ (xs : List Assignment). c.args.out.now ++ xs) (items_all (setting_in c.args.frame.now) c.args.e c.args.paths.now c.args.values.now c.loop-i.i (least_of _ _ _ (omega (arith, c.min-count.ensures))))
