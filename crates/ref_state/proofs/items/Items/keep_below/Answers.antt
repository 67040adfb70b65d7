use Rattle.std.proofs.Common.{rules, arith, ◌≡◌, ◌-◌, ◌<◌, length, ap, ◌∙◌}
use Rattle.std.proofs.lemmas.List.{length-reverse}
use Rattle.ref_state.specs.Items.{with_left}
use Rattle.ref_state.proofs.Tops.{second_set}
use Rattle.ref_state.proofs.items.Items.keep_below.Goals as goal

pub returns : goal.returns
returns c =
    let xs = c.self.inside.list.items in
    let count : c.len-at.result ≡ length xs = search rules in
    let within : 1 < length xs = omega (arith, c.requires, ap length c.self.view_is, length-reverse xs) in
    second_set xs (c.len-at.result - 2) c.keep.new.item c.index_mut.result.now c.args.self.now (with_left c.args.left) c.self.view_is within (omega (arith, count))
    (c.keep.ensures ∙ ap (with_left c.args.left) c.index_mut.ensures.value)
