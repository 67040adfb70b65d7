use Rattle.std.proofs.Common.{rules, arith, ◌≡◌, ◌-◌, ◌<◌, length, ap}
use Rattle.std.proofs.lemmas.List.{length-reverse}
use Rattle.ref_state.proofs.Tops.{top_set}
use Rattle.ref_state.proofs.items.Items.replace_top.Goals as goal

pub returns : goal.returns
returns c =
    let xs = c.self.inside.list.items in
    let count : c.len-at.result ≡ length xs = search rules in
    let within : 0 < length xs = omega (arith, c.requires, ap length c.self.view_is, length-reverse xs) in
    top_set xs (c.len-at.result - 1) c.args.item c.args.self.now c.self.view_is within (omega (arith, count))
