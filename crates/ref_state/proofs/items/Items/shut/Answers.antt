use Rattle.std.proofs.Common.{rules, arith, ◌≡◌, ◌-◌, ◌<◌, length, ap, ◌∙◌}
use Rattle.ref_state.specs.Items.{shut}
use Rattle.ref_state.proofs.Tops.{second_set, shut_is}
use Rattle.ref_state.proofs.items.Items.shut.Goals as goal

pub returns-then-len-gt1 : goal.returns-then-len-gt1
returns-then-len-gt1 c =
    let xs = c.self.inside.list.items in
    let count : c.len-at.result ≡ length xs = search rules in
    let first : c.len.result ≡ length xs = search rules in
    let within : 1 < length xs = omega (arith, c.if-len-gt1.true, first) in
    second_set xs (c.len-at.result - 2) c.shut.new.item c.index_mut.result.now c.args.self.now shut c.self.view_is within (omega (arith, count))
    (c.shut.ensures ∙ ap shut c.index_mut.ensures.value)
    ∙ shut_is c.args.self.now
