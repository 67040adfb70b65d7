use Rattle.std.proofs.Common.{rules, arith, ◌≡◌, ◌-◌, ◌<◌, length, ap, ◌∙◌}
use Rattle.ref_state.specs.Items.{given}
use Rattle.ref_state.specs.Values.{no_value}
use Rattle.ref_state.proofs.Tops.{second_set, opened_is}
use Rattle.ref_state.proofs.items.Items.open.Goals as goal

pub returns-in_ok-open-clause-ok : goal.returns-in_ok-open-clause-ok
returns-in_ok-open-clause-ok c =
    let xs = c.self.inside.list.items in
    let count : c.len-at.result ≡ length xs = search rules in
    let first : c.len.result ≡ length xs = search rules in
    let within : 1 < length xs = omega (arith, c.if-len-gt1.true, first) in
    second_set xs (c.len-at.result - 2) c.open.new.item c.index_mut.result.now c.args.self.now (given c.args.n no_value) c.self.view_is within (omega (arith, count))
    (c.in_ok-open.ensures.ok ∙ ap (given c.args.n no_value) c.index_mut.ensures.value)
    ∙ opened_is c.args.n c.args.self.now
