use Rattle.std.proofs.Common.{rules, arith, ◌≡◌, ◌-◌, ◌<◌, ◌≤◌, length, drop, ap, ◌∙◌}
use Rattle.std.proofs.lemmas.List.{length-reverse}
use Rattle.ref_state.specs.Items.{filled, below_filled}
use Rattle.ref_state.proofs.Tops.{second_set, filled_is, filled_short}
use Rattle.ref_state.proofs.items.Items.fill.Goals as goal
use Rattle.ref_state.proofs.items.Items.fill.Goals.{then-len-gt1, else-len-gt1}

pub returns : goal.returns
returns c =
    let xs = c.self.inside.list.items in
    let first : c.len.result ≡ length xs = search rules in
    let made : drop 1 c.if-len-gt1.self ≡ below_filled c.args.value c.args.self.now =
    elim c.if-len-gt1.branch [
      | then-len-gt1 w ↦
          let count : w.len-at.result ≡ length xs = search rules in
          let within : 1 < length xs = omega (arith, w.if-len-gt1.true, first) in
          ap (drop 1) (w.self-is
          ∙ second_set xs (w.len-at.result - 2) w.fill.new.item w.index_mut.result.now c.args.self.now (filled c.args.value) c.self.view_is within (omega (arith, count))
          (w.fill.ensures ∙ ap (filled c.args.value) w.index_mut.ensures.value))
          ∙ filled_is c.args.value c.args.self.now
      | else-len-gt1 w ↦
          let few : length c.args.self.now ≤ 1 = omega (arith, w.if-len-gt1.false, first, ap length c.self.view_is, length-reverse xs) in
          ap (drop 1) w.self-is ∙ filled_short c.args.value c.args.self.now few
    ] in
    c.pop.ensures ∙ made
