use Rattle.std.proofs.Common.{rules, arith, ◌≡◌, ◌-◌, ◌<◌, ◌≤◌, length, drop, ap, ◌∙◌}
use Rattle.std.proofs.lemmas.List.{length-reverse}
use Rattle.ref_state.specs.Items.{given, settled}
use Rattle.ref_state.proofs.Tops.{second_set, settled_is, settled_short}
use Rattle.ref_state.proofs.items.Items.settle.Goals as goal
use Rattle.ref_state.proofs.items.Items.settle.Goals.{then-len-gt1+in_ok-give, else-len-gt1}

pub returns-clause-ok : goal.returns-clause-ok
returns-clause-ok c =
    let xs = c.self.inside.list.items in
    let first : c.len.result ≡ length xs = search rules in
    let made : drop 1 c.if-len-gt1.self ≡ settled c.args.n c.args.value c.args.self.now =
    elim c.if-len-gt1.branch [
      | then-len-gt1+in_ok-give w ↦
          let count : w.len-at.result ≡ length xs = search rules in
          let within : 1 < length xs = omega (arith, w.if-len-gt1.true, first) in
          ap (drop 1) (w.self-is
          ∙ second_set xs (w.len-at.result - 2) w.give.new.item w.index_mut.result.now c.args.self.now (given c.args.n c.args.value) c.self.view_is within (omega (arith, count))
          (w.in_ok-give.ensures.ok ∙ ap (given c.args.n c.args.value) w.index_mut.ensures.value))
          ∙ settled_is c.args.n c.args.value c.args.self.now
      | else-len-gt1 w ↦
          let few : length c.args.self.now ≤ 1 = omega (arith, w.if-len-gt1.false, first, ap length c.self.view_is, length-reverse xs) in
          ap (drop 1) w.self-is ∙ settled_short c.args.n c.args.value c.args.self.now few
    ] in
    c.pop.ensures ∙ made
