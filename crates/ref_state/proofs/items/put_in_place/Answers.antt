use Rattle.std.proofs.Common.{rules, arith, ◌≡◌, ℕ, ◌-◌, ◌≤◌, List, length, reverse, take, ap, ◌∙◌}
use Rattle.std.proofs.lemmas.List.{length-reverse}
use Rattle.ref_state.specs.declared.items.Item.{Item}
use Rattle.ref_state.proofs.Tops.{top_replaced}
use Rattle.ref_state.proofs.items.put_in_place.Goals as goal

pub returns-clause-items : goal.returns-clause-items
returns-clause-items c =
    let xs = c.items.inside.list.items in
    let ys = c.on.inside.list.items in
    let same = c.in_ok-reserve.ensures.items in
    let count : c.len-2.result ≡ length xs = search rules in
    let within : c.args.off ≤ length xs = omega (arith, c.requires, ap length c.items.view_is, length-reverse xs) in
    ap (λ (zs : List Item). reverse zs) c.in-Ok.ensures.items
    ∙ top_replaced xs ys c.truncate.new.self.items c.args.off c.args.items.now c.args.on c.items.view_is c.on.view_is within
    (c.truncate.ensures.items
    ∙ (ap (λ (n : ℕ). take (n - c.args.off) c.reserve.new.self.items) count
    ∙ ap (take (length xs - c.args.off)) same))
