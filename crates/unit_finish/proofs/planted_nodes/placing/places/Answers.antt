use Rattle.std.proofs.Common.{arith, ◌≡◌, ◌+◌, ◌<◌, ℕ, List, Option, Some, length, slice_get, refl, sym, subst}
use Rattle.std.proofs.lemmas.Option.{slice_get_read}
use Rattle.unit_finish.specs.planted_nodes.Placed.{ArePlaced}
use Rattle.unit_finish.proofs.planted_nodes.Bodies.{one_placed}
use Rattle.unit_finish.proofs.planted_nodes.placing.places.Goals as goal

pub loop-item-preserved : goal.loop-item-preserved
loop-item-preserved c =
    let nodes = c.args.nodes.now in
    let list = c.args.list.now in
    let n = c.loop-item.item-index in
    let x = c.item-item.result in
    let plan = c.loop-item.plan in
    let new = c.place.new.plan in
    let lt : n < length list = omega (arith, c.loop-item-test.true) in
    let there : slice_get list n ≡ Some x = slice_get_read list (length list) n x refl lt c.item-item.is in
    let one = one_placed nodes list n c.loop-item.bodies.items plan.origins.items plan.starts.items new.origins.items new.starts.items plan.met.items new.met.items x c.in_ok-at.at there c.loop-item.invariant.whole c.loop-item.invariant.placed c.in_ok-at.ensures in
    record {
      whole = c.in_ok-at.ensures.whole;
      placed = subst (λ (l : List (Option ℕ)). ArePlaced nodes list (n + 1) l new.origins.items new.starts.items) (sym c.in_ok-push.ensures.items) one;
    }

pub returns-clause-placed : goal.returns-clause-placed
returns-clause-placed c =
    let all : c.loop-item.item-index ≡ length c.args.list.now = omega (arith, c.loop-item-test.false, c.loop-item.auto.item-index-end) in
    subst (λ (n : ℕ). ArePlaced c.args.nodes.now c.args.list.now n c.loop-item.bodies.items c.loop-item.plan.origins.items c.loop-item.plan.starts.items) all c.loop-item.invariant.placed
