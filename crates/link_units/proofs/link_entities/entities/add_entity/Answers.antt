use Rattle.std.proofs.Common.{◌≡◌, ◌+◌, get_or, sym, ap, subst, ◌∙◌, arith}
use Rattle.link_model.specs.Units.{item}
use Rattle.link_names.specs.Scene.{joined_of}
use Rattle.link_units.specs.link_entities.Row.{AreLinked, place_of}
use Rattle.link_units.proofs.link_entities.Linking.{place_at, start_of, entity_room}
use Rattle.link_units.proofs.link_entities.Rowing.{with_leader, without_leader}
use Rattle.link_units.proofs.link_entities.entities.add_entity.Goals as goal

pub overflow_add-place : goal.overflow_add-place
overflow_add-place c =
    let k = c.args.linking.now in
    let it = item c.args.unit c.args.number in
    let p = place_at k.scene.now.units.now k.numbers.now it c.args.entity.now c.requires.linking.numbers c.requires.there in
    let start = start_of k.numbers.now.starts.items c.args.unit c.index-start.result.now c.index-start.result.now p.start_within c.index-start.ensures in
    let r = entity_room k.scene.now.units.now k.numbers.now it c.args.entity.now c.requires.linking.numbers c.requires.there in
    let end = start_of k.numbers.now.starts.items (c.args.unit + 1) c.index-end.result.now c.index-end.result.now r.end_within c.index-end.ensures in
    let less = r.less in
    omega arith

pub index-requires : goal.index-requires
index-requires c =
    let k = c.args.linking.now in
    let p = place_at k.scene.now.units.now k.numbers.now (item c.args.unit c.args.number) c.args.entity.now c.requires.linking.numbers c.requires.there in
    let start = start_of k.numbers.now.starts.items c.args.unit c.index-start.result.now c.index-start.result.now p.start_within c.index-start.ensures in
    let within = p.within in
    omega arith

pub returns-in_ok-push : goal.returns-in_ok-push
returns-in_ok-push c =
    let k = c.args.linking.now in
    let n = k.numbers.now in
    let it = item c.args.unit c.args.number in
    let p = place_at k.scene.now.units.now n it c.args.entity.now c.requires.linking.numbers c.requires.there in
    let start = start_of n.starts.items c.args.unit c.index-start.result.now c.index-start.result.now p.start_within c.index-start.ensures in
    let place : c.index-start.result.now + c.args.number ≡ place_of n it = ap (λ m. m + c.args.number) start in
    let read = start_of n.leaders.items (c.index-start.result.now + c.args.number) c.index.result.now c.index.result.now (let w = p.within in omega arith) c.index.ensures in
    let leads : get_or n.leaders.items (place_of n it) 0 ≡ place_of n it = ap (λ i. get_or n.leaders.items i 0) (sym place) ∙ (sym read ∙ (c.if-index-place.true ∙ place)) in
    subst (AreLinked (joined_of k.scene.now) k.scene.now.declared.now n (place_of n it + 1)) (sym c.in_ok-push.ensures.items)
    (with_leader (joined_of k.scene.now) k.scene.now.declared.now n it c.args.entity.now c.in_ok-linked.linked c.args.list.now.items c.requires.linking.numbers c.requires.there leads c.in_ok-linked.ensures c.requires.linked)

pub returns-else-index-place : goal.returns-else-index-place
returns-else-index-place c =
    let k = c.args.linking.now in
    let n = k.numbers.now in
    let it = item c.args.unit c.args.number in
    let p = place_at k.scene.now.units.now n it c.args.entity.now c.requires.linking.numbers c.requires.there in
    let start = start_of n.starts.items c.args.unit c.index-start.result.now c.index-start.result.now p.start_within c.index-start.ensures in
    let place : c.index-start.result.now + c.args.number ≡ place_of n it = ap (λ m. m + c.args.number) start in
    let read = start_of n.leaders.items (c.index-start.result.now + c.args.number) c.index.result.now c.index.result.now (let w = p.within in omega arith) c.index.ensures in
    let other : get_or n.leaders.items (place_of n it) 0 ≡ place_of n it → ⊥ = λ e. c.if-index-place.false (read ∙ (ap (λ i. get_or n.leaders.items i 0) place ∙ (e ∙ sym place))) in
    without_leader (joined_of k.scene.now) k.scene.now.declared.now n it c.args.list.now.items other c.requires.linked
