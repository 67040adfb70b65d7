use Rattle.std.proofs.Common.{◌≡◌, ◌<◌, ◌+◌, ℕ, get_or, ap, ◌∙◌, arith}
use Rattle.link_model.specs.Units.{item}
use Rattle.link_units.proofs.link_entities.Linking.{place_at, start_of}
use Rattle.link_units.proofs.link_entities.entities.number_of.Goals as goal

pub index-requires : goal.index-requires
index-requires c =
    let k = c.args.linking.now in
    let p = place_at k.scene.now.units.now k.numbers.now (item c.args.unit c.args.entity) c.requires.there.0 c.requires.linking.numbers c.requires.there.1 in
    let start = start_of k.numbers.now.starts.items c.args.unit c.index-start.result.now c.index-start.result.now p.start_within c.index-start.ensures in
    let within = p.number_within in
    omega arith

pub returns : goal.returns
returns c =
    let k = c.args.linking.now in
    let p = place_at k.scene.now.units.now k.numbers.now (item c.args.unit c.args.entity) c.requires.there.0 c.requires.linking.numbers c.requires.there.1 in
    let start = start_of k.numbers.now.starts.items c.args.unit c.index-start.result.now c.index-start.result.now p.start_within c.index-start.ensures in
    let place : c.index-start.result.now + c.args.entity ≡ get_or k.numbers.now.starts.items c.args.unit 0 + c.args.entity = ap (λ n. n + c.args.entity) start in
    let within : c.index-start.result.now + c.args.entity < Rattle.std.proofs.Common.length k.numbers.now.numbers.items = (let w = p.number_within in omega arith) in
    start_of k.numbers.now.numbers.items (c.index-start.result.now + c.args.entity) c.index.result.now c.index.result.now within c.index.ensures ∙ ap (λ i. get_or k.numbers.now.numbers.items i 0) place
