use Rattle.link_units.proofs.link_entities.Linking.{owner_there, body_there}
use Rattle.link_units.proofs.link_entities.entities.moved.Goals as goal

pub number_of-requires-clause-there : goal.number_of-requires-clause-there
number_of-requires-clause-there c =
    let units = c.args.linking.now.scene.now.units.now in
    owner_there units c.args.unit c.requires.there.0 c.in-Some.owner c.args.entity.now c.requires.linking.ranges c.requires.there.1 c.in-Some.is

pub node_of-requires-clause-there : goal.node_of-requires-clause-there
node_of-requires-clause-there c =
    let units = c.args.linking.now.scene.now.units.now in
    body_there units c.args.unit c.requires.there.0 c.in-Some-body.body c.args.entity.now c.requires.linking.ranges c.requires.there.1 c.in-Some-body.is
