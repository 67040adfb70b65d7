use Rattle.core_nodes.specs.Standing.{core_at}
use Rattle.c_types.specs.Table.{type_of}
use Rattle.c_operators.specs.c_members.Worlds.{part_of}
use Rattle.core_nodes.proofs.Failing.{made_same}
use Rattle.c_operators.proofs.Ways.{world_is, stepped_is}
use Rattle.c_operators.proofs.members.one_step.Goals as goal

pub returns-clause-made : goal.returns-clause-made
returns-clause-made c w k =
    let u = c.args.unit.now in
    let found = c.in-Some.ensures.member w (world_is w u k) in
    made_same c.reached.new.unit c.reached.result _ _
    (stepped_is w c.args.place c.args.at (core_at u c.args.node) c.args.k (type_of u.types c.type_of_node-whole.result.0) (part_of u.types c.in-Some.member.now) c.type_of_node-whole.ensures.tree found)
    c.reached.ensures.made
