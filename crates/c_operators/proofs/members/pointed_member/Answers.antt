use Rattle.std.proofs.Common.{sym, ◌∙◌}
use Rattle.core_nodes.specs.Standing.{core_at}
use Rattle.c_types.specs.Table.{type_of}
use Rattle.core_nodes.proofs.Failing.{made_same, fits_core}
use Rattle.core_nodes.proofs.Growing.{knows_on}
use Rattle.c_operators.proofs.Ways.{world_is, pointed_is}
use Rattle.c_operators.proofs.members.pointed_member.Goals as goal

pub returns-clause-made : goal.returns-clause-made
returns-clause-made c w k =
    let u = c.args.unit.now in
    let u1 = c.push_over.new.unit in
    let to = type_of u.types c.args.to.0 in
    made_same c.member_row.new.unit c.member_row.result _ _
    (pointed_is w c.args.place c.args.at c.args.name.now (core_at u c.args.v) (core_at u1 c.in_ok-target.target) to (sym c.if-not-has_members.false ∙ c.has_members.ensures w (world_is w u k)) (fits_core u1 c.in_ok-target.target _ c.in_ok-target.ensures.made))
    (c.member_row.ensures.made w (knows_on w u u1 c.in_ok-target.ensures.builds k))
