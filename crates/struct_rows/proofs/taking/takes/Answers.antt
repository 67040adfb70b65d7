use Rattle.std.proofs.Common.{sym, ◌∙◌}
use Rattle.struct_rows.proofs.Memberships.{takes_not}
use Rattle.struct_rows.proofs.taking.takes.Goals as goal

pub returns-then-not-takes_member : goal.returns-then-not-takes_member
returns-then-not-takes_member c =
    sym (takes_not c.args.types.now c.args.is_union c.args.members.now c.loop-i.i c.index-members-i.result c.loop-i-test.true c.index-members-i.is (sym c.if-not-takes_member.ensures))
    ∙ c.loop-i.invariant
