use Rattle.c_inits.proofs.Tags.{complete_members}
use Rattle.c_inits.proofs.cursor.member_of.Goals as goal

pub member_from-requires : goal.member_from-requires
member_from-requires c = record { complete = complete_members c.args.types.now c.type_count-count.ensures.made c.args.tag c.in-Some.members.now c.in-Some.ensures.list }
