use Rattle.std.proofs.Common.{arith, sym}
use Rattle.c_types.specs.Table.{type_of}
use Rattle.normal_form.proofs.MemberNodes.{far_member}
use Rattle.constraints.proofs.types.member_node.Goals as goal

pub returns-then-k : goal.returns-then-k
returns-then-k c = sym (far_member c.args.types.now c.requires.made (type_of c.args.types.now c.args.id.0) c.args.k (omega arith))
