use Rattle.std.proofs.Common.{arith}
use Rattle.unit_finish.proofs.planted_nodes.Positions.{written}
use Rattle.unit_finish.proofs.planted_nodes.growing.note.Goals as goal

pub returns-then-child-len : goal.returns-then-child-len
returns-then-child-len c = written c.args.met.now.items c.args.child c.args.at (omega (arith, c.if-child-len.true, c.len.ensures))
