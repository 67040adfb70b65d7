use Rattle.std.proofs.Common.{length}
use Rattle.typing_cases.proofs.spelling.Builder.add.Goals as goal

pub add-requires-clause-types : goal.add-requires-clause-types
add-requires-clause-types c = (c.scalar.ensures (length c.args.self.now.table.terms) c.args.self.now.table.terms).0

pub add-requires-clause-tags : goal.add-requires-clause-tags
add-requires-clause-tags c = (c.scalar.ensures c.args.self.now.table.tags c.args.self.now.table.terms).1

pub add-requires-clause-sized : goal.add-requires-clause-sized
add-requires-clause-sized c = (c.scalar.ensures 0 c.args.self.now.table.terms).2

pub add-requires-clause-apart : goal.add-requires-clause-apart
add-requires-clause-apart c = (c.scalar.ensures 0 c.args.self.now.table.terms).3
