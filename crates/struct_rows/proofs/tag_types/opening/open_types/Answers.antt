use Rattle.std.proofs.Common.{arith}
use Rattle.struct_rows.proofs.tag_types.Begun.{opened_types, opened_once}
use Rattle.struct_rows.proofs.tag_types.opening.open_types.Goals as goal

pub returns-clause-types : goal.returns-clause-types
returns-clause-types c = λ uses tags.
    opened_types c.args.numbered.now uses c.loop-tag.types tags c.loop-tag.invariant.opened (omega arith)

pub returns-clause-once : goal.returns-clause-once
returns-clause-once c = opened_once c.args.numbered.now c.loop-tag.types c.loop-tag.invariant.opened
