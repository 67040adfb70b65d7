use Rattle.std.proofs.Common.{ap, Bool, cond, Some, None}
use Rattle.c_senses.specs.Tree.{last_or}
use Rattle.c_structures.proofs.places.later.Goals as goal

pub returns-then-declares_members : goal.returns-then-declares_members
returns-then-declares_members c = λ w sense.
    ap (λ (b : Bool). last_or (cond b (Some c.args.node) None) c.args.before) (c.if-declares_members.ensures w sense)

pub returns-else-declares_members : goal.returns-else-declares_members
returns-else-declares_members c = λ w sense.
    ap (λ (b : Bool). last_or (cond b (Some c.args.node) None) c.args.before) (c.if-declares_members.ensures w sense)
