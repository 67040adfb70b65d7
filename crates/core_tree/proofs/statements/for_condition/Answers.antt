use Rattle.std.proofs.lemmas.List.{reverse-reverse}
use Rattle.core_tree.specs.Seen.{core_of}
use Rattle.core_tree.proofs.Turned.{for_last}
use Rattle.core_tree.proofs.statements.for_condition.Goals as goal

pub returns-then-not-condition : goal.returns-then-not-condition
returns-then-not-condition c = rw c.if-not-condition.true (simp reverse-reverse c.for_first.ensures)

pub returns-then-is_condition : goal.returns-then-is_condition
returns-then-is_condition c =
    for_last (core_of c.args.trees.now) c.args.entities.now c.args.condition c.args.children.now _ c.if-not-condition.false c.in-len1-up.len_at_least (c.is_condition.ensures.0 c.if-is_condition.true) c.for_first-then-is_condition.result c.for_first-then-is_condition.ensures
