use Rattle.std.proofs.Common.{length, sym, subst}
use Rattle.c_types.specs.Table.{IsAfter}
use Rattle.carried_trees.proofs.carried_types.Numbers.{moved_after}
use Rattle.carried_trees.proofs.carried_types.types.add_carried.Goals as goal

pub add_term-requires-clause-types : goal.add_term-requires-clause-types
add_term-requires-clause-types c =
    let n = length c.args.types.now.terms in
    subst (IsAfter n) (sym c.in_ok-moved.ensures.moved) (moved_after c.args.ids.now n c.requires.ids c.args.term.now c.requires.after)
