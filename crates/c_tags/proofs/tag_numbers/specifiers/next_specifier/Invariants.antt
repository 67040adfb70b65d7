use Rattle.c_senses.specs.Tree.{Source}
use Rattle.tree_reads.specs.node_roles.Roles.{AreRoles}
use Rattle.c_tags.specs.tag_numbers.Numbers.{NoSpecifier}
use Rattle.c_tags.proofs.tag_numbers.specifiers.next_specifier.Given as goal

abbrev pub invariant-loop-at : goal.invariant-loop-at
invariant-loop-at l = (s : Source) → AreRoles s l.roles → NoSpecifier s l.from l.at
