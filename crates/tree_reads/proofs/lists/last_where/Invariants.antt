use Rattle.std.proofs.Common.{◌≡◌, drop}
use Rattle.c_senses.specs.Tree.{last_where, last_or}
use Rattle.tree_reads.specs.Sources.{source_read, test_seen}
use Rattle.tree_reads.proofs.lists.last_where.Given as goal

abbrev pub invariant-loop-node : goal.invariant-loop-node
invariant-loop-node l = last_or (last_where (test_seen (source_read l.syntax) l.test) (drop l.node-index l.list)) l.found ≡ last_where (test_seen (source_read l.syntax) l.test) l.list
