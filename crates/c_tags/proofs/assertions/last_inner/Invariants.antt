use Rattle.std.proofs.Common.{◌≡◌, drop, not}
use Rattle.c_senses.specs.Tree.{last_where, last_or, is_leaf}
use Rattle.tree_reads.specs.Sources.{source_read}
use Rattle.c_tags.proofs.assertions.last_inner.Given as goal

abbrev pub invariant-loop-node : goal.invariant-loop-node
invariant-loop-node l =
    let s = source_read l.syntax in
    last_or (last_where (λ c. not (is_leaf s c)) (drop l.node-index l.list)) l.last ≡ last_where (λ c. not (is_leaf s c)) l.list
