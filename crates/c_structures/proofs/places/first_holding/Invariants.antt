use Rattle.std.proofs.Common.{◌≡◌, drop}
use Rattle.c_grammar.specs.Productions.{p_struct}
use Rattle.c_senses.specs.Tree.{first_where, any_where, is_a, children_at}
use Rattle.tree_reads.specs.Sources.{source_read}
use Rattle.c_structures.proofs.places.first_holding.Given as goal

abbrev pub invariant-loop-node : goal.invariant-loop-node
invariant-loop-node l =
    let s = source_read l.syntax in
    first_where (λ c. any_where (is_a s p_struct) (children_at s c)) (drop l.node-index l.list) ≡ first_where (λ c. any_where (is_a s p_struct) (children_at s c)) l.list
