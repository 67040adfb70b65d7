use Rattle.std.proofs.Common.{◌≡◌, drop, ◌&&◌}
use Rattle.std.specs.Prelude.{is_none}
use Rattle.c_grammar.specs.Productions.{p_struct}
use Rattle.c_senses.specs.Tree.{first_where, is_a}
use Rattle.c_senses.specs.Tags.{tag_leaf}
use Rattle.tree_reads.specs.Sources.{source_read}
use Rattle.c_structures.proofs.places.first_untagged.Given as goal

abbrev pub invariant-loop-node : goal.invariant-loop-node
invariant-loop-node l =
    let s = source_read l.syntax in
    first_where (λ c. is_a s p_struct c && is_none (tag_leaf s c)) (drop l.node-index l.list) ≡ first_where (λ c. is_a s p_struct c && is_none (tag_leaf s c)) l.list
