use Rattle.std.proofs.Common.{◌≡◌, ◌-◌, ◌&&◌, length}
use Rattle.core_nodes.specs.passed.c_senses.Tree.{first_where, numbers_from, is_leaf, place_at}
use Rattle.core_nodes.specs.passed.c_senses.Constants.{same_place}
use Rattle.tree_reads.specs.Sources.{source_read}
use Rattle.c_conversions.proofs.constant_values.places.leaf_of_place.Given as goal

abbrev pub invariant-loop-i : goal.invariant-loop-i
invariant-loop-i l =
    let s = source_read l.syntax in
    first_where (λ i. is_leaf s i && same_place (place_at s i) l.place) (numbers_from l.i (length s.nodes - l.i)) ≡ first_where (λ i. is_leaf s i && same_place (place_at s i) l.place) (numbers_from 0 (length s.nodes))
