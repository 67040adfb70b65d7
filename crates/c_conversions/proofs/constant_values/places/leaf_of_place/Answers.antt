use Rattle.std.proofs.Common.{arith, sym, ap, ◌<◌, ◌&&◌, ℕ, Option, Some, None, length}
use Rattle.tree_reads.specs.Sources.{source_read}
use Rattle.core_nodes.specs.passed.c_senses.Tree.{is_leaf, place_at}
use Rattle.core_nodes.specs.passed.c_senses.Constants.{same_place}
use Rattle.c_conversions.proofs.constant_values.Leaves.{leaf_here, leaf_passed}
use Rattle.c_conversions.proofs.constant_values.places.leaf_of_place.Goals as goal

pub returns-then-is_leaf_at : goal.returns-then-is_leaf_at
returns-then-is_leaf_at c =
    let s = source_read c.args.syntax.now in
    let n = length c.args.syntax.now.tree.now.nodes.items in
    let more : c.loop-i.i < n = omega (arith, c.len-i-end.ensures) in
    sym (ap (λ (o : Option ℕ). elim o [ None ↦ c.args.at | Some i ↦ i ]) (leaf_here (λ (i : ℕ). is_leaf s i && same_place (place_at s i) c.args.place) n c.loop-i.i _ more c.loop-i.invariant c.if-is_leaf_at.ensures))

pub loop-i-preserved : goal.loop-i-preserved
loop-i-preserved c =
    let s = source_read c.args.syntax.now in
    let n = length c.args.syntax.now.tree.now.nodes.items in
    let more : c.loop-i.i < n = omega (arith, c.len-i-end.ensures) in
    leaf_passed (λ (i : ℕ). is_leaf s i && same_place (place_at s i) c.args.place) n c.loop-i.i _ more c.loop-i.invariant c.if-is_leaf_at.ensures
