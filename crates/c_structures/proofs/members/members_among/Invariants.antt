use Rattle.std.proofs.Common.{◌≡◌, ◌<◌, ◌++◌, All, drop, length, map}
use Rattle.core_tree.specs.declared.node.Unit.{Unit}
use Rattle.c_inits.specs.Tables.{part_of}
use Rattle.c_senses.specs.Tree.{Source}
use Rattle.c_senses.specs.World.{World}
use Rattle.c_senses.specs.Sense.{sense_in}
use Rattle.c_senses.specs.Tags as spec
use Rattle.c_results.specs.Standing.{senses_made, IsWithin}
use Rattle.c_structures.proofs.members.members_among.Given as goal

abbrev pub invariant-loop-node : goal.invariant-loop-node
invariant-loop-node l = record {
  seen : (u : Unit) (w : World) (s : Source) → map (part_of u.types) l.list.items ++ spec.members_among w s (sense_in (senses_made u l.results)) (drop l.node-index l.nodes) ≡ spec.members_among w s (sense_in (senses_made u l.results)) l.nodes;
  within : (u : Unit) → All (IsWithin u) l.results → All (λ m. m.ty.0 < length u.types.terms) l.list.items;
}
