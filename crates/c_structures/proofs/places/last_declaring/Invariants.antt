use Rattle.std.proofs.Common.{◌≡◌, ℕ, drop}
use Rattle.c_senses.specs.Tree.{last_where, last_or}
use Rattle.c_senses.specs.World.{World}
use Rattle.c_senses.specs.Sense.{Sense}
use Rattle.c_senses.specs.Tags.{declares_members}
use Rattle.tree_reads.specs.Sources.{source_read}
use Rattle.c_structures.proofs.places.last_declaring.Given as goal

abbrev pub invariant-loop-node : goal.invariant-loop-node
invariant-loop-node l = (w : World) (sense : ℕ → Sense) →
    let s = source_read l.syntax in
    last_or (last_where (declares_members w s sense) (drop l.node-index l.list)) l.last ≡ last_where (declares_members w s sense) l.list
