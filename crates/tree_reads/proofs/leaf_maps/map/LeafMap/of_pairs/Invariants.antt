use Rattle.std.proofs.Common.{◌≡◌, ℕ, drop}
use Rattle.c_senses.specs.Tree.{paired}
use Rattle.c_senses.specs.World.{or_else}
use Rattle.tree_reads.specs.leaf_maps.Numbers.{number_at}
use Rattle.tree_reads.proofs.leaf_maps.map.LeafMap.of_pairs.Given as goal

-- what is kept, and else what the pairs that are left say
abbrev pub invariant-loop-pair : goal.invariant-loop-pair
invariant-loop-pair l = (q : ℕ) → or_else (number_at l.map q) (paired (drop l.pair-index l.pairs) q) ≡ paired l.pairs q
