-- The links that are listed, and the way that is left.
use Rattle.std.proofs.Common.{◌≡◌, ◌<◌, ◌++◌, ◌-◌, All, length}
use Rattle.ref_blocks.specs.Ways.{above}
use Rattle.ref_blocks.proofs.parents.above.Given as goal

abbrev pub invariant-loop-p : goal.invariant-loop-p
invariant-loop-p l = record {
  way : l.links.items ++ above l.nodes l.at ≡ above l.nodes l.n;
  within : All (λ k. (k.node < length l.nodes) × (k.child < length l.nodes)) l.links.items;
}

abbrev pub decreases-loop-p : goal.decreases-loop-p
decreases-loop-p l = length l.nodes - l.at
