-- The items that are listed, and those of what is left of the way.
use Rattle.std.proofs.Common.{◌≡◌, ◌∷◌, ◌++◌, drop}
use Rattle.ref_state.specs.declared.items.Item.TheVariants.{Do}
use Rattle.ref_blocks.specs.Jumps.{waits_to}
use Rattle.ref_blocks.proofs.jumps.waits_to.Given as goal

abbrev pub invariant-loop-link : goal.invariant-loop-link
invariant-loop-link l = l.on.items ++ waits_to l.nodes l.a (drop l.link-index l.links) ≡ Do l.t ∷ waits_to l.nodes l.a l.links
