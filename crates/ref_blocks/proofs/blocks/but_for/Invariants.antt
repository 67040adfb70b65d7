-- The blocks so far.
use Rattle.std.proofs.Common.{◌≡◌, take}
use Rattle.ref_blocks.specs.Around.{but_for}
use Rattle.ref_blocks.proofs.blocks.but_for.Given as goal

abbrev pub invariant-loop-block : goal.invariant-loop-block
invariant-loop-block l = l.rest.items ≡ but_for (take l.block-index l.blocks) l.others
