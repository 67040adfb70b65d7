-- The branches that are left to leave.
use Rattle.std.proofs.Common.{◌≡◌, drop}
use Rattle.core_tree.specs.Seen.{core_of}
use Rattle.ref_blocks.specs.Plans.{EndsKnown, blocks_by}
use Rattle.ref_statements.specs.Statements.{parts_left}
use Rattle.ref_statements.proofs.bodies.parts_left.Given as goal

abbrev pub invariant-loop-part : goal.invariant-loop-part
invariant-loop-part l = record {
  known : EndsKnown l.memory l.after;
  rest : parts_left (core_of l.world.trees) (drop l.part-index l.branches) (blocks_by l.memory l.after)
      ≡ parts_left (core_of l.world.trees) l.branches (blocks_by l.memory l.fn.doors);
}
