-- One list more.
use Rattle.std.proofs.Common.{◌∙◌}
use Rattle.core_tree.specs.Seen.{core_of}
use Rattle.ref_blocks.proofs.Objects.{empty_more}
use Rattle.ref_blocks.proofs.lists.empty_lists.Goals as goal

pub loop-preserved : goal.loop-preserved
loop-preserved c = c.in_ok-push.ensures.ok ∙ empty_more (core_of c.args.trees.now) c.loop.counter c.loop.lists.items c.new.result c.loop.invariant c.new.ensures
