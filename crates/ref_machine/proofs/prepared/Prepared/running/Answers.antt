use Rattle.std.proofs.Common.{refl}
use Rattle.core_tree.specs.Seen.{core_of}
use Rattle.ref_machine.proofs.PreparedFacts.{running_is, running_seen, grounded}
use Rattle.ref_machine.proofs.prepared.Prepared.running.Goals as goal

pub returns-clause-running : goal.returns-clause-running
returns-clause-running c =
    running_is c.args.program.now c.args.self.now c.requires _ c.trees_over.ensures refl c.as_slice.ensures.value refl

pub returns-clause-seen : goal.returns-clause-seen
returns-clause-seen c =
    running_seen c.args.program.now c.args.self.now c.requires (core_of c.trees_over.result) c.args.self.now.space c.as_slice-2.result.now c.trees_over.ensures refl
    c.as_slice-2.ensures.value

pub returns-clause-grounded : goal.returns-clause-grounded
returns-clause-grounded c = grounded c.args.program.now c.args.self.now c.requires c.type_count.ensures.made c.type_count.ensures.named
