use Rattle.std.proofs.Common.{length, sym, subst}
use Rattle.core_tree.specs.Seen.{core_of}
use Rattle.ref_cells.specs.Places.{AreKnown}
use Rattle.ref_start.proofs.ObjectSteps.{statics_known}
use Rattle.ref_start.proofs.FilledSteps.{over_known}
use Rattle.ref_start.proofs.start.start_memory.Goals as goal

pub fill_all-requires-clause-memory : goal.fill_all-requires-clause-memory
fill_all-requires-clause-memory c =
    let u = core_of c.args.trees.now in
    subst (AreKnown (length u.types.terms)) (sym c.in_ok-memory.ensures) (statics_known u c.args.types c.requires.range c.requires.library c.args.space.now)

pub returns-clause-known : goal.returns-clause-known
returns-clause-known c =
    let u = core_of c.args.trees.now in
    let n = length u.types.terms in
    let known : AreKnown n c.in_ok-memory.memory =
    subst (AreKnown n) (sym c.in_ok-memory.ensures) (statics_known u c.args.types c.requires.range c.requires.library c.args.space.now) in
    subst (AreKnown n) (sym c.in_ok-fill_all.ensures) (over_known u c.in_ok-memory.memory n known)
