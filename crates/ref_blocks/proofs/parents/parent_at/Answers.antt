-- What is read is the node above.
use Rattle.ref_blocks.proofs.Kept.{kept_parent, kept_beyond, above_it, within_it}
use Rattle.std.proofs.Common.{None}
use Rattle.ref_blocks.proofs.parents.parent_at.Goals as goal

pub returns-then-at-parents-clause-value : goal.returns-then-at-parents-clause-value
returns-then-at-parents-clause-value c = kept_parent c.args.nodes.now c.args.parents.now c.args.n None c.requires c.if-at-parents.true

pub returns-then-at-parents-clause-above : goal.returns-then-at-parents-clause-above
returns-then-at-parents-clause-above c = above_it c.args.nodes.now c.args.n _ (kept_parent c.args.nodes.now c.args.parents.now c.args.n None c.requires c.if-at-parents.true)

pub returns-then-at-parents-clause-within : goal.returns-then-at-parents-clause-within
returns-then-at-parents-clause-within c = within_it c.args.nodes.now c.args.n _ (kept_parent c.args.nodes.now c.args.parents.now c.args.n None c.requires c.if-at-parents.true)

pub returns-else-at-parents-clause-value : goal.returns-else-at-parents-clause-value
returns-else-at-parents-clause-value c = kept_beyond c.args.nodes.now c.args.parents.now c.args.n c.requires c.if-at-parents.false
