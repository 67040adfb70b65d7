use Rattle.std.proofs.Common.{leb, leb-true, arith, rules}
use Rattle.std.proofs.lemmas.Bool.{leb-false}
use Rattle.std.proofs.lemmas.List.Sorted.{IsPartitionPoint-from_clause, IsPartitionedBy-leb}
use Rattle.c_types.proofs.parts.starts_up_to.Goals as goal

pub returns-clause-below : goal.returns-clause-below
returns-clause-below c k h =
    let parted = IsPartitionedBy-leb (λ p. p) _ c.args.node c.requires in
    let point = IsPartitionPoint-from_clause (λ p. leb p c.args.node) _ _ c.partition_point.ensures.partitioned parted (λ a r q j. search rules) in
    leb-true _ _ (point.0 k 0 (omega arith) h)

pub returns-clause-above : goal.returns-clause-above
returns-clause-above c k h lt =
    let parted = IsPartitionedBy-leb (λ p. p) _ c.args.node c.requires in
    let point = IsPartitionPoint-from_clause (λ p. leb p c.args.node) _ _ c.partition_point.ensures.partitioned parted (λ a r q j. search rules) in
    leb-false _ _ (point.1 k 0 h lt)
