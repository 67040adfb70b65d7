use Rattle.std.proofs.Common.{ltb, arith, rules}
use Rattle.std.proofs.lemmas.List.Sorted.{IsPartitionPoint-from_clause, IsPartitionedBy-ltb}
use Rattle.ref_cells.specs.Cells.{Entry}
use Rattle.ref_cells.proofs.Splits.{key_of, keys_rise, below_cut, rest_cut}
use Rattle.ref_cells.proofs.order.before.Goals as goal

pub returns-clause-below : goal.returns-clause-below
returns-clause-below c =
    let parted = IsPartitionedBy-ltb (key_of c.args.depth) c.args.cells.now c.args.key (λ i j x le lt. keys_rise c.args.depth c.args.cells.now c.requires i j x le lt) in
    let point = IsPartitionPoint-from_clause (λ (e : Entry). ltb (key_of c.args.depth e) c.args.key) _ _ c.partition_point.ensures.partitioned parted (λ a r q j. search rules) in
    below_cut c.args.depth c.args.key c.args.cells.now c.partition_point.result (omega arith) (λ k x lt. point.0 k x (omega arith) lt) (λ k x le lt. point.1 k x le lt)

pub returns-clause-rest : goal.returns-clause-rest
returns-clause-rest c =
    let parted = IsPartitionedBy-ltb (key_of c.args.depth) c.args.cells.now c.args.key (λ i j x le lt. keys_rise c.args.depth c.args.cells.now c.requires i j x le lt) in
    let point = IsPartitionPoint-from_clause (λ (e : Entry). ltb (key_of c.args.depth e) c.args.key) _ _ c.partition_point.ensures.partitioned parted (λ a r q j. search rules) in
    rest_cut c.args.depth c.args.key c.args.cells.now c.partition_point.result (omega arith) (λ k x lt. point.0 k x (omega arith) lt) (λ k x le lt. point.1 k x le lt)
