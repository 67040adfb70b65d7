use Rattle.mod_ref.proofs.Paths.{class_edges_below}
use Rattle.mod_ref.proofs.ways.ways.Goals as goal

pub heights-requires : goal.heights-requires
heights-requires c =
    rw c.as_slice-made.ensures.value (class_edges_below c.args.functions c.args.edges.now c.in_ok-pairs.pairs.items c.in_ok-listed.listed.items c.in_ok-listed.ensures (rw c.as_slice-first.ensures.value at c.in_ok-pairs.ensures))
