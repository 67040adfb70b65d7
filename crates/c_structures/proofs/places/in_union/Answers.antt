use Rattle.tree_reads.specs.Sources.{source_read}
use Rattle.c_structures.proofs.Gathering.{in_union_some}
use Rattle.c_structures.proofs.places.in_union.Goals as goal

pub returns-in-Some : goal.returns-in-Some
returns-in-Some c = λ w sense.
    in_union_some w (source_read c.args.syntax.now) sense c.args.field c.in-Some.member _ c.in-Some.ensures.parent (c.is_in_union.ensures w sense)
