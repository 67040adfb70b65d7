use Rattle.std.proofs.Common.{◌≡◌, ◌-◌, suc}
use Rattle.tree_reads.specs.Sources.{source_read}
use Rattle.c_senses.specs.Places as spec
use Rattle.c_statements.proofs.places.name_within.Given as goal

abbrev pub invariant-loop-depth : goal.invariant-loop-depth
invariant-loop-depth l = spec.name_within (source_read l.syntax) (suc l.node - l._depth) l.here ≡ spec.name_within (source_read l.syntax) (suc l.node) l.node
