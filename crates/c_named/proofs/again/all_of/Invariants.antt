use Rattle.std.proofs.Common.{◌≡◌, drop}
use Rattle.c_types.specs.Table.{type_of}
use Rattle.c_senses.specs.Sense.{sense_in}
use Rattle.core_nodes.specs.Standing.{IsReady, Builds}
use Rattle.c_results.specs.Standing.{senses_made}
use Rattle.tree_reads.specs.Sources.{source_read}
use Rattle.c_named.specs.Lists.{all_of}
use Rattle.c_named.proofs.again.all_of.Given as goal

-- those that are left have the type just if all do
abbrev pub invariant-loop-leaf : goal.invariant-loop-leaf
invariant-loop-leaf l = record {
  ready : IsReady l.unit;
  builds : Builds l.fn.unit l.unit;
  rest : all_of (source_read l.syntax) (sense_in (senses_made l.fn.unit l.results)) (type_of l.fn.unit.types l.ty.0) (drop l.leaf-index l.leaves) ≡ all_of (source_read l.syntax) (sense_in (senses_made l.fn.unit l.results)) (type_of l.fn.unit.types l.ty.0) l.leaves;
}
