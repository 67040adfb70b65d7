use Rattle.std.proofs.Common.{◌≡◌, ◌<◌, drop, length, None}
use Rattle.std.specs.Option.{IfSome}
use Rattle.c_senses.specs.Sense.{sense_in}
use Rattle.c_senses.specs.Entities.{all_together}
use Rattle.core_nodes.specs.Standing.{IsReady, Builds}
use Rattle.c_results.specs.Standing.{senses_made}
use Rattle.tree_reads.specs.Sources.{source_read}
use Rattle.c_entities.specs.Types.{type_in}
use Rattle.c_named.specs.Lists.{types_at}
use Rattle.unit_names.proofs.types.types_together.Given as goal

-- what those that are left give behind what is known so far is what all give
abbrev pub invariant-loop-leaf : goal.invariant-loop-leaf
invariant-loop-leaf l = record {
  ready : IsReady l.unit;
  builds : Builds l.fn.unit l.unit;
  within : IfSome l.so_far (λ t. t.0 < length l.unit.types.terms);
  rest : all_together (type_in l.unit.types l.so_far) (types_at (source_read l.syntax) (sense_in (senses_made l.fn.unit l.results)) (drop l.leaf-index l.leaves)) ≡ all_together None (types_at (source_read l.syntax) (sense_in (senses_made l.fn.unit l.results)) l.leaves);
}
