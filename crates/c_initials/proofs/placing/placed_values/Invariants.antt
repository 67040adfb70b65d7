use Rattle.std.proofs.Common.{◌≡◌, ◌<◌, All, length, map, drop}
use Rattle.c_types.specs.Table.{type_of}
use Rattle.c_inits.specs.Items.{placed_of}
use Rattle.c_senses.specs.Given.{◌>>=◌}
use Rattle.c_senses.specs.World.{World}
use Rattle.c_senses.specs.Sense.{sense_in}
use Rattle.c_senses.specs.Initialised.{placed_cores}
use Rattle.core_nodes.specs.Standing.{cores_at, IsReady, Builds}
use Rattle.c_conversions.specs.Constants.{HaveRows}
use Rattle.c_results.specs.Standing.{senses_made}
use Rattle.tree_reads.specs.Sources.{source_read}
use Rattle.c_initials.specs.Scope.{IsTold}
use Rattle.c_initials.proofs.PlacedLaws.{before}
use Rattle.c_initials.proofs.placing.placed_values.Given as goal

-- the values so far, and what is left of the items
abbrev pub invariant-loop-item : goal.invariant-loop-item
invariant-loop-item l = record {
  ready : IsReady l.unit;
  builds : Builds l.initial.unit l.unit;
  within : All (λ i. i < length l.unit.nodes.items) l.values;
  rows : HaveRows (cores_at l.unit l.values);
  rest : (w : World) → IsTold w l.initial.unit l.scope →
      placed_cores w (source_read l.scope.syntax.now) (sense_in (senses_made l.initial.unit l.scope.results.now)) l.is_static (type_of l.initial.unit.types l.whole.0) (map placed_of l.items)
      ≡ (placed_cores w (source_read l.scope.syntax.now) (sense_in (senses_made l.initial.unit l.scope.results.now)) l.is_static (type_of l.initial.unit.types l.whole.0) (map placed_of (drop l.item-index l.items))
      >>= before w (source_read l.scope.syntax.now) (sense_in (senses_made l.initial.unit l.scope.results.now)) l.is_static (type_of l.initial.unit.types l.whole.0) l.unit l.values);
}
