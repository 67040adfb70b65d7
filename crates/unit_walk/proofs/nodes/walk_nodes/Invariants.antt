use Rattle.std.proofs.Common.{◌≡◌, length}
use Rattle.c_types.specs.Made.{IsMade}
use Rattle.core_nodes.specs.Once.{HasOnce}
use Rattle.c_senses.specs.Rows.{world_at}
use Rattle.c_results.specs.Standing.{senses_made}
use Rattle.c_initials.specs.Filling.{Fills}
use Rattle.struct_rows.specs.Built.{HasTagTypes}
use Rattle.unit_walk.specs.unit_rows.Along.{AreAlong}
use Rattle.unit_walk.specs.unit_rows.Standing.{Stand, AreMade, ChoicesFit, source_known, nodes_known}
use Rattle.unit_walk.proofs.nodes.walk_nodes.Given as goal

-- the rows fit up to where it stands
abbrev pub invariant-loop-at : goal.invariant-loop-at
invariant-loop-at l = record {
  stand : Stand (nodes_known l.known) l.unit l.results;
  long : length l.results ≡ l.at;
  entities : l.unit.entities.items ≡ l.fn.unit.entities.items;
  made : AreMade (source_known l.known) l.unit l.results;
  fills : Fills (world_at (source_known l.known) (senses_made l.unit l.results) l.at) l.unit;
  types : HasTagTypes (source_known l.known) l.unit.types;
  once : HasOnce l.unit.types;
  told : ChoicesFit l.known l.unit l.results l.at l.choices;
  along : AreAlong l.known.numbered.now.syntax l.known.names.now l.unit l.results l.along;
  table : IsMade l.unit.types;
}
