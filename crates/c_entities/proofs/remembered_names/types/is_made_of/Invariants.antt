use Rattle.std.proofs.Common.{◌≡◌, ◌<◌, ◌-◌, drop, length}
use Rattle.c_types.specs.Table.{type_of}
use Rattle.core_nodes.specs.passed.c_senses.Declarators as spec
use Rattle.c_results.specs.Standing.{derivations_seen}
use Rattle.c_entities.proofs.remembered_names.types.is_made_of.Given as goal

-- the last steps make the type of the one that has been reached
abbrev pub invariant-loop-i : goal.invariant-loop-i
invariant-loop-i l = record {
  within : l.at.0 < length l.types.terms;
  rest : spec.derived (derivations_seen l.types (drop (length l.steps - l.i) l.steps)) (type_of l.types l.at.0) ≡ type_of l.types l.fn.ty.0;
}
