use Rattle.std.proofs.Common.{◌≡◌, ◌<◌, ℕ, List, All, IfSome, length, take}
use Rattle.c_types.specs.declared.term.TypeId.{TypeId}
use Rattle.c_senses.specs.Sense.{sense_in}
use Rattle.c_senses.specs.Entities as spec
use Rattle.core_nodes.specs.Standing.{IsReady, Builds}
use Rattle.c_results.specs.Standing.{senses_made, IsWithin}
use Rattle.tree_reads.specs.Sources.{source_in}
use Rattle.c_entities.specs.Types.{type_in}
use Rattle.c_meanings.proofs.types.all_of.Given as goal

-- the type of those so far
abbrev pub invariant-loop-declared : goal.invariant-loop-declared
invariant-loop-declared l = record {
  ready : IsReady l.unit;
  builds : Builds l.initial.unit l.unit;
  results : All (IsWithin l.unit) l.results;
  within : IfSome l.so_far (λ (t : TypeId). t.0 < length l.unit.types.terms);
  made : (uses : List (ℕ × ℕ)) →
      type_in l.unit.types l.so_far
      ≡ spec.all_together (type_in l.initial.unit.types l.fn.before)
      (spec.types_of (source_in l.syntax uses) (sense_in (senses_made l.initial.unit l.results)) (take l.declared-index l.list));
}
