use Rattle.std.proofs.Common.{◌≡◌, ◌<◌, ℕ, Some, slice_get}
use Rattle.c_types.specs.Made.{IsMade, AreNamed}
use Rattle.core_tree.specs.declared.node.Unit.{Unit}
use Rattle.link_merge.proofs.tags.tables_told.Given as goal

abbrev pub invariant-loop-unit : goal.invariant-loop-unit
invariant-loop-unit l = record {
  made : (u : ℕ) (x : Unit) → u < l.unit-index → slice_get l.units u ≡ Some x → IsMade x.types;
  named : (u : ℕ) (x : Unit) → u < l.unit-index → slice_get l.units u ≡ Some x → AreNamed x.types;
}
