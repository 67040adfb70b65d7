use Rattle.std.proofs.Common.{◌≡◌, ◌<◌, All, drop, length, true}
use Rattle.c_types.specs.Table.{type_of}
use Rattle.core_nodes.specs.Standing.{IsReady, Builds, Knows}
use Rattle.c_senses.specs.World.{World}
use Rattle.c_senses.specs.Limits.{within_limits}
use Rattle.c_senses.specs.Declarators as declarators
use Rattle.c_results.specs.Standing.{derivations_seen}
use Rattle.c_declarators.specs.Limited.{parameters_limited}
use Rattle.init_rows.proofs.types.derived_type.Given as goal

abbrev pub invariant-loop-derivation : goal.invariant-loop-derivation
invariant-loop-derivation l = record {
  ready : IsReady l.unit;
  builds : Builds l.fn.unit l.unit;
  within : l.made.0 < length l.unit.types.terms;
  rest : declarators.derived (derivations_seen l.fn.unit.types (drop l.derivation-index l.derivations)) (type_of l.unit.types l.made.0) ≡ declarators.derived (derivations_seen l.fn.unit.types l.derivations) (type_of l.fn.unit.types l.fn.base.0);
  limited : (w : World) → Knows w l.fn.unit → within_limits w (type_of l.fn.unit.types l.fn.base.0) ≡ true → All (λ d. parameters_limited w d ≡ true) (derivations_seen l.fn.unit.types l.derivations) → l.limited ≡ within_limits w (type_of l.unit.types l.made.0);
}
