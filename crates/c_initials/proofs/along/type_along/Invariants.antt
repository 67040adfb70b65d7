use Rattle.std.proofs.Common.{◌≡◌, ◌<◌, length, drop, Some}
use Rattle.c_types.specs.Table.{type_of}
use Rattle.c_senses.specs.World.{World}
use Rattle.c_senses.specs.Initialised as spec
use Rattle.c_operators.specs.c_members.Worlds.{IsWorldOf}
use Rattle.c_initials.proofs.along.type_along.Given as goal

-- what is left of the path
abbrev pub invariant-loop-step : goal.invariant-loop-step
invariant-loop-step l = record {
  within : l.here.0 < length l.types.terms;
  rest : (w : World) → IsWorldOf w l.types → spec.type_along w (Some (type_of l.types l.here.0)) (drop l.step-index l.path) ≡ spec.type_along w (Some (type_of l.types l.fn.ty.0)) l.path;
}
