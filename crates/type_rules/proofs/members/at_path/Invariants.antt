use Rattle.std.proofs.Common.{◌≡◌, ◌<◌, length, drop, Some}
use Rattle.c_types.specs.Table.{type_of}
use Rattle.c_types.specs.Paths.{type_at_path}
use Rattle.type_rules.proofs.members.at_path.Given as goal

abbrev pub invariant-loop-step : goal.invariant-loop-step
invariant-loop-step l = record {
  known : l.part.0 < length l.types.terms;
  below : type_at_path l.types (Some (type_of l.types l.part.0)) (drop l.step-index l.path) ≡ type_at_path l.types (Some (type_of l.types l.fn.whole.0)) l.path;
}
