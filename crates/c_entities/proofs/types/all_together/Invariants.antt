use Rattle.std.proofs.Common.{◌≡◌, ◌<◌, drop, length}
use Rattle.std.specs.Option.{IfSome}
use Rattle.core_nodes.specs.passed.c_senses.Entities.{all_together}
use Rattle.c_entities.specs.Types.{type_in, types_in}
use Rattle.c_entities.proofs.types.all_together.Given as goal

-- what the rest gives behind what is known so far is what all give
abbrev pub invariant-loop-ty : goal.invariant-loop-ty
invariant-loop-ty l = record {
  within : IfSome l.so_far (λ t. t.0 < length l.types.terms);
  rest : all_together (type_in l.types l.so_far) (types_in l.types (drop l.ty-index l.list)) ≡ all_together (type_in l.types l.fn.before) (types_in l.types l.list);
}
