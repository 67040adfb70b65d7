use Rattle.std.proofs.Common.{◌≡◌, ◌∷◌, map, take, slice_index}
use Rattle.c_types.specs.Keys.{firsts_of, form_number}
use Rattle.c_types.proofs.table.function_key.Given as goal

abbrev pub invariant-loop-parameter : goal.invariant-loop-parameter
invariant-loop-parameter l =
    l.key.items ≡ 7 ∷ form_number l.fn.form ∷ slice_index (firsts_of l.entries) l.fn.result_type.0 ∷ map (λ id. slice_index (firsts_of l.entries) id.0) (take l.parameter-index l.parameters)
