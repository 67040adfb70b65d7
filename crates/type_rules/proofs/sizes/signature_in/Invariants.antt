use Rattle.std.proofs.Common.{◌≡◌, ℕ, ◌<◌}
use Rattle.c_types.specs.Trees.{NoTypes, FunctionFrom}
use Rattle.c_types.specs.declared.term.Form.TheVariants.{Fixed}
use Rattle.c_types.specs.Table.{type_of}
use Rattle.type_rules.proofs.sizes.signature_in.Given as goal

abbrev pub invariant-loop-id : goal.invariant-loop-id
invariant-loop-id l =
    (k : ℕ) → k < l.id → type_of l.types k ≡ FunctionFrom (type_of l.types l.given.0) NoTypes Fixed → ⊥
