use Rattle.std.proofs.Common.{◌↔◌, ◌<◌, ℕ, Some, All, length, drop}
use Rattle.c_types.specs.Table.{type_of}
use Rattle.core_tree.specs.Seen.{core_of}
use Rattle.core_tree.specs.Rows.{InitialValues}
use Rattle.core_tree.proofs.statements.initial_values.Given as goal

abbrev pub invariant-loop-path : goal.invariant-loop-path
invariant-loop-path l = record {
  values : All (λ (c : ℕ). c < length l.trees.nodes.now) l.rest;
  same : InitialValues (core_of l.trees) (Some (type_of l.trees.types.now l.ty.0)) (drop l.path-index l.paths) l.rest ↔ InitialValues (core_of l.trees) (Some (type_of l.trees.types.now l.ty.0)) l.paths l.fn.values;
}
