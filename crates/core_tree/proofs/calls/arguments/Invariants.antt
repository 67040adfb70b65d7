use Rattle.std.proofs.Common.{◌↔◌, ◌<◌, ℕ, All, length, drop}
use Rattle.c_types.specs.Trees.{trees_at}
use Rattle.c_types.specs.Table.{types_of}
use Rattle.core_tree.specs.Seen.{core_of}
use Rattle.core_tree.specs.Rows.{Arguments}
use Rattle.core_tree.proofs.calls.arguments.Given as goal

abbrev pub invariant-loop-ty : goal.invariant-loop-ty
invariant-loop-ty l = record {
  args : All (λ (c : ℕ). c < length l.trees.nodes.now) l.more;
  same : Arguments (core_of l.trees) (trees_at (types_of l.trees.types.now) (drop l.ty-index l.parameters)) l.form l.more ↔ Arguments (core_of l.trees) (trees_at (types_of l.trees.types.now) l.parameters) l.form l.fn.args;
}
