use Rattle.c_types.specs.Trees.{PointerTo}
use Rattle.c_types.specs.declared.term.PathStep.TheVariants.{Index}
use Rattle.core_tree.specs.declared.node.NodeKind.TheVariants.{NextArg}
use Rattle.core_tree.specs.Typed.{trees_in}
use Rattle.std.proofs.Common.{[], ◌∷◌, refl}
use Rattle.covering_laws.proofs.covered_rows.Nexts.{next_held}
use Rattle.covering_laws.proofs.covered_rows.Values.{typed_at}
use Rattle.covering_laws.proofs.covered_rows.laws.next_args_covered.Goals as goal

pub returns : goal.returns
returns c s n q e i k to memory place inst node all at read_is inst_is key =
    next_held s.program s.space s.system s.is_system s.family s.closed s.grounds n q (PointerTo to) node memory all place e i k to inst refl
    (typed_at (trees_in s.program) n NextArg (PointerTo to) (q ∷ []) node) at read_is inst_is key
