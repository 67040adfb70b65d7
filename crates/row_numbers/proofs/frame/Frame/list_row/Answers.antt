use Rattle.std.proofs.Common.{arith}
use Rattle.core_tree.specs.Typed.{trees_in}
use Rattle.obj_space.specs.View.{view_of}
use Rattle.row_numbers.proofs.FrameLemmas.{row_behind}
use Rattle.row_numbers.proofs.frame.Frame.list_row.Goals as goal

pub overflow_sub-result : goal.overflow_sub-result
overflow_sub-result c =
    let behind = row_behind (trees_in c.args.self.now.program.now) (view_of c.args.self.now.space.now) c.args.n c.requires.takes.0 c.requires.takes.1 c.requires.takes.2 in
    omega (arith, behind, c.row.ensures.value)

pub returns-clause-value : goal.returns-clause-value
returns-clause-value c =
    let behind = row_behind (trees_in c.args.self.now.program.now) (view_of c.args.self.now.space.now) c.args.n c.requires.takes.0 c.requires.takes.1 c.requires.takes.2 in
    omega (arith, behind, c.row.ensures.value)
