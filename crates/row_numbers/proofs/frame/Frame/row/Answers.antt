use Rattle.std.proofs.Common.{arith}
use Rattle.core_tree.specs.Typed.{trees_in}
use Rattle.obj_space.specs.View.{view_of}
use Rattle.row_numbers.specs.Setting.{row}
use Rattle.row_numbers.proofs.FrameLemmas.{read_map, length_map}
use Rattle.row_numbers.proofs.frame.Frame.row.Goals as goal

pub index-requires : goal.index-requires
index-requires c =
    let u = trees_in c.args.self.now.program.now in
    let s = view_of c.args.self.now.space.now in
    omega (arith, c.args.self.now.numbering.now.rows.ok.0, length_map (row u s) _ _ c.requires.frame.numbers.rows)

pub returns-clause-value : goal.returns-clause-value
returns-clause-value c =
    read_map (row (trees_in c.args.self.now.program.now) (view_of c.args.self.now.space.now)) _ _ _ _ c.requires.frame.numbers.rows c.requires.node c.index.ensures

pub returns-clause-small : goal.returns-clause-small
returns-clause-small c =
    let u = trees_in c.args.self.now.program.now in
    let s = view_of c.args.self.now.space.now in
    let e = read_map (row u s) _ _ _ _ c.requires.frame.numbers.rows c.requires.node c.index.ensures in
    omega (arith, e, c.requires.frame.numbers.node_rows c.args.n, c.requires.frame.numbers.small)
