use Rattle.std.proofs.Common.{◌≡◌, ℕ, ◌+◌, ◌<◌, length, get_or, Some, slice_get, ◌∙◌, arith}
use Rattle.std.proofs.lemmas.Option.{slice_get_within}
use Rattle.core_tree.specs.declared.node.Node.{Node}
use Rattle.core_tree.specs.declared.node.NodeKind.TheVariants.{NextArg}
use Rattle.core_tree.specs.Typed.{trees_in}
use Rattle.obj_space.specs.View.{view_of}
use Rattle.row_numbers.specs.Setting.{row, list_row}
use Rattle.row_numbers.proofs.FrameLemmas.{read_zero, length_map, row_behind}
use Rattle.mod_ref.specs.declared.ground.Ground.{Ground}
use Rattle.mod_ref.specs.Ground.{IsGround}
use Rattle.mod_ref.proofs.ground.Ground.list_row.Goals as goal

-- the first row of its own stands behind the row of the lists
behind : (g : Ground) (n : ℕ) (node : Node) → IsGround g → slice_get g.program.now.nodes.items n ≡ Some node → node.kind ≡ NextArg → get_or g.starts.now n 0 ≡ list_row (trees_in g.program.now) (view_of g.space.now) n + 1
behind g n node ground at kind =
    read_zero (row (trees_in g.program.now) (view_of g.space.now)) (length g.program.now.nodes.items) n g.starts.now ground.starts (slice_get_within g.program.now.nodes.items n node at)
    ∙ row_behind (trees_in g.program.now) (view_of g.space.now) n node at kind

pub bounds-self-n : goal.bounds-self-n
bounds-self-n c =
    let there : c.args.n < length c.args.self.now.program.now.nodes.items = slice_get_within c.args.self.now.program.now.nodes.items c.args.n c.requires.takes.0 c.requires.takes.1 in
    omega (arith, length_map (row (trees_in c.args.self.now.program.now) (view_of c.args.self.now.space.now)) _ _ c.requires.ground.starts, there)

pub overflow_sub-result : goal.overflow_sub-result
overflow_sub-result c = omega (arith, behind c.args.self.now c.args.n c.requires.takes.0 c.requires.ground c.requires.takes.1 c.requires.takes.2)

pub returns-clause-value : goal.returns-clause-value
returns-clause-value c = omega (arith, behind c.args.self.now c.args.n c.requires.takes.0 c.requires.ground c.requires.takes.1 c.requires.takes.2)

pub returns-clause-known : goal.returns-clause-known
returns-clause-known c =
    let there : c.args.n < length c.args.self.now.program.now.nodes.items = slice_get_within c.args.self.now.program.now.nodes.items c.args.n c.requires.takes.0 c.requires.takes.1 in
    let below = c.requires.ground.within c.args.n there in
    let is = read_zero (row (trees_in c.args.self.now.program.now) (view_of c.args.self.now.space.now)) _ _ _ c.requires.ground.starts there in
    omega (arith, below, is)
