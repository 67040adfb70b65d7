use Rattle.std.proofs.Common.{◌<◌, sym, subst, arith}
use Rattle.core_tree.specs.Typed.{trees_in}
use Rattle.obj_space.specs.View.{view_of}
use Rattle.row_numbers.specs.Setting.{row}
use Rattle.row_numbers.proofs.FrameLemmas.{read_zero, length_map}
use Rattle.mod_ref.proofs.ground.Ground.row.Goals as goal

pub bounds-self-n : goal.bounds-self-n
bounds-self-n c = omega (arith, length_map (row (trees_in c.args.self.now.program.now) (view_of c.args.self.now.space.now)) _ _ c.requires.ground.starts, c.requires.node)

pub returns-clause-value : goal.returns-clause-value
returns-clause-value c = read_zero (row (trees_in c.args.self.now.program.now) (view_of c.args.self.now.space.now)) _ _ _ c.requires.ground.starts c.requires.node

pub returns-clause-known : goal.returns-clause-known
returns-clause-known c =
    let is = read_zero (row (trees_in c.args.self.now.program.now) (view_of c.args.self.now.space.now)) _ _ _ c.requires.ground.starts c.requires.node in
    subst (λ r. r < c.args.self.now.system.now.rows) (sym is) (c.requires.ground.within c.args.n c.requires.node)
