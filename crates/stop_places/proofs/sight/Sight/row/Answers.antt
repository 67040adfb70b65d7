use Rattle.std.proofs.Common.{◌≡◌, ◌<◌, ℕ, length, ap, sym, subst, ◌∙◌, arith}
use Rattle.std.proofs.lemmas.List.FromFn.{length-map-range_with_len}
use Rattle.core_tree.specs.Typed.{trees_in}
use Rattle.obj_space.specs.View.{view_of}
use Rattle.row_numbers.specs.Setting.{row}
use Rattle.stop_places.proofs.Pushed.{read_map}
use Rattle.stop_places.proofs.sight.Sight.row.Goals as goal

pub bounds-self-n : goal.bounds-self-n
bounds-self-n c =
    let s = c.args.self.now in
    let count = length s.program.now.nodes.items in
    let long : length s.firsts.now ≡ count = ap length c.requires.sight.firsts ∙ length-map-range_with_len (row (trees_in s.program.now) (view_of s.space.now)) 0 count in
    omega (arith, long, c.requires.node)

pub returns-clause-value : goal.returns-clause-value
returns-clause-value c =
    let s = c.args.self.now in
    read_map (row (trees_in s.program.now) (view_of s.space.now)) (length s.program.now.nodes.items) c.args.n s.firsts.now _ c.requires.sight.firsts c.requires.node

pub returns-clause-known : goal.returns-clause-known
returns-clause-known c =
    let s = c.args.self.now in
    let is = read_map (row (trees_in s.program.now) (view_of s.space.now)) (length s.program.now.nodes.items) c.args.n s.firsts.now 0 c.requires.sight.firsts c.requires.node in
    subst (λ (k : ℕ). k < s.system.now.rows) (sym is) (c.requires.sight.known c.args.n)
