use Rattle.std.proofs.Common.{arith, ℕ, Option, Some, None, ◌↔◌, IsTrue, All, false, slice_get, sym, ap, subst, ◌∙◌, ◌≡◌, get_or, slice_index_or}
use Rattle.std.proofs.lemmas.Option.{slice_get-get_or}
use Rattle.c_types.specs.Trees.{Ctype}
use Rattle.c_types.specs.Table.{type_of}
use Rattle.core_tree.specs.declared.node.Node.{Node}
use Rattle.core_tree.specs.Seen.{core_of}
use Rattle.core_tree.specs.Typed.{type_in, type_at}
use Rattle.obj_space.specs.Spots.{reached}
use Rattle.obj_space.specs.View.{view_of}
use Rattle.row_numbers.specs.Kept.{nodes_of, kept_row}
use Rattle.row_numbers.specs.Setting.{row}
use Rattle.ref_cells.specs.Cells.{CellList}
use Rattle.row_covers.specs.Cells.{EntryBy}
use Rattle.row_covers.specs.Scene.{sets_over}
use Rattle.row_covers.proofs.Sums.{type_known}
use Rattle.row_covers.proofs.values.is_held_covered.Goals as goal

pub are_covered-requires-clause-rows : goal.are_covered-requires-clause-rows
are_covered-requires-clause-rows c = ((let small = c.node_row.ensures.small in omega arith), type_known (core_of c.args.scene.now.trees) c.requires.scene.range c.args.n c.index-scene-n.result c.requires.node)

pub are_covered-requires-clause-whole : goal.are_covered-requires-clause-whole
are_covered-requires-clause-whole c = type_known (core_of c.args.scene.now.trees) c.requires.scene.range c.args.n c.index-scene-n.result c.requires.node

pub returns : goal.returns
returns c =
    let u = core_of c.args.scene.now.trees in
    let g = sets_over c.args.scene.now in
    let node = get_or u.nodes c.args.n c.index-scene-n.result in
    let own : type_at u c.args.n ≡ type_of u.types node.ty.0 = ap (type_in u.types) (slice_get-get_or u.nodes c.args.n c.index-scene-n.result c.requires.node) in
    subst (λ (cells : CellList). IsTrue c.are_covered.result ↔ All (λ entry. EntryBy g c.args.memory.now (λ k. kept_row (row u (view_of c.args.scene.now.space.now) c.args.n) (nodes_of u.types (type_at u c.args.n)) k) (Some (reached (type_at u c.args.n) 0 false)) entry) cells) c.as_slice.ensures.cells
    (subst (λ (t : Ctype). IsTrue c.are_covered.result ↔ All (λ entry. EntryBy g c.args.memory.now (λ k. kept_row (row u (view_of c.args.scene.now.space.now) c.args.n) (nodes_of u.types t) k) (Some (reached t 0 false)) entry) c.as_slice.result.now) (sym own)
    (subst (λ (first : ℕ). IsTrue c.are_covered.result ↔ All (λ entry. EntryBy g c.args.memory.now (λ k. kept_row first (nodes_of u.types (type_of u.types node.ty.0)) k) (Some (reached (type_of u.types node.ty.0) 0 false)) entry) c.as_slice.result.now) c.node_row.ensures.value
    c.are_covered.ensures))
