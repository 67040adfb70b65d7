use Rattle.std.proofs.Common.{arith, ◌<◌, ◌^◌, ◌≤◌, sym, []}
use Rattle.c_types.specs.Trees.{tree_at, grown}
use Rattle.c_types.specs.Table.{extent_in}
use Rattle.c_types.specs.Inside.{table_of, terms_of}
use Rattle.c_types.proofs.Nodes.{node_there, no_node}
use Rattle.c_types.proofs.table.TypeTable.sub_node.Goals as goal

pub node_below-requires-clause-inside : goal.node_below-requires-clause-inside
node_below-requires-clause-inside c =
    let es = c.self.inside.entries.items in
    let o = extent_in (table_of es c.self.inside.tags.items c.self.inside.completed.items) (tree_at (grown [] (terms_of es)) c.args.id.0) in
    let h = rw (c.deref.ensures.value, c.deref-3.ensures.value) at c.in_ok-bounds.ensures in
    let small : c.args.node < 2 ^ 32 = omega arith in
    let lt : c.args.node < c.in_ok-bounds.bounds.nodes = omega arith in
    rw (c.deref-then-from-bounds.ensures.value, c.deref-then-from-bounds-3.ensures.value) (node_there o c.in_ok-bounds.bounds c.args.node small h lt)

pub returns-else-from-bounds-clause-node : goal.returns-else-from-bounds-clause-node
returns-else-from-bounds-clause-node c =
    let es = c.self.inside.entries.items in
    let o = extent_in (table_of es c.self.inside.tags.items c.self.inside.completed.items) (tree_at (grown [] (terms_of es)) c.args.id.0) in
    let h = rw (c.deref.ensures.value, c.deref-3.ensures.value) at c.in_ok-bounds.ensures in
    let small : c.args.node < 2 ^ 32 = omega arith in
    let past : c.in_ok-bounds.bounds.nodes ≤ c.args.node = omega arith in
    rw (← c.self.view_is) (sym (no_node o c.in_ok-bounds.bounds c.args.node small h past))
