use Rattle.std.proofs.Common.{arith, ◌≡◌, ◌∙◌, ap, sym, subst, [], Some}
use Rattle.c_types.specs.Trees.{Ctype, tree_at, grown}
use Rattle.c_types.specs.Table.{extent_in, look_in, node_of}
use Rattle.c_types.specs.Inside.{IsPlain, terms_of, table_of}
use Rattle.c_types.proofs.Read.{entry_at}
use Rattle.c_types.proofs.Split.{element_plain}
use Rattle.c_types.proofs.Nodes.{element_node, first_node}
use Rattle.c_types.proofs.parts.node_below.Goals as goal

pub loop-rest-init : goal.loop-rest-init
loop-rest-init c =
    let entries = c.args.entries.now in
    let types = grown [] (terms_of entries) in
    let table = table_of entries c.args.tags.now c.args.completed.now in
    let e = entry_at entries _ c.requires.right.entries_right c.args.id.0 c.index-entries-id.result c.requires.id in
    let (x, at) = c.requires.inside in
    let below = element_node (look_in table) (tree_at types c.args.id.0) c.args.node x at in
    let lt = c.requires.id in
    record {
      known = omega (arith, e.element_before);
      plain = subst IsPlain (sym e.element) (element_plain (tree_at types c.args.id.0));
      same = at ∙ (sym below ∙ ap (λ (t : Ctype). node_of (extent_in table t) c.args.node) (sym e.element));
    }

pub returns-clause-node : goal.returns-clause-node
returns-clause-node c =
    let types = grown [] (terms_of c.args.entries.now) in
    let table = table_of c.args.entries.now c.args.tags.now c.args.completed.now in
    let (x, at) = c.requires.inside in
    let end : c.loop-rest.rest ≡ 0 = omega arith in
    let here : node_of (extent_in table (tree_at types c.loop-rest.whole)) 0 ≡ Some x = ap (node_of (extent_in table (tree_at types c.loop-rest.whole))) (sym end) ∙ (sym c.loop-rest.invariant.same ∙ at) in
    at ∙ ap Some (sym (first_node (look_in table) (tree_at types c.loop-rest.whole) x c.loop-rest.invariant.plain here))
