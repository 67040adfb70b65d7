use Rattle.std.proofs.Common.{arith, sym, ◌∙◌}
use Rattle.c_grammar.specs.Productions.{p_init, p_items}
use Rattle.c_inits.specs.View.{all_designators}
use Rattle.c_initialise.specs.c_braces.Tree.{init_at}
use Rattle.c_initialise.proofs.c_braces.Grown.{grows_on}
use Rattle.c_initialise.specs.Facts.{told}
use Rattle.c_initialise.specs.Read.{before, part_at}
use Rattle.c_initialise.proofs.Viewed.{kids}
use Rattle.c_initialise.proofs.Listed.{first_is, braces_read, value_read, item_read, item_without, all_taken, take_item, pass_item, skip_item, one_before, still_before}
use Rattle.c_initialise.proofs.reading.+reading.Goals.{read_items-then-is_child+in_ok-entry+in-Some+in_ok-push_entry-in-Some, read_items-then-is_child+in_ok-entry+in-None, read_items-else-is_child}
use Rattle.c_initialise.proofs.reading.+reading.Goals as goal

pub read_init-read_items-requires : goal.read_init-read_items-requires
read_init-read_items-requires t c =
    let s = told c.args.source.now in
    let at = first_is s c.args.source.now.syntax.now.tree.now.nodes.items c.args.node p_items c.child_before.result c.in-Some.list c.child_before.ensures c.in-Some.is in
    let lower = at.0 in
    (omega (arith, c.decreases, lower), (c.requires.known, (c.requires.inits, at.1)))

pub read_init-returns-in_ok-at-in-Some-clause-init : goal.read_init-returns-in_ok-at-in-Some-clause-init
read_init-returns-in_ok-at-in-Some-clause-init t c =
    let s = told c.args.source.now in
    braces_read s c.args.source.now.syntax.now.tree.now.nodes.items c.args.node _ _ c.child_before.result c.in-Some.list c.requires.node c.child_before.ensures c.in-Some.is
    c.in_ok-entries-in-Some.ensures.items c.in_ok-at-in-Some.ensures.init

pub read_init-returns-in_ok-at-in-None-clause-init : goal.read_init-returns-in_ok-at-in-None-clause-init
read_init-returns-in_ok-at-in-None-clause-init t c =
    let s = told c.args.source.now in
    value_read s c.args.source.now.syntax.now.tree.now.nodes.items c.args.node _ _ _ c.child_before.result c.requires.node c.child_before.ensures c.in-None.is
    c.in_ok-at-in-None.ensures.init c.expression_at-value.ensures.ty c.expression_at-value.ensures.text

pub read_item-read_init-requires : goal.read_item-read_init-requires
read_item-read_init-requires t c =
    let s = told c.args.source.now in
    let at = first_is s c.args.source.now.syntax.now.tree.now.nodes.items c.args.item p_init c.child_before.result c.in-Some.child c.child_before.ensures c.in-Some.is in
    let lower = at.0 in
    (omega (arith, c.decreases, lower), (c.requires.known, (c.requires.inits, at.1)))

pub read_item-returns-in_ok-init-in-Some-clause-item : goal.read_item-returns-in_ok-init-in-Some-clause-item
read_item-returns-in_ok-init-in-Some-clause-item t c =
    let s = told c.args.source.now in (
      c.in_ok-init-in-Some.ensures.at,
      item_read s c.args.source.now.syntax.now.tree.now.nodes.items c.args.item _ _ c.child_before.result c.in-Some.child c.requires.item c.child_before.ensures c.in-Some.is
          c.in_ok-designators-in-Some.ensures c.in_ok-init-in-Some.ensures.init,
    )

pub read_item-returns-in-None-clause-item : goal.read_item-returns-in-None-clause-item
read_item-returns-in-None-clause-item t c =
    let s = told c.args.source.now in
    let nodes = c.args.source.now.syntax.now.tree.now.nodes.items in (
      all_designators (before c.args.item (part_at s nodes)) (kids s nodes c.args.item),
      item_without s nodes c.args.item c.child_before.result c.requires.item c.child_before.ensures c.in-None.is,
    )

pub read_items-loop-child-preserved : goal.read_items-loop-child-preserved
read_items-loop-child-preserved t c =
    let table = c.args.source.now.unit.now.types in
    let s = told c.args.source.now in
    let nodes = c.args.source.now.syntax.now.tree.now.nodes.items in
    let all = c.children_of-child-items.result.now in
    let same = c.children_of-child-items.ensures in
    let old = c.loop-child.inits.items in
    let es = c.loop-child.entries.items in
    elim c.if-is_child.branch [
      | read_items-then-is_child+in_ok-entry+in-Some+in_ok-push_entry-in-Some w ↦
          let g = w.in_ok-entry.ensures.grows in
          let it = rw w.in-Some.is at w.in_ok-entry.ensures.item in
          record {
            items = rw (w.inits-is, w.entries-is) (take_item s nodes c.args.list all same c.loop-child.child-index _ c.loop-child-test.true
                table old w.read_item.new.inits.items es g c.loop-child.invariant.within _ _ w.in-Some.entry (sym c.is_child.ensures ∙ w.if-is_child.true)
                c.loop-child.invariant.items w.in_ok-push_entry-in-Some.ensures it);
            within = rw (w.inits-is, w.entries-is) (one_before s nodes c.args.list all same c.loop-child.child-index 0 c.loop-child-test.true
                table old w.read_item.new.inits.items es g c.loop-child.invariant.within _ w.in-Some.entry w.in_ok-push_entry-in-Some.ensures it.0);
            grows = rw w.inits-is (grows_on table _ old w.read_item.new.inits.items c.loop-child.invariant.grows g);
          }
      | read_items-then-is_child+in_ok-entry+in-None w ↦
          let g = w.in_ok-entry.ensures.grows in
          let it = rw w.in-None.is at w.in_ok-entry.ensures.item in
          record {
            items = rw (w.inits-is, w.entries-is) (pass_item s nodes c.args.list all same c.loop-child.child-index _ c.loop-child-test.true
                table old w.read_item.new.inits.items es g c.loop-child.invariant.within _ (sym c.is_child.ensures ∙ w.if-is_child.true) c.loop-child.invariant.items it);
            within = rw (w.inits-is, w.entries-is) (still_before s nodes c.args.list all same c.loop-child.child-index 0 c.loop-child-test.true
                table old w.read_item.new.inits.items es g c.loop-child.invariant.within);
            grows = rw w.inits-is (grows_on table _ old w.read_item.new.inits.items c.loop-child.invariant.grows g);
          }
      | read_items-else-is_child w ↦ record {
        items = rw (w.inits-is, w.entries-is) (skip_item s nodes c.args.list all same c.loop-child.child-index _ c.loop-child-test.true
            _ (init_at table old) es (sym c.is_child.ensures ∙ w.if-is_child.false) c.loop-child.invariant.items);
        within = rw (w.inits-is, w.entries-is) c.loop-child.invariant.within;
        grows = rw w.inits-is c.loop-child.invariant.grows;
      }
    ]

pub read_items-returns-clause-items : goal.read_items-returns-clause-items
read_items-returns-clause-items t c =
    let s = told c.args.source.now in
    all_taken s c.args.source.now.syntax.now.tree.now.nodes.items c.args.list c.children_of-child-items.result.now c.loop-child.child-index _ _
    c.children_of-child-items.ensures c.loop-child-test.false c.requires.list c.loop-child.invariant.items
