use Rattle.std.proofs.Common.{arith, [], None, ◌+◌, drop, length, refl, sym, ap, ◌∙◌, ◌≡◌, ◌<◌, Some, slice_get, map}
use Rattle.std.proofs.lemmas.Option.{slice_get_read}
use Rattle.c_inits.specs.Initial.{and_rest, Places, listed, starts, joined}
use Rattle.c_inits.specs.Tables.{type_shape}
use Rattle.c_inits.specs.Cursor.{path_of, sub_object}
use Rattle.c_inits.specs.Designated.{designator_of}
use Rattle.c_inits.specs.Places.{before_of}
use Rattle.c_initialise.specs.c_braces.Tree.{init_at, items_over}
use Rattle.c_initialise.specs.c_braces.Given.{within_list}
use Rattle.c_initialise.proofs.c_braces.Putting.{there, value_known, value_there, value_in, braces_there, items_before, items_known, gives_at, item_put, item_nowhere, item_placed, braces_out, braces_in, cleared_put, one_more, more_items, no_more}
use Rattle.c_initialise.proofs.c_braces.lists.+filling.Goals as goal

pub fill-put_value-requires-clause-value : goal.fill-put_value-requires-clause-value
fill-put_value-requires-clause-value t c =
    let read : slice_get c.args.walk.now.inits.now c.args.at ≡ Some c.index-walk-at.result = slice_get_read c.args.walk.now.inits.now (length c.args.walk.now.inits.now) c.args.at c.index-walk-at.result refl c.requires.at c.index-walk-at.is in
    value_known c.args.walk.now.types.now c.args.walk.now.inits.now c.args.at c.index-walk-at.result c.in-Value.node c.in-Value.value c.requires.inits read (c.index-walk-at.is ∙ c.in-Value.is)

pub fill-filling_string-requires-clause-items : goal.fill-filling_string-requires-clause-items
fill-filling_string-requires-clause-items t c =
    let read : slice_get c.args.walk.now.inits.now c.args.at ≡ Some c.index-walk-at.result = slice_get_read c.args.walk.now.inits.now (length c.args.walk.now.inits.now) c.args.at c.index-walk-at.result refl c.requires.at c.index-walk-at.is in
    rw c.as_slice.ensures.value (items_known c.args.at (length c.args.walk.now.inits.now) c.in-Braces.items.items c.requires.at
    (items_before c.args.walk.now.types.now c.args.walk.now.inits.now c.args.at c.index-walk-at.result c.in-Braces.node c.in-Braces.items c.requires.inits read (c.index-walk-at.is ∙ c.in-Braces.is)))

pub fill-put_value-requires-in-Some-clause-value : goal.fill-put_value-requires-in-Some-clause-value
fill-put_value-requires-in-Some-clause-value t c = (c.in-Some.ensures (Places [])).0

pub fill-fill_list-requires : goal.fill-fill_list-requires
fill-fill_list-requires t c =
    let read : slice_get c.args.walk.now.inits.now c.args.at ≡ Some c.index-walk-at.result = slice_get_read c.args.walk.now.inits.now (length c.args.walk.now.inits.now) c.args.at c.index-walk-at.result refl c.requires.at c.index-walk-at.is in (
      omega (arith, c.decreases),
      (
        c.requires.known,
        (
          c.requires.shaped,
          (
            c.requires.inits,
            (
              c.requires.at,
              rw c.as_slice-in-None.ensures.value (items_before c.args.walk.now.types.now c.args.walk.now.inits.now c.args.at c.index-walk-at.result c.in-Braces.node c.in-Braces.items c.requires.inits read (c.index-walk-at.is ∙ c.in-Braces.is)),
            ),
          ),
        ),
      ),
    )

pub fill-returns-in_ok-bad-in-Value : goal.fill-returns-in_ok-bad-in-Value
fill-returns-in_ok-bad-in-Value t c =
    let read : slice_get c.args.walk.now.inits.now c.args.at ≡ Some c.index-walk-at.result = slice_get_read c.args.walk.now.inits.now (length c.args.walk.now.inits.now) c.args.at c.index-walk-at.result refl c.requires.at c.index-walk-at.is in
    gives_at _ _ _ _ _ _
    (value_there c.args.walk.now.types.now c.args.walk.now.inits.now c.args.at c.index-walk-at.result (type_shape c.args.walk.now.types.now c.args.walk.now.limit c.args.id.0) c.in-Value.node c.in-Value.value c.requires.inits read (c.index-walk-at.is ∙ c.in-Value.is))
    c.in_ok-bad-in-Value.ensures

pub fill-returns-in_ok-bad-in-Some : goal.fill-returns-in_ok-bad-in-Some
fill-returns-in_ok-bad-in-Some t c =
    let read : slice_get c.args.walk.now.inits.now c.args.at ≡ Some c.index-walk-at.result = slice_get_read c.args.walk.now.inits.now (length c.args.walk.now.inits.now) c.args.at c.index-walk-at.result refl c.requires.at c.index-walk-at.is in
    let shape = type_shape c.args.walk.now.types.now c.args.walk.now.limit c.args.id.0 in
    let list = listed shape None (items_over (init_at c.args.walk.now.types.now c.args.walk.now.inits.now) c.in-Braces.items.items) in
    gives_at _ _ _ _ _ _
    (sym (braces_there c.args.walk.now.types.now c.args.walk.now.inits.now c.args.at c.index-walk-at.result shape c.in-Braces.node c.in-Braces.items c.requires.inits read (c.index-walk-at.is ∙ c.in-Braces.is)
    ∙ (rw c.as_slice.ensures.value at (c.in-Some.ensures list)).1))
    c.in_ok-bad-in-Some.ensures

pub fill-returns-in_ok-bad-in-None : goal.fill-returns-in_ok-bad-in-None
fill-returns-in_ok-bad-in-None t c =
    let read : slice_get c.args.walk.now.inits.now c.args.at ≡ Some c.index-walk-at.result = slice_get_read c.args.walk.now.inits.now (length c.args.walk.now.inits.now) c.args.at c.index-walk-at.result refl c.requires.at c.index-walk-at.is in
    let shape = type_shape c.args.walk.now.types.now c.args.walk.now.limit c.args.id.0 in
    let list = listed shape None (items_over (init_at c.args.walk.now.types.now c.args.walk.now.inits.now) c.in-Braces.items.items) in
    gives_at _ _ _ _ _ _
    (sym (braces_there c.args.walk.now.types.now c.args.walk.now.inits.now c.args.at c.index-walk-at.result shape c.in-Braces.node c.in-Braces.items c.requires.inits read (c.index-walk-at.is ∙ c.in-Braces.is)
    ∙ rw c.as_slice.ensures.value at (c.in-None.ensures list)))
    (rw c.as_slice-in-None.ensures.value at c.in_ok-bad-in-None.ensures)

pub fill_item-place_item-requires-clause-value : goal.fill_item-place_item-requires-clause-value
fill_item-place_item-requires-clause-value t c =
    let lt : c.args.entry.now.init < length c.args.walk.now.inits.now = c.requires.entry in
    let n = there c.args.walk.now.inits.now c.args.entry.now.init lt in
    value_in c.args.walk.now.types.now c.args.walk.now.inits.now c.args.entry.now.init n.0 c.value_at-value.result c.requires.inits n.1 (c.value_at-value.ensures n.0 n.1)

pub fill_item-returns-in-Err-clause-item : goal.fill_item-returns-in-Err-clause-item
fill_item-returns-in-Err-clause-item t c =
    let lt : c.args.entry.now.init < length c.args.walk.now.inits.now = c.requires.entry in
    let n = there c.args.walk.now.inits.now c.args.entry.now.init lt in
    let whole = type_shape c.args.walk.now.types.now c.args.walk.now.limit c.args.id.0 in
    let start = starts whole (before_of c.args.started (path_of c.args.frames.now.items)) (map designator_of c.args.entry.now.designators.items) in
    λ rest. item_nowhere c.args.walk.now.types.now c.args.walk.now.inits.now c.args.entry.now.init n.0 c.requires.inits n.1 c.node_at-node.result c.value_at-value.result (c.node_at-node.ensures n.0 n.1) (c.value_at-value.ensures n.0 n.1)
    start c.in-Err.bad (within_list whole (init_at c.args.walk.now.types.now c.args.walk.now.inits.now c.args.entry.now.init)) rest
    (rw (c.in-Err.is, c.as_slice.ensures.value) at c.in_ok-bad.ensures.place)

pub fill_item-returns-then-is_out_of_place-clause-item : goal.fill_item-returns-then-is_out_of_place-clause-item
fill_item-returns-then-is_out_of_place-clause-item t c =
    let lt : c.args.entry.now.init < length c.args.walk.now.inits.now = c.requires.entry in
    let n = there c.args.walk.now.inits.now c.args.entry.now.init lt in
    let table = c.args.walk.now.types.now in
    let whole = type_shape table c.args.walk.now.limit c.args.id.0 in
    let start = starts whole (before_of c.args.started (path_of c.args.frames.now.items)) (map designator_of c.args.entry.now.designators.items) in
    let here = sub_object table c.args.walk.now.limit (path_of c.place_item.new.frames.items) c.in-Ok.here.0 in
    let init = init_at table c.args.walk.now.inits.now c.args.entry.now.init in
    let node_is = c.node_at-node.ensures n.0 n.1 in
    let value_is = c.value_at-value.ensures n.0 n.1 in
    let placed = rw (c.in-Ok.is, c.as_slice.ensures.value) at c.in_ok-bad.ensures.place in
    λ rest. item_placed table c.args.walk.now.inits.now c.args.entry.now.init n.0 c.requires.inits n.1 c.node_at-node.result c.value_at-value.result node_is value_is
    start here (within_list whole init) rest placed.0
    ∙ ap (λ o. joined here.path o (rest here.path))
    (braces_out table c.args.walk.now.inits.now c.args.entry.now.init n.0 c.requires.inits n.1 c.node_at-node.result c.value_at-value.result node_is value_is
    whole here.shape c.is_out_of_place.result c.is_out_of_place.ensures c.if-is_out_of_place.true)

pub fill_item-returns-in_ok-bad-in-Ok-clause-item : goal.fill_item-returns-in_ok-bad-in-Ok-clause-item
fill_item-returns-in_ok-bad-in-Ok-clause-item t c =
    let lt : c.args.entry.now.init < length c.args.walk.now.inits.now = c.requires.entry in
    let n = there c.args.walk.now.inits.now c.args.entry.now.init lt in
    let table = c.args.walk.now.types.now in
    let whole = type_shape table c.args.walk.now.limit c.args.id.0 in
    let start = starts whole (before_of c.args.started (path_of c.args.frames.now.items)) (map designator_of c.args.entry.now.designators.items) in
    let here = sub_object table c.args.walk.now.limit (path_of c.place_item.new.frames.items) c.in-Ok.here.0 in
    let init = init_at table c.args.walk.now.inits.now c.args.entry.now.init in
    let node_is = c.node_at-node.ensures n.0 n.1 in
    let value_is = c.value_at-value.ensures n.0 n.1 in
    let placed = rw (c.in-Ok.is, c.as_slice.ensures.value) at c.in_ok-bad.ensures.place in
    item_put whole start init here.shape here.path c.args.path.now c.in_ok-whole-in-Ok.whole.items _ _ _ c.in_ok-bad-in-Ok.bad
    (λ rest. item_placed table c.args.walk.now.inits.now c.args.entry.now.init n.0 c.requires.inits n.1 c.node_at-node.result c.value_at-value.result node_is value_is
    start here (within_list whole init) rest placed.0
    ∙ ap (λ o. joined here.path o (rest here.path))
    (braces_in table c.args.walk.now.inits.now c.args.entry.now.init n.0 c.requires.inits n.1 c.node_at-node.result c.value_at-value.result node_is value_is
    whole here.shape c.is_out_of_place.result c.is_out_of_place.ensures c.if-is_out_of_place.false))
    (rw c.as_slice-in-Ok.ensures.value at c.in_ok-whole-in-Ok.ensures)
    (cleared_put c.args.actions.now.items c.push_action.new.actions.items c.in_ok-cleared-in-Ok.cleared c.in_ok-whole-in-Ok.whole.items c.in_ok-push_action-in-Ok.ensures (rw c.as_slice-in-Ok-2.ensures.value at c.in_ok-cleared-in-Ok.ensures))
    (rw c.as_slice-in-Ok-3.ensures.value at c.in_ok-bad-in-Ok.ensures)

pub fill_list-returns-in-Some : goal.fill_list-returns-in-Some
fill_list-returns-in-Some t c =
    let table = c.args.walk.now.types.now in
    let whole = type_shape table c.args.walk.now.limit c.args.id.0 in
    let f = init_at table c.args.walk.now.inits.now in
    let before = before_of c.loop-entry.started (path_of c.loop-entry.frames.items) in
    let entry = c.entry-item.result in
    let rest = items_over f (drop (c.loop-entry.entry-index + 1) c.args.items.now) in
    let done = c.loop-entry.invariant.done in
    no_more whole before (map designator_of entry.designators.items) (f entry.init) rest _ done.0 (path_of c.fill_item.new.frames.items) c.args.path.now [] [] c.in-Some.bad
    (done.1 ∙ ap (λ l. and_rest done.0 (listed whole before l)) (one_more f c.args.items.now c.loop-entry.entry-index entry c.loop-entry-test.true c.entry-item.is))
    (rw c.in-Some.is at c.in_ok-bad.ensures.item)

pub fill_list-loop-entry-preserved : goal.fill_list-loop-entry-preserved
fill_list-loop-entry-preserved t c =
    let table = c.args.walk.now.types.now in
    let whole = type_shape table c.args.walk.now.limit c.args.id.0 in
    let f = init_at table c.args.walk.now.inits.now in
    let before = before_of c.loop-entry.started (path_of c.loop-entry.frames.items) in
    let entry = c.entry-item.result in
    let rest = items_over f (drop (c.loop-entry.entry-index + 1) c.args.items.now) in
    let done = c.loop-entry.invariant.done in
    record {
      done = more_items whole before (map designator_of entry.designators.items) (f entry.init) rest _ done.0 (path_of c.fill_item.new.frames.items) c.args.path.now _ _ _
          (done.1 ∙ ap (λ l. and_rest done.0 (listed whole before l)) (one_more f c.args.items.now c.loop-entry.entry-index entry c.loop-entry-test.true c.entry-item.is))
          done.2
          (rw c.in-None.is at c.in_ok-bad.ensures.item);
      stands = c.in_ok-bad.ensures.stands;
      fresh = λ e. cc;
    }
