use Rattle.std.proofs.Common.{rules, arith, ◌≡◌, [], map, ap, sym, ◌∙◌, None}
use Rattle.c_types.specs.Table.{Table, type_of}
use Rattle.c_inits.specs.Initial.{NoPlace}
use Rattle.c_inits.specs.Items.{action_of}
use Rattle.c_inits.specs.Syntax.{init_node}
use Rattle.c_inits.specs.Tables.{type_shape, shape_in, fillable}
use Rattle.c_initialise.specs.c_braces.Tree.{init_at}
use Rattle.c_initialise.specs.c_braces.Initialised.{outcome_for}
use Rattle.c_initialise.proofs.c_braces.Inits.{init_is}
use Rattle.c_initialise.proofs.c_braces.Putting.{there, node_is, gives_at}
use Rattle.c_initialise.proofs.c_braces.Shaped.{has_none, has_some, with_shape, open_width}
use Rattle.c_initialise.proofs.c_braces.Reached.{put_below, all_given}
use Rattle.c_initialise.proofs.c_braces.items.initialise.Goals as goal

pub returns-then-not-has_shape : goal.returns-then-not-has_shape
returns-then-not-has_shape c =
    let table : Table = c.args.walk.now.types.now in
    let nodes = c.args.walk.now.inits.now in
    let n = there nodes c.args.at c.requires.at in
    has_none (shape_in table c.args.walk.now.limit c.args.id.0) (init_at table nodes c.args.at) c.has_shape.result (c.has_shape.ensures c.args.walk.now.limit) c.if-not-has_shape.true
    ∙ ap (λ k. NoPlace k) (ap init_node (init_is table nodes c.args.at n.0 c.requires.inits n.1) ∙ node_is table (init_at table nodes) n.0 ∙ sym (c.node_at.ensures n.0 n.1))

pub given_length-length-requires-clause-below : goal.given_length-length-requires-clause-below
given_length-length-requires-clause-below c = λ e.
    let table : Table = c.args.walk.now.types.now in
    let empty : map action_of c.new-actions.result.items ≡ [] = search rules in
    let put = put_below (type_shape table c.args.walk.now.limit c.args.id.0) (init_at table c.args.walk.now.inits.now c.args.at) _ _ empty (rw c.in-None.is at c.in_ok-bad.ensures) in
    let wide = open_width (fillable table) c.args.walk.now.limit (type_of table c.args.id.0) e in
    rw c.as_slice.ensures.value (omega (arith, put, wide))

pub returns-in_ok-items-in-None : goal.returns-in_ok-items-in-None
returns-in_ok-items-in-None c =
    let table : Table = c.args.walk.now.types.now in
    let shape = shape_in table c.args.walk.now.limit c.args.id.0 in
    let init = init_at table c.args.walk.now.inits.now c.args.at in
    let empty : map action_of c.new-actions.result.items ≡ [] = search rules in
    let some = has_some shape c.has_shape.result (c.has_shape.ensures c.args.walk.now.limit) c.if-not-has_shape.false in
    all_given (type_of table c.args.id.0) (outcome_for shape init) _ _ _ _ empty
    (gives_at _ _ [] (map action_of c.new-actions.result.items) (map action_of c.fill.new.actions.items) None (with_shape shape init some) (rw c.in-None.is at c.in_ok-bad.ensures))
    c.in_ok-items-in-None.ensures
    (rw c.as_slice.ensures.value at c.given_length-length.ensures)
