use Rattle.std.proofs.Common.{get_or, ◌∙◌, ap}
use Rattle.std.proofs.lemmas.Option.{slice_get-get_or}
use Rattle.std.proofs.lemmas.List.Elements.{Contains-get_or}
use Rattle.sol_model.specs.Families.{room_left}
use Rattle.mod_ref.proofs.Rising.{closed_all, closed_next, contained_same, room_by, row_within, rows_counted, spreads_pair, spreads_then}
use Rattle.mod_ref.proofs.spreading.pass.Goals as goal

pub add_row-more-requires-clause-from : goal.add_row-more-requires-clause-from
add_row-more-requires-clause-from c =
    row_within c.loop-i.rows c.args.functions _ (rows_counted c.args.ways.now c.args.functions c.args.rows.now c.loop-i.rows c.requires.rows c.loop-i.invariant.spreads) ((c.requires.ways c.loop-i.i (0, 0, 0) c.loop-i-test.true).1)

pub add_row-more-requires-clause-to : goal.add_row-more-requires-clause-to
add_row-more-requires-clause-to c =
    row_within c.loop-i.rows c.args.functions _ (rows_counted c.args.ways.now c.args.functions c.args.rows.now c.loop-i.rows c.requires.rows c.loop-i.invariant.spreads) ((c.requires.ways c.loop-i.i (0, 0, 0) c.loop-i-test.true).0)

pub loop-i-preserved : goal.loop-i-preserved
loop-i-preserved c =
    let ways = c.args.ways.now in
    let way = get_or ways c.loop-i.i (0, 0, 0) in
    let old = c.args.rows.now in
    let now = c.loop-i.rows in
    let new = c.add_row-more.new.rows in
    let inv = c.loop-i.invariant in
    let add = c.add_row-more.ensures in
    record {
      spreads = spreads_then ways old now new inv.spreads (spreads_pair ways way.0 way.1 way.2 now new (Contains-get_or ways c.loop-i.i (0, 0, 0) c.loop-i-test.true) add.added add.width add.words);
      same = λ off. let both = c.either-changed.ensures.no off in add.same both.1 ∙ inv.same both.0;
      closed = λ off. let both = c.either-changed.ensures.no off in
          closed_next ways now new c.loop-i.i way.0 way.1 way.2 (slice_get-get_or ways c.loop-i.i (0, 0, 0) c.loop-i-test.true) (add.same both.1)
          (contained_same way.1 way.2 now new add.added (add.same both.1)) (inv.closed both.0);
      less_room = λ on. room_by c.loop-i.changed c.add_row-more.result (room_left old) (room_left now) (room_left new) (c.either-changed.ensures.yes on) inv.less_room (λ off. ap room_left (inv.same off)) add.less_room (λ off. ap room_left (add.same off));
    }

pub returns-clause-closed : goal.returns-clause-closed
returns-clause-closed c off = closed_all c.args.ways.now c.loop-i.rows c.loop-i.i c.loop-i-test.false (c.loop-i.invariant.closed off)
