use Rattle.std.proofs.Common.{arith, ◌≡◌, ◌∙◌, length, map, refl, ap}
use Rattle.tree_reads.specs.leaf_maps.Numbers.{number_at}
use Rattle.unit_finish.specs.unit_parts.Renamed.{renamed_node}
use Rattle.unit_finish.proofs.unit_parts.Ring.{come_more, come_room, turns_begin, turns_end}
use Rattle.unit_finish.proofs.unit_parts.renamed.rename_all.Goals as goal

pub loop-at-init : goal.loop-at-init
loop-at-init c =
    let f = renamed_node (number_at c.args.numbers.now) in
    let same = c.from_vec-ring.ensures.items in
    let long : c.len-count.result ≡ length c.args.nodes.items = omega (arith, c.len-count.ensures, c.args.nodes.ok) in
    record {
      room = omega (arith, long, ap length same);
      kept = turns_begin (map f) c.from_vec-ring.result.items c.args.nodes.items c.len-count.result same long;
    }

pub loop-at-preserved : goal.loop-at-preserved
loop-at-preserved c =
    let f = renamed_node (number_at c.args.numbers.now) in
    record {
      room = come_room f c.loop-at._at c.len-count.result c.loop-at.ring.items c.turn.new.ring.items c.in_ok-turn.ensures c.loop-at.invariant.room;
      kept =
          come_more f c.loop-at._at c.len-count.result c.loop-at.ring.items c.turn.new.ring.items (map f c.args.nodes.items) c.in_ok-turn.ensures c.loop-at-test.true c.loop-at.invariant.room
          c.loop-at.invariant.kept;
    }

pub returns : goal.returns
returns c =
    let f = renamed_node (number_at c.args.numbers.now) in
    c.into_vec.ensures.items
    ∙ turns_end (map f) c.loop-at.ring.items (map f c.args.nodes.items) c.loop-at._at c.len-count.result c.loop-at-test.false refl c.loop-at.invariant.kept
