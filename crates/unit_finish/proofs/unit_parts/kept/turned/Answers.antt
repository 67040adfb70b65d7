use Rattle.std.proofs.Common.{arith, ◌≡◌, ◌∙◌, ◌<◌, List, length, map, drop, refl, ap}
use Rattle.core_tree.specs.declared.node.Node.{Node}
use Rattle.unit_finish.specs.unit_parts.Numbered.{moved, staying}
use Rattle.unit_finish.proofs.unit_parts.Ring.{turn_more, turn_room, turns_begin, turns_end}
use Rattle.unit_finish.proofs.unit_parts.kept.turned.Goals as goal

pub loop-at-init : goal.loop-at-init
loop-at-init c =
    let numbers = c.args.numbers.now in
    let same = c.from_vec-ring.ensures.items in
    let long : c.len-count.result ≡ length c.args.nodes.items = omega (arith, c.len-count.ensures, c.args.nodes.ok) in
    record {
      room = omega (arith, long, ap length same);
      kept = turns_begin (λ (l : List Node). map (moved numbers) (staying l numbers)) c.from_vec-ring.result.items c.args.nodes.items c.len-count.result same long;
    }

pub loop-at-preserved : goal.loop-at-preserved
loop-at-preserved c =
    let numbers = c.args.numbers.now in
    let at = c.loop-at.at in
    let long : c.len-count.result ≡ length c.args.nodes.items = omega (arith, c.len-count.ensures, c.args.nodes.ok) in
    let few : at < length numbers = omega (arith, c.loop-at-test.true, c.requires, long) in
    record {
      room = turn_room numbers at c.len-count.result c.loop-at.ring.items c.turn.new.ring.items c.in_ok-turn.ensures c.loop-at.invariant.room;
      kept =
          turn_more numbers at c.len-count.result c.loop-at.ring.items c.turn.new.ring.items (map (moved numbers) (staying c.args.nodes.items numbers)) c.in_ok-turn.ensures c.loop-at-test.true few c.loop-at.invariant.room
          c.loop-at.invariant.kept;
    }

pub returns : goal.returns
returns c =
    let numbers = c.args.numbers.now in
    c.into_vec.ensures.items
    ∙ turns_end (λ (l : List Node). map (moved numbers) (staying l (drop c.loop-at.at numbers))) c.loop-at.ring.items (map (moved numbers) (staying c.args.nodes.items numbers)) c.loop-at.at c.len-count.result c.loop-at-test.false refl c.loop-at.invariant.kept
