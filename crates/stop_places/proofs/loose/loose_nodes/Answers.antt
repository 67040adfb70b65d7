use Rattle.std.proofs.Common.{◌↔◌, false, IsTrue}
use Rattle.stop_places.specs.Loose.{IsLooseNode}
use Rattle.stop_places.specs.Sight.{solution_in}
use Rattle.stop_places.proofs.Pushed.{each_pushed, length_pushed}
use Rattle.stop_places.proofs.loose.loose_nodes.Goals as goal

pub loop-n-preserved : goal.loop-n-preserved
loop-n-preserved c =
    let so_far = c.loop-n.invariant in
    record {
      each = length_pushed c.loop-n.list.items c.push.new.self.items c.is_loose_node-loose.result c.loop-n.n c.in_ok-push.ensures.items so_far.each;
      right =
          each_pushed (λ k b. IsTrue b ↔ IsLooseNode (solution_in c.args.sight.now).trees k) c.loop-n.list.items c.push.new.self.items c.is_loose_node-loose.result false c.loop-n.n
          c.in_ok-push.ensures.items so_far.each so_far.right c.is_loose_node-loose.ensures;
    }
