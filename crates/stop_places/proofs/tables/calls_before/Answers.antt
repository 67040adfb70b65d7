use Rattle.std.proofs.Common.{◌≡◌, ℕ, ◌+◌, ◌<◌, ◌≤◌, true, false, cond, length, Some, slice_get, refl, sym, ap, ◌∙◌, arith}
use Rattle.std.proofs.lemmas.Option.{slice_get_read}
use Rattle.call_sites.specs.Calls.{calls_upto}
use Rattle.stop_places.proofs.Pushed.{map_pushed}
use Rattle.stop_places.proofs.Counting.{calls_more}
use Rattle.stop_places.proofs.tables.calls_before.Goals as goal
use Rattle.stop_places.proofs.tables.calls_before.Goals.{then-is_call, else-is_call}

pub loop-n-preserved : goal.loop-n-preserved
loop-n-preserved c =
    let nodes = c.args.nodes.now in
    let n = c.loop-n.n in
    let node = c.index-nodes-n.result in
    let at : slice_get nodes n ≡ Some node = slice_get_read nodes (length nodes) n node refl c.loop-n-test.true c.index-nodes-n.is in
    let more = calls_more nodes n node at in
    let so_far = c.loop-n.invariant.calls in
    let few = c.loop-n.invariant.few in
    record {
      list = map_pushed (λ k. length (calls_upto nodes k)) n c.loop-n.list.items c.push.new.self.items c.loop-n.calls c.loop-n.invariant.list c.in_ok-push.ensures.items so_far;
      calls = elim c.if-is_call.branch [
        | then-is_call w ↦ (let one = ap {B = ℕ} (λ b. cond b 1 0) (sym c.is_call.ensures ∙ w.if-is_call.true) in let is = w.calls-is in omega (arith, more, one))
        | else-is_call w ↦ (let none = ap {B = ℕ} (λ b. cond b 1 0) (sym c.is_call.ensures ∙ w.if-is_call.false) in let is = w.calls-is in omega (arith, more, none))
      ];
      few = elim c.if-is_call.branch [
        | then-is_call w ↦ (let is = w.calls-is in omega arith)
        | else-is_call w ↦ (let is = w.calls-is in omega arith)
      ];
    }
