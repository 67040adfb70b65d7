use Rattle.std.proofs.Common.{◌≡◌, ℕ, Some, slice_get, sym, subst, ◌∙◌}
use Rattle.std.proofs.lemmas.Option.{same_Some}
use Rattle.sol_model.specs.declared.system.CallSite.{CallSite}
use Rattle.sol_model.specs.Families.{members}
use Rattle.stop_places.specs.Found.{IsJudged, nothing}
use Rattle.stop_places.proofs.Pushed.{each_pushed, length_pushed}
use Rattle.stop_places.proofs.targets.judged_calls.Goals as goal

pub loop-number-preserved : goal.loop-number-preserved
loop-number-preserved c =
    let system = c.args.system.now in
    let F = members c.args.rows.now in
    let before = c.loop-number.invariant in
    let n : ℕ = c.loop-number.number in
    record {
      each = length_pushed c.loop-number.list.items c.push.new.self.items c.in_ok-one.one n c.in_ok-push.ensures.items before.each;
      right =
          each_pushed (λ k j. (call : CallSite) → slice_get system.calls k ≡ Some call → IsJudged system F call j) c.loop-number.list.items c.push.new.self.items c.in_ok-one.one nothing n
          c.in_ok-push.ensures.items before.each before.right
          (λ call at. subst (λ (x : CallSite). IsJudged system F x c.in_ok-one.one) (same_Some c.call_at.result.now call (sym c.call_at.ensures.value ∙ at)) c.in_ok-one.ensures);
    }
