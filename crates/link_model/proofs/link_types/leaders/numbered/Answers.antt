use Rattle.std.proofs.Common.{◌≡◌, ℕ, ◌+◌, ◌<◌, List, ◌∷◌, [], ◌++◌, length, length-append, get_or, sym, ap, subst, ◌∙◌, arith}
use Rattle.std.specs.Global.{Vec}
use Rattle.link_model.specs.link_types.Leaders.{leaders_below}
use Rattle.link_model.proofs.link_types.Numbering.{each_more, below_new, below_old, led_number, read_as}
use Rattle.link_model.proofs.link_types.leaders.numbered.Goals as goal
use Rattle.link_model.proofs.link_types.leaders.numbered.Goals.{then-leader-here+in_ok-push, else-leader-here+in_ok-push-2}

abbrev HasEach : List ℕ → List ℕ → ℕ → Type 0
HasEach leaders xs n = (k : ℕ) → k < n → get_or xs k 0 ≡ leaders_below leaders (get_or leaders k 0)

pub loop-here-preserved : goal.loop-here-preserved
loop-here-preserved c = elim c.if-leader-here.branch [
  | then-leader-here+in_ok-push w ↦ (
      let leaders = c.args.leaders.now in
      let i = c.loop-here.here in
      let own = w.if-leader-here.true in
      let items : c.if-leader-here.list.items ≡ c.loop-here.list.items ++ c.loop-here.count ∷ [] = ap (λ (v : Vec ℕ). v.items) w.list-is ∙ w.in_ok-push.ensures.items in
      let small = c.loop-here.invariant.small in
      let count = w.count-is in
      record {
        count_is = count ∙ (ap (λ n. n + 1) c.loop-here.invariant.count_is ∙ sym (below_new leaders i own));
        small = omega arith;
        all = ap length items ∙ (length-append c.loop-here.list.items (c.loop-here.count ∷ []) ∙ ap (λ n. n + 1) c.loop-here.invariant.all);
        each = subst (λ xs. HasEach leaders xs (i + 1)) (sym items)
            (each_more c.loop-here.list.items c.loop-here.count i (λ k. leaders_below leaders (get_or leaders k 0)) c.loop-here.invariant.all c.loop-here.invariant.each (c.loop-here.invariant.count_is ∙ ap (leaders_below leaders) (sym own)));
      })
  | else-leader-here+in_ok-push-2 w ↦ (
      let leaders = c.args.leaders.now in
      let i = c.loop-here.here in
      let other = w.if-leader-here.false in
      let items : c.if-leader-here.list.items ≡ c.loop-here.list.items ++ w.index.result.now ∷ [] = ap (λ (v : Vec ℕ). v.items) w.list-is ∙ w.in_ok-push-2.ensures.items in
      let small = c.loop-here.invariant.small in
      let count = w.count-is in
      let below = c.requires.leaders.below i c.loop-here-test.true in
      let all = c.loop-here.invariant.all in
      let within : get_or leaders i 0 < length c.loop-here.list.items = omega arith in
      let number : w.index.result.now ≡ leaders_below leaders (get_or leaders i 0) = read_as c.loop-here.list.items (get_or leaders i 0) w.index.result.now within w.index.ensures ∙ led_number leaders c.loop-here.list.items i c.requires.leaders c.loop-here-test.true other c.loop-here.invariant.each in
      record {
        count_is = count ∙ (c.loop-here.invariant.count_is ∙ sym (below_old leaders i other));
        small = omega arith;
        all = ap length items ∙ (length-append c.loop-here.list.items (w.index.result.now ∷ []) ∙ ap (λ n. n + 1) all);
        each = subst (λ xs. HasEach leaders xs (i + 1)) (sym items)
            (each_more c.loop-here.list.items w.index.result.now i (λ k. leaders_below leaders (get_or leaders k 0)) all c.loop-here.invariant.each number);
      })
]
