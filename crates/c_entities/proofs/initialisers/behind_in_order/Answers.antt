use Rattle.std.proofs.Common.{arith, ◌≡◌, ◌∙◌, ◌+◌, ℕ, suc, length, drop, sym, ap}
use Rattle.std.proofs.lemmas.List.{take_rest}
use Rattle.std.proofs.Math.Seq.{drop-length}
use Rattle.c_entities.proofs.Placing.{behind_at, behind_nowhere}
use Rattle.c_entities.proofs.initialisers.behind_in_order.Goals as goal
use Rattle.c_entities.proofs.initialisers.behind_in_order.Goals.{else-at-list-via-then-at-list+else-list-at, else-at-list-via-else-at-list}

pub returns-then-list-at : goal.returns-then-list-at
returns-then-list-at c =
    let list = c.args.list.now in
    let k = c.first_from-at.result in
    let e : suc k ≡ k + 1 = omega arith in
    take_rest list (k + 1) ∙ sym (behind_at c.args.node list k c.requires c.if-at-list.true c.if-list-at.true ∙ ap (λ (n : ℕ). drop n list) e)

pub returns : goal.returns
returns c =
    let list = c.args.list.now in
    let k = c.first_from-at.result in
    let from = c.first_from-at.ensures in
    take_rest list (length list) ∙ (drop-length list ∙ sym (behind_nowhere c.args.node list k c.requires from.within (from.below c.requires) (from.above c.requires)
    (elim c.else-at-list.branch [ else-at-list-via-then-at-list+else-list-at w ↦ (λ lt e. w.if-list-at.false e) | else-at-list-via-else-at-list w ↦ (λ lt e. absurd (omega (arith, lt, w.if-at-list.false))) ])))
