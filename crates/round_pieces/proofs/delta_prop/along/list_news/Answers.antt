use Rattle.std.proofs.Common.{◌+◌, ◌<◌, ◌^◌, ℕ, List, length, get_or, Vec, Global, sym, ap, ◌∙◌, subst, arith}
use Rattle.round_pieces.proofs.delta_prop.Carries.{Listed, listed_none, listed_new, listed_same, listed_all}
use Rattle.round_pieces.proofs.delta_prop.along.list_news.Goals as goal
use Rattle.round_pieces.proofs.delta_prop.along.list_news.Goals.{then-new-ne0+in_ok-push, else-new-ne0}

pub loop-k-init : goal.loop-k-init
loop-k-init c =
    subst (λ (xs : List (ℕ × ℕ)). Listed (length c.args.now.now) c.args.first c.args.first c.args.done.now c.args.now.now xs) (sym c.clear.ensures.items)
    (listed_none (length c.args.now.now) c.args.first c.args.done.now c.args.now.now c.requires.range.0)

pub loop-k-preserved : goal.loop-k-preserved
loop-k-preserved c =
    let done = c.args.done.now in
    let now = c.args.now.now in
    let W : ℕ = length now in
    let k : ℕ = c.loop-k.k in
    let lt : k < W = (let n = c.loop-k-test.true in let e = c.requires.range.1 in omega arith) in
    let d : get_or done k 0 < 2 ^ 64 = omega arith in
    let n : get_or now k 0 < 2 ^ 64 = omega arith in
    let P : List (ℕ × ℕ) → Type 0 = Listed W c.args.first (k + 1) done now in
    elim c.if-new-ne0.branch [
      | then-new-ne0+in_ok-push w ↦
          subst P (sym (ap (λ (v : Vec (ℕ × ℕ) Global). v.items) w.news-is ∙ w.in_ok-push.ensures.items))
          (listed_new W c.args.first k done now c.loop-k.news.items c.loop-k.invariant lt d n w.if-new-ne0.true)
      | else-new-ne0 w ↦
          subst P (sym (ap (λ (v : Vec (ℕ × ℕ) Global). v.items) w.news-is))
          (listed_same W c.args.first k done now c.loop-k.news.items c.loop-k.invariant lt d n w.if-new-ne0.false)
    ]

pub returns : goal.returns
returns c = listed_all (length c.args.now.now) c.args.first c.args.end c.loop-k.k c.args.done.now c.args.now.now c.loop-k.news.items c.loop-k.invariant (let n = c.loop-k-test.false in omega arith) c.requires.beside
