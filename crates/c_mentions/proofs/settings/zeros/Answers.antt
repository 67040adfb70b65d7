use Rattle.std.proofs.Common.{◌≡◌, ℕ, ◌+◌, ◌-◌, ◌<◌, ◌≤◌, ◌++◌, List, replicate, append_assoc, ap, ◌∙◌, arith}
use Rattle.std.proofs.lemmas.List.{replicate-append-replicate, take-replicate}
use Rattle.c_mentions.proofs.settings.zeros.Goals as goal

pub loop-left-preserved : goal.loop-left-preserved
loop-left-preserved c =
    let above : 1024 < c.loop-left.left = c.loop-left-test.true in
    let whole : 1024 + (c.loop-left.left - 1024) ≡ c.loop-left.left = omega arith in
    let block : List ℕ = replicate 1024 0 in
    let rest : List ℕ = replicate (c.loop-left.left - 1024) 0 in
    ap (λ l. l ++ rest) c.in_ok-extend_from_slice.ensures.items
    ∙ (append_assoc c.loop-left.list.items block rest
    ∙ (ap (λ l. c.loop-left.list.items ++ l) (replicate-append-replicate 1024 (c.loop-left.left - 1024) 0 ∙ ap (λ n. replicate n 0) whole)
    ∙ c.loop-left.invariant))

pub returns : goal.returns
returns c =
    let below : c.loop-left.left ≤ 1024 = omega arith in
    c.in_ok-extend_from_slice-2.ensures.items
    ∙ (ap (λ l. c.loop-left.list.items ++ l) (take-replicate c.loop-left.left 1024 0 below)
    ∙ c.loop-left.invariant)
