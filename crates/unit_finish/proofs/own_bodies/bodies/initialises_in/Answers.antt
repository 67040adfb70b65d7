use Rattle.std.proofs.Common.{◌≡◌, ◌∙◌, ◌+◌, ◌++◌, false, get_or, arith, append_assoc, drop, sym, ap}
use Rattle.unit_finish.specs.own_bodies.Own.{initialised_at, initialises_from}
use Rattle.unit_finish.proofs.own_bodies.Items.{initialises_more, same_mark}
use Rattle.unit_finish.proofs.own_bodies.bodies.initialises_in.Goals as goal

pub loop-i-preserved : goal.loop-i-preserved
loop-i-preserved c =
    let i = c.loop-i.i in
    let marks = c.args.marks.now in
    let nodes = c.args.nodes.now in
    let node = c.index-nodes-i.result in
    let marked = get_or marks i false in
    let here = initialised_at i marked node.kind in
    let later = initialises_from (i + 1) (drop (i + 1) marks) (drop (i + 1) nodes) in
    let step : initialises_from i (drop i marks) (drop i nodes) ≡ here ++ later = initialises_more marks nodes i marked node c.loop-i-test.true c.requires.long (same_mark marks i (omega (arith, c.requires.long, c.loop-i-test.true))) c.index-nodes-i.is in
    ap (λ l. l ++ later) c.in_ok-add_initialiser.ensures ∙ (append_assoc c.loop-i.pairs.items here later ∙ (ap (λ l. c.loop-i.pairs.items ++ l) (sym step) ∙ c.loop-i.invariant))
