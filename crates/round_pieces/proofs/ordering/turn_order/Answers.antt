use Rattle.std.proofs.Common.{◌≡◌, ◌<◌, List, Bool, false, length, ap, ◌∙◌, arith}
use Rattle.std.proofs.lemmas.List.{length-replicate}
use Rattle.round_pieces.proofs.Marking.{marked_below}
use Rattle.round_pieces.proofs.ordering.turn_order.Goals as goal

pub returns-clause-rows : goal.returns-clause-rows
returns-clause-rows c row h =
    let count : length c.in_ok-marks.marks.items ≡ c.args.rows = ap (λ (bs : List Bool). length bs) (c.in_ok-marks.ensures.items_if_clones_equal (λ y e. e)) ∙ length-replicate c.args.rows false in
    let one = c.put_once.ensures.length in
    let two = c.put_once-2.ensures.length in
    let below : row < length c.put_once-2.new.marks.items = marked_below c.put_once-2.new.out.items c.put_once-2.new.marks.items row c.in_ok-put_once-2.ensures.marked h in
    omega arith
