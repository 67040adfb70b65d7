use Rattle.std.proofs.Common.{◌∙◌, ap}
use Rattle.c_senses.specs.Conversions.{promotion}
use Rattle.core_nodes.specs.Standing.{core_at}
use Rattle.core_nodes.proofs.Growing.{knows_on}
use Rattle.core_nodes.proofs.Failing.{fits_core}
use Rattle.core_nodes.proofs.integers.promoted_both.Goals as goal

pub returns-clause-made : goal.returns-clause-made
returns-clause-made c w k =
    let u0 = c.args.unit.now in
    let u1 = c.promotion.new.unit in
    let u2 = c.promotion-2.new.unit in
    let k1 = knows_on w u0 u1 c.in_ok-left.ensures.builds k in
    let left = fits_core u1 c.in_ok-left.left (promotion w (core_at u0 c.args.a)) (c.in_ok-left.ensures.made w k) in
    let right = fits_core u2 c.in_ok-right.right (promotion w (core_at u1 c.args.b)) (c.in_ok-right.ensures.made w k1) in
    (c.in_ok-right.ensures.builds.cores c.in_ok-left.left c.in_ok-left.ensures.within ∙ left, right ∙ ap (promotion w) (c.in_ok-left.ensures.builds.cores c.args.b c.requires.b))
