use Rattle.std.proofs.Common.{◌≡◌, ◌∙◌, ap}
use Rattle.core_tree.specs.declared.node.Op.{Op}
use Rattle.c_consts.specs.Core.{Core}
use Rattle.c_senses.specs.Operators.{number_core}
use Rattle.c_senses.specs.Objects.{update_row}
use Rattle.core_nodes.specs.Standing.{core_at}
use Rattle.core_nodes.proofs.Growing.{knows_on}
use Rattle.core_nodes.proofs.Failing.{made_same, fits_core}
use Rattle.expression_rows.proofs.c_rows.postfix.counted.Goals as goal

pub returns-clause-made : goal.returns-clause-made
returns-clause-made c w k =
    let u0 = c.args.unit.now in
    let u1 = c.int_number.new.unit in
    let p = c.args.p in
    let made = c.in_ok-one in
    let place = c.args.place in
    let at = c.args.at in
    let post = c.args.post in
    let k1 = knows_on w u0 u1 made.ensures.builds k in
    let left : core_at u1 p ≡ core_at u0 p = made.ensures.builds.cores p c.requires.p in
    let right : core_at u1 made.one ≡ number_core 1 place = fits_core u1 made.one (number_core 1 place) made.ensures.made in
    let op = c.counting.result in
    let same =
    ap (λ (x : Core). update_row w op post place at x (core_at u1 made.one)) left
    ∙ (ap (λ (x : Core). update_row w op post place at (core_at u0 p) x) right
    ∙ ap (λ (o : Op). update_row w o post place at (core_at u0 p) (number_core 1 place)) c.counting.ensures) in
    made_same c.update_row.new.unit c.update_row.result _ _ same (c.update_row.ensures.made w k1)
