use Rattle.std.proofs.Common.{◌≡◌, List, Ok, Err, subst}
use Rattle.c_consts.specs.Core.{Core}
use Rattle.c_senses.specs.Given.{◌>>=◌}
use Rattle.c_senses.specs.Operators.{choice_row}
use Rattle.c_senses.specs.Sense.{Sense, sense_in, value_in}
use Rattle.core_nodes.specs.Standing.{core_at, Made}
use Rattle.core_nodes.proofs.Growing.{builds_on, knows_on}
use Rattle.core_nodes.proofs.Failing.{fails, follows}
use Rattle.c_results.specs.Standing.{senses_made}
use Rattle.c_results.proofs.Keeping.{mades_kept}
use Rattle.expression_rows.proofs.whole_rows.choosing.chosen_parts.Goals as goal

pub returns-in-Err-clause-made : goal.returns-in-Err-clause-made
returns-in-Err-clause-made c w s k =
    let u1 = c.value_of.new.unit in
    let S = sense_in (senses_made c.args.unit.now c.args.results.now) in
    let at = c.args.at in
    fails u1 u1 c.in-Err.fault (value_in w at (S c.args.condition))
    (λ x. value_in w at (S c.args.left) >>= (λ y. value_in w at (S c.args.right) >>= choice_row w c.args.place at x y)) (c.in-Err.ensures.made w k)

pub returns-in-Err-value_of-clause-made : goal.returns-in-Err-value_of-clause-made
returns-in-Err-value_of-clause-made c w s k =
    let u0 = c.args.unit.now in
    let u1 = c.value_of.new.unit in
    let u2 = c.value_of-2.new.unit in
    let S = sense_in (senses_made u0 c.args.results.now) in
    let at = c.args.at in
    let k1 = knows_on w u0 u1 c.in-Ok.ensures.builds k in
    let kept = mades_kept u0 u1 c.in-Ok.ensures.builds c.args.results.now c.requires.within in
    let second = subst (λ (l : List Sense). Made u2 (Err c.in-Err-value_of.fault) (value_in w at (sense_in l c.args.left))) kept (c.in-Err-value_of.ensures.made w k1) in
    follows u1 u2 c.in-Ok.node (Err c.in-Err-value_of.fault) (value_in w at (S c.args.condition))
    (λ x. value_in w at (S c.args.left) >>= (λ y. value_in w at (S c.args.right) >>= choice_row w c.args.place at x y)) (c.in-Ok.ensures.made w k)
    (fails u2 u2 c.in-Err-value_of.fault (value_in w at (S c.args.left)) (λ y. value_in w at (S c.args.right) >>= choice_row w c.args.place at (core_at u1 c.in-Ok.node) y) second)

pub returns-in-Err-value_of-2-clause-made : goal.returns-in-Err-value_of-2-clause-made
returns-in-Err-value_of-2-clause-made c w s k =
    let u0 = c.args.unit.now in
    let u1 = c.value_of.new.unit in
    let u2 = c.value_of-2.new.unit in
    let u3 = c.value_of-3.new.unit in
    let S = sense_in (senses_made u0 c.args.results.now) in
    let at = c.args.at in
    let b1 = c.in-Ok.ensures.builds in
    let b2 = builds_on u0 u1 u2 b1 c.in-Ok-value_of.ensures.builds in
    let k1 = knows_on w u0 u1 b1 k in
    let k2 = knows_on w u0 u2 b2 k in
    let second = subst (λ (l : List Sense). Made u2 (Ok c.in-Ok-value_of.node) (value_in w at (sense_in l c.args.left))) (mades_kept u0 u1 b1 c.args.results.now c.requires.within) (c.in-Ok-value_of.ensures.made w k1) in
    let third = subst (λ (l : List Sense). Made u3 (Err c.in-Err-value_of-2.fault) (value_in w at (sense_in l c.args.right))) (mades_kept u0 u2 b2 c.args.results.now c.requires.within) (c.in-Err-value_of-2.ensures.made w k2) in
    follows u1 u3 c.in-Ok.node (Err c.in-Err-value_of-2.fault) (value_in w at (S c.args.condition))
    (λ x. value_in w at (S c.args.left) >>= (λ y. value_in w at (S c.args.right) >>= choice_row w c.args.place at x y)) (c.in-Ok.ensures.made w k)
    (follows u2 u3 c.in-Ok-value_of.node (Err c.in-Err-value_of-2.fault) (value_in w at (S c.args.left)) (λ y. value_in w at (S c.args.right) >>= choice_row w c.args.place at (core_at u1 c.in-Ok.node) y) second
    (fails u3 u3 c.in-Err-value_of-2.fault (value_in w at (S c.args.right)) (choice_row w c.args.place at (core_at u1 c.in-Ok.node) (core_at u2 c.in-Ok-value_of.node)) third))

pub returns-clause-made : goal.returns-clause-made
returns-clause-made c w s k =
    let u0 = c.args.unit.now in
    let u1 = c.value_of.new.unit in
    let u2 = c.value_of-2.new.unit in
    let u3 = c.value_of-3.new.unit in
    let u4 = c.choice_row.new.unit in
    let S = sense_in (senses_made u0 c.args.results.now) in
    let at = c.args.at in
    let place = c.args.place in
    let x = c.in-Ok.node in
    let y = c.in-Ok-value_of.node in
    let z = c.in-Ok-value_of-2.node in
    let b1 = c.in-Ok.ensures.builds in
    let b12 = c.in-Ok-value_of.ensures.builds in
    let b23 = c.in-Ok-value_of-2.ensures.builds in
    let b2 = builds_on u0 u1 u2 b1 b12 in
    let k1 = knows_on w u0 u1 b1 k in
    let k2 = knows_on w u0 u2 b2 k in
    let k3 = knows_on w u2 u3 b23 k2 in
    let second = subst (λ (l : List Sense). Made u2 (Ok y) (value_in w at (sense_in l c.args.left))) (mades_kept u0 u1 b1 c.args.results.now c.requires.within) (c.in-Ok-value_of.ensures.made w k1) in
    let third = subst (λ (l : List Sense). Made u3 (Ok z) (value_in w at (sense_in l c.args.right))) (mades_kept u0 u2 b2 c.args.results.now c.requires.within) (c.in-Ok-value_of-2.ensures.made w k2) in
    let first_kept : core_at u3 x ≡ core_at u1 x = (builds_on u1 u2 u3 b12 b23).cores x c.in-Ok.ensures.within in
    let second_kept : core_at u3 y ≡ core_at u2 y = b23.cores y c.in-Ok-value_of.ensures.within in
    let row = subst (λ (a : Core). Made u4 c.choice_row.result (choice_row w place at a (core_at u2 y) (core_at u3 z))) first_kept
    (subst (λ (b : Core). Made u4 c.choice_row.result (choice_row w place at (core_at u3 x) b (core_at u3 z))) second_kept (c.choice_row.ensures.made w k3)) in
    follows u1 u4 x c.choice_row.result (value_in w at (S c.args.condition))
    (λ a. value_in w at (S c.args.left) >>= (λ b. value_in w at (S c.args.right) >>= choice_row w place at a b)) (c.in-Ok.ensures.made w k)
    (follows u2 u4 y c.choice_row.result (value_in w at (S c.args.left)) (λ b. value_in w at (S c.args.right) >>= choice_row w place at (core_at u1 x) b) second
    (follows u3 u4 z c.choice_row.result (value_in w at (S c.args.right)) (choice_row w place at (core_at u1 x) (core_at u2 y)) third row))
