use Rattle.std.proofs.Common.{◌≤◌, ◌<◌, ℕ, length, ap, arith}
use Rattle.std.proofs.lemmas.Option.{slice_get_within}
use Rattle.sol_model.specs.Families.{members}
use Rattle.mod_ref.specs.Direct.{BodyTouches, OwnTouches}
use Rattle.mod_ref.specs.Ground.{setting_in}
use Rattle.mod_ref.proofs.Gaining.{gains_as, gains_next, gains_none, rows_kept}
use Rattle.mod_ref.proofs.bodies.add_bodies.Goals as goal

pub loop-n-init : goal.loop-n-init
loop-n-init c = gains_none _ _

pub add_own-requires-clause-rows : goal.add_own-requires-clause-rows
add_own-requires-clause-rows c = rows_kept c.args.ground.now.system.now c.args.touched.now c.loop-n.touched _ c.requires.rows c.loop-n.invariant

pub loop-n-preserved : goal.loop-n-preserved
loop-n-preserved c =
    gains_next c.args.touched.now c.loop-n.touched c.add_own.new.touched c.loop-n.n (λ k f location. OwnTouches (setting_in c.args.ground.now) c.args.ground.now.system.now (members c.args.ground.now.rows.now) c.args.access k f location)
    c.loop-n.invariant c.in_ok-add_own.ensures.gains

pub returns : goal.returns
returns c =
    let g = c.args.ground.now in
    gains_as c.args.touched.now c.loop-n.touched (λ f location. (k : ℕ) × (k < c.loop-n.n) × OwnTouches (setting_in g) g.system.now (members g.rows.now) c.args.access k f location) (BodyTouches (setting_in g) g.system.now (members g.rows.now) c.args.access)
    c.loop-n.invariant
    (λ f location h. (h.0, h.2))
    (λ f location h. (h.0, (let lt = slice_get_within g.program.now.nodes.items h.0 (h.1).node (h.1).there in let end = c.loop-n-test.false in let all = c.len-n-end.ensures in omega arith), h.1))
