use Rattle.std.proofs.Common.{refl}
use Rattle.sol_model.specs.Families.{members}
use Rattle.mod_ref.specs.Ground.{setting_in}
use Rattle.mod_ref.proofs.Gaining.{rows_kept}
use Rattle.mod_ref.proofs.Touching.{rows_counted, touch_is, touched_known}
use Rattle.mod_ref.proofs.whole.touched.Goals as goal

pub add_calls-requires-clause-rows : goal.add_calls-requires-clause-rows
add_calls-requires-clause-rows c = rows_kept c.args.ground.now.system.now c.in_ok-rows.rows c.add_bodies.new.touched _ c.in_ok-rows.ensures.rows c.in_ok-add_bodies.ensures

pub spread-requires-clause-rows : goal.spread-requires-clause-rows
spread-requires-clause-rows c = rows_counted c.args.ground.now.system.now c.add_calls.new.touched c.args.functions c.add_calls.ensures.rows c.requires.functions

pub returns : goal.returns
returns c =
    let g = c.args.ground.now in
    touch_is (setting_in g) g.system.now (members g.rows.now) c.args.access c.requires.ways.0 c.args.ways.now c.requires.ways.1 c.requires.ways.2
    (touched_known g.system.now c.requires.ground.valid (setting_in g) g.space.now refl c.requires.ground.count (members g.rows.now) c.args.access c.requires.ground.fits.no_others)
    c.in_ok-rows.rows c.add_bodies.new.touched c.add_calls.new.touched c.spread.new.rows c.in_ok-rows.ensures.nothing c.in_ok-rows.ensures.rows
    c.in_ok-add_bodies.ensures c.in_ok-add_calls.ensures.gains c.spread.ensures.spreads c.spread.ensures.closed
