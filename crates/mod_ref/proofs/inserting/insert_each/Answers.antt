use Rattle.std.proofs.Common.{get_or}
use Rattle.std.proofs.lemmas.Option.{slice_get-get_or}
use Rattle.mod_ref.specs.Places.{IsReached}
use Rattle.mod_ref.proofs.Gaining.{gains_in_listed, gains_in_next, gains_none, rows_kept}
use Rattle.mod_ref.proofs.inserting.insert_each.Goals as goal

pub loop-i-init : goal.loop-i-init
loop-i-init c = gains_none _ _

pub insert_reached-requires-clause-location : goal.insert_reached-requires-clause-location
insert_reached-requires-clause-location c = c.requires.held c.loop-i.i 0 c.loop-i-test.true

pub insert_reached-requires-clause-rows : goal.insert_reached-requires-clause-rows
insert_reached-requires-clause-rows c = rows_kept c.args.system.now c.args.touched.now c.loop-i.touched _ c.requires.rows c.loop-i.invariant

pub returns-clause-rows : goal.returns-clause-rows
returns-clause-rows c = rows_kept c.args.system.now c.args.touched.now c.loop-i.touched _ c.requires.rows c.loop-i.invariant

pub loop-i-preserved : goal.loop-i-preserved
loop-i-preserved c =
    gains_in_next c.args.held.now c.args.row (λ location node. IsReached c.args.system.now c.args.ty location node) c.loop-i.i (get_or c.args.held.now c.loop-i.i 0) c.args.touched.now c.loop-i.touched c.insert_reached.new.touched
    (slice_get-get_or c.args.held.now c.loop-i.i 0 c.loop-i-test.true) c.loop-i.invariant c.insert_reached.ensures.gains

pub returns-clause-gains : goal.returns-clause-gains
returns-clause-gains c = gains_in_listed c.args.held.now c.args.row (λ location node. IsReached c.args.system.now c.args.ty location node) c.loop-i.i c.args.touched.now c.loop-i.touched c.loop-i-test.false c.loop-i.invariant
