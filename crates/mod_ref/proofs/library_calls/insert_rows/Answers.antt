use Rattle.std.proofs.Common.{None}
use Rattle.sol_model.specs.Families.{members}
use Rattle.mod_ref.specs.Places.{IsReachedBy}
use Rattle.mod_ref.proofs.Gaining.{gains_in_listed, gains_in_next, gains_none, rows_kept}
use Rattle.mod_ref.proofs.library_calls.insert_rows.Goals as goal

pub loop-i-init : goal.loop-i-init
loop-i-init c = gains_none _ _

pub insert_by-requires-clause-rows : goal.insert_by-requires-clause-rows
insert_by-requires-clause-rows c = rows_kept c.args.ground.now.system.now c.args.touched.now c.loop-i.touched _ c.requires.rows c.loop-i.invariant

pub returns-clause-rows : goal.returns-clause-rows
returns-clause-rows c = rows_kept c.args.ground.now.system.now c.args.touched.now c.loop-i.touched _ c.requires.rows c.loop-i.invariant

pub loop-i-preserved : goal.loop-i-preserved
loop-i-preserved c =
    gains_in_next c.args.list.now c.args.row (λ from node. IsReachedBy c.args.ground.now.system.now (members c.args.ground.now.rows.now) None from node) c.loop-i.i c.row_at-from.result c.args.touched.now c.loop-i.touched c.insert_by.new.touched
    c.row_at-from.ensures.value c.loop-i.invariant c.in_ok-insert_by.ensures.gains

pub returns-clause-gains : goal.returns-clause-gains
returns-clause-gains c = gains_in_listed c.args.list.now c.args.row (λ from node. IsReachedBy c.args.ground.now.system.now (members c.args.ground.now.rows.now) None from node) c.loop-i.i c.args.touched.now c.loop-i.touched c.loop-i-test.false c.loop-i.invariant
