use Rattle.std.proofs.Common.{◌≤◌, subst}
use Rattle.sol_model.specs.declared.system.CallSite.{CallSite}
use Rattle.sol_model.specs.Families.{members}
use Rattle.obj_space.specs.View.{view_of}
use Rattle.mod_ref.specs.Direct.{CallTouches}
use Rattle.mod_ref.specs.Ground.{setting_in}
use Rattle.mod_ref.proofs.Calling.{calls_all, calls_next}
use Rattle.mod_ref.proofs.Gaining.{gains_none, rows_kept}
use Rattle.mod_ref.proofs.library_calls.add_calls.Goals as goal

pub loop-i-init : goal.loop-i-init
loop-i-init c = gains_none _ _

pub add_call-requires-clause-rows : goal.add_call-requires-clause-rows
add_call-requires-clause-rows c = rows_kept c.args.ground.now.system.now c.args.touched.now c.loop-i.touched _ c.requires.rows c.loop-i.invariant

pub returns-clause-rows : goal.returns-clause-rows
returns-clause-rows c = rows_kept c.args.ground.now.system.now c.args.touched.now c.loop-i.touched _ c.requires.rows c.loop-i.invariant

pub loop-i-preserved : goal.loop-i-preserved
loop-i-preserved c =
    let g = c.args.ground.now in
    calls_next g.system.now.calls (λ (call : CallSite) l. CallTouches (view_of g.space.now) g.system.now (members g.rows.now) c.args.access call l) c.loop-i.i c.call_at.result.now c.args.touched.now c.loop-i.touched c.add_call.new.touched
    c.call_at.ensures.value c.loop-i.invariant c.in_ok-add_call.ensures.gains

pub returns-clause-gains : goal.returns-clause-gains
returns-clause-gains c = let g = c.args.ground.now in calls_all (setting_in g) g.system.now (members g.rows.now) c.args.access c.loop-i.i c.args.touched.now c.loop-i.touched (subst (λ n. n ≤ c.loop-i.i) c.len-i-end.ensures c.loop-i-test.false) c.loop-i.invariant
