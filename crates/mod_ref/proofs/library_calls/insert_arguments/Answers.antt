use Rattle.std.proofs.Common.{◌≡◌, ◌<◌, ◌≤◌, ℕ, List, length, None, Some, Contains, slice_get, ap, subst, arith}
use Rattle.sol_model.specs.Families.{members}
use Rattle.mod_ref.specs.Direct.{IsInArguments}
use Rattle.mod_ref.specs.Gains.{In}
use Rattle.mod_ref.specs.Places.{IsReachedBy}
use Rattle.mod_ref.proofs.Gaining.{gains_as, gains_in_listed, gains_in_next, gains_none, rows_kept}
use Rattle.mod_ref.proofs.library_calls.insert_arguments.Goals as goal

pub loop-i-init : goal.loop-i-init
loop-i-init c = gains_none _ _

pub insert_rows-requires-clause-rows : goal.insert_rows-requires-clause-rows
insert_rows-requires-clause-rows c = rows_kept c.args.ground.now.system.now c.args.touched.now c.loop-i.touched _ c.requires.rows c.loop-i.invariant

pub returns-clause-rows : goal.returns-clause-rows
returns-clause-rows c = rows_kept c.args.ground.now.system.now c.args.touched.now c.loop-i.touched _ c.requires.rows c.loop-i.invariant

pub loop-i-preserved : goal.loop-i-preserved
loop-i-preserved c =
    gains_in_next c.args.call.now.arguments c.args.row (λ (list : List ℕ) node. (from : ℕ) × Contains list from × IsReachedBy c.args.ground.now.system.now (members c.args.ground.now.rows.now) None from node) c.loop-i.i c.rows_at-list.result.now c.args.touched.now c.loop-i.touched c.insert_rows.new.touched
    (rw c.as_slice-arguments.ensures at c.rows_at-list.ensures.value) c.loop-i.invariant c.in_ok-insert_rows.ensures.gains

pub returns-clause-gains : goal.returns-clause-gains
returns-clause-gains c =
    let all : length c.args.call.now.arguments ≤ c.loop-i.i = rw c.as_slice-arguments.ensures at c.loop-i-test.false in
    gains_as c.args.touched.now c.loop-i.touched
    (In c.args.row (λ node. (list : List ℕ) × Contains c.args.call.now.arguments list × ((from : ℕ) × Contains list from × IsReachedBy c.args.ground.now.system.now (members c.args.ground.now.rows.now) None from node)))
    (In c.args.row (IsInArguments c.args.ground.now.system.now (members c.args.ground.now.rows.now) c.args.call.now))
    (gains_in_listed c.args.call.now.arguments c.args.row (λ (list : List ℕ) node. (from : ℕ) × Contains list from × IsReachedBy c.args.ground.now.system.now (members c.args.ground.now.rows.now) None from node) c.loop-i.i c.args.touched.now c.loop-i.touched all c.loop-i.invariant)
    (λ r node h. let a = h.1 in let f = a.2 in (h.0, record { rows = a.0; argument = a.1; row = f.0; listed = f.1; reached = f.2 }))
    (λ r node h. let a = h.1 in (h.0, (a.rows, a.argument, (a.row, a.listed, a.reached))))
