use Rattle.std.proofs.Common.{◌≡◌, ◌<◌, ◌⊎◌, ℕ, true, Some, get_or, slice_get, inl, inr, sym, ◌∙◌, ap, subst, arith}
use Rattle.std.proofs.lemmas.Option.{slice_get-get_or}
use Rattle.sol_model.specs.declared.system.Function.{Function}
use Rattle.obj_space.specs.View.{view_of}
use Rattle.mod_ref.specs.Gains.{IsLibraryAt, IsMadeAt}
use Rattle.mod_ref.proofs.Gaining.{found_listed, found_next, found_none, gains_in_listed, gains_in_next, gains_none, rows_kept}
use Rattle.mod_ref.proofs.library_calls.add_made.Goals as goal

pub loop-i-init : goal.loop-i-init
loop-i-init c = record { gains = gains_none _ _; found = found_none _ }

pub insert_at-one-requires-clause-rows : goal.insert_at-one-requires-clause-rows
insert_at-one-requires-clause-rows c = rows_kept c.args.ground.now.system.now c.args.touched.now c.loop-i.touched _ c.requires.rows c.loop-i.invariant.gains

pub returns-clause-rows : goal.returns-clause-rows
returns-clause-rows c = rows_kept c.args.ground.now.system.now c.args.touched.now c.loop-i.touched _ c.requires.rows c.loop-i.invariant.gains

pub loop-i-preserved : goal.loop-i-preserved
loop-i-preserved c =
    let held = c.args.held.now in
    let at = slice_get-get_or held c.loop-i.i 0 c.loop-i-test.true in
    record {
      gains = gains_in_next held c.args.row (λ place node. IsMadeAt (view_of c.args.ground.now.space.now) c.args.ground.now.system.now c.args.access c.args.call.now place node) c.loop-i.i (get_or held c.loop-i.i 0) c.args.touched.now c.loop-i.touched c.insert_at-one.new.touched
          at c.loop-i.invariant.gains c.insert_at-one.ensures.gains;
      found = found_next held (λ place. (number : ℕ) × (function : Function) × IsLibraryAt c.args.ground.now.system.now c.args.call.now place number function) c.loop-i.i (get_or held c.loop-i.i 0) c.loop-i.found c.insert_at-one.result c.either-found.result
          at c.loop-i.invariant.found c.insert_at-one.ensures.found c.either-found.ensures.yes c.either-found.ensures.no;
    }

pub returns-clause-found : goal.returns-clause-found
returns-clause-found c = found_listed c.args.held.now (λ place. (number : ℕ) × (function : Function) × IsLibraryAt c.args.ground.now.system.now c.args.call.now place number function) c.loop-i.i c.loop-i.found c.loop-i-test.false c.loop-i.invariant.found

pub returns-clause-gains : goal.returns-clause-gains
returns-clause-gains c = gains_in_listed c.args.held.now c.args.row (λ place node. IsMadeAt (view_of c.args.ground.now.space.now) c.args.ground.now.system.now c.args.access c.args.call.now place node) c.loop-i.i c.args.touched.now c.loop-i.touched c.loop-i-test.false c.loop-i.invariant.gains
