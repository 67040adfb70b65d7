use Rattle.std.proofs.Common.{sym, ◌∙◌, Contains, ℕ, List, ◌↔◌, subst}
use Rattle.std.proofs.lemmas.Bool.{false≢true}
use Rattle.sol_model.specs.Families.{Has, members}
use Rattle.obj_space.specs.View.{view_of}
use Rattle.mod_ref.proofs.Calling.{call_none, call_some, held_known}
use Rattle.mod_ref.proofs.library_calls.add_call.Goals as goal

pub add_made-found-requires-clause-held : goal.add_made-found-requires-clause-held
add_made-found-requires-clause-held c = held_known c.args.ground.now.system.now (members c.args.ground.now.rows.now) c.args.call.now.callee _ _ c.requires.ground.fits.no_others c.in_ok-held.ensures.has c.as_slice.ensures.value

pub returns-then-not-found-clause-gains : goal.returns-then-not-found-clause-gains
returns-then-not-found-clause-gains c =
    let g = c.args.ground.now in
    call_none (view_of g.space.now) g.system.now (members g.rows.now) c.args.access c.args.call.now c.as_slice.result.now (λ l. rw c.as_slice.ensures.value (c.in_ok-held.ensures.has l)) c.args.touched.now c.add_made-found.new.touched
    (λ there. false≢true (sym c.if-not-found.true ∙ c.add_made-found.ensures.found.1 there)) c.add_made-found.ensures.gains

pub returns-clause-gains : goal.returns-clause-gains
returns-clause-gains c =
    let g = c.args.ground.now in
    call_some (view_of g.space.now) g.system.now (members g.rows.now) c.args.access c.args.call.now c.as_slice.result.now (λ l. rw c.as_slice.ensures.value (c.in_ok-held.ensures.has l)) c.args.touched.now c.add_made-found.new.touched c.insert_arguments.new.touched
    (c.add_made-found.ensures.found.0 c.if-not-found.false) c.add_made-found.ensures.gains c.in_ok-insert_arguments.ensures.gains
