use Rattle.sol_model.specs.Families.{members}
use Rattle.sol_model.specs.Solutions.{IsGiven}
use Rattle.std.proofs.Common.{subst}
use Rattle.set_rows.specs.declared.rows_core.event.Event.{Event}
use Rattle.set_rows.specs.rows_core.Machine.{Licensed, machine_of}
use Rattle.sol_model.proofs.Fitting.{given_known, row_held, location_within, Fits-added}
use Rattle.set_rows.proofs.rows_core.machine.after.Goals as goal

pub has-requires-clause-row : goal.has-requires-clause-row
has-requires-clause-row c =
    let given : IsGiven c.args.system.now (members c.args.state.now.rows) c.in-Or.row c.in-Or.location = subst (λ (e : Event). Licensed c.args.system.now (machine_of c.args.state.now) e) c.in-Or.is c.requires.licensed in
    let known = given_known c.args.system.now c.args.state.now.rows c.requires.fits c.requires.valid c.in-Or.row c.in-Or.location given in
    row_held c.args.system.now c.args.state.now.rows c.requires.fits c.in-Or.row known.0

pub has-requires-clause-location : goal.has-requires-clause-location
has-requires-clause-location c =
    let given : IsGiven c.args.system.now (members c.args.state.now.rows) c.in-Or.row c.in-Or.location = subst (λ (e : Event). Licensed c.args.system.now (machine_of c.args.state.now) e) c.in-Or.is c.requires.licensed in
    let known = given_known c.args.system.now c.args.state.now.rows c.requires.fits c.requires.valid c.in-Or.row c.in-Or.location given in
    location_within c.args.system.now c.args.state.now.rows c.requires.fits c.in-Or.location known.1

pub insert-requires-clause-row : goal.insert-requires-clause-row
insert-requires-clause-row c =
    let given : IsGiven c.args.system.now (members c.args.state.now.rows) c.in-Or.row c.in-Or.location = subst (λ (e : Event). Licensed c.args.system.now (machine_of c.args.state.now) e) c.in-Or.is c.requires.licensed in
    let known = given_known c.args.system.now c.args.state.now.rows c.requires.fits c.requires.valid c.in-Or.row c.in-Or.location given in
    row_held c.args.system.now c.args.state.now.rows c.requires.fits c.in-Or.row known.0

pub insert-requires-clause-location : goal.insert-requires-clause-location
insert-requires-clause-location c =
    let given : IsGiven c.args.system.now (members c.args.state.now.rows) c.in-Or.row c.in-Or.location = subst (λ (e : Event). Licensed c.args.system.now (machine_of c.args.state.now) e) c.in-Or.is c.requires.licensed in
    let known = given_known c.args.system.now c.args.state.now.rows c.requires.fits c.requires.valid c.in-Or.row c.in-Or.location given in
    location_within c.args.system.now c.args.state.now.rows c.requires.fits c.in-Or.location known.1

pub returns-then-not-has-clause-fits : goal.returns-then-not-has-clause-fits
returns-then-not-has-clause-fits c =
    let given : IsGiven c.args.system.now (members c.args.state.now.rows) c.in-Or.row c.in-Or.location = subst (λ (e : Event). Licensed c.args.system.now (machine_of c.args.state.now) e) c.in-Or.is c.requires.licensed in
    let known = given_known c.args.system.now c.args.state.now.rows c.requires.fits c.requires.valid c.in-Or.row c.in-Or.location given in
    Fits-added c.args.system.now c.args.state.now.rows c.requires.fits c.insert.new.self c.in-Or.row c.in-Or.location known.1 c.insert.ensures.added c.insert.ensures.width c.insert.ensures.length
