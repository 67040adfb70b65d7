use Rattle.std.proofs.Common.{◌↔◌, IsTrue, sym, subst}
use Rattle.set_rows.specs.declared.rows_core.event.Event.{Event}
use Rattle.set_rows.specs.rows_core.Machine.{Licensed, machine_of}
use Rattle.set_rows.proofs.rows_core.machine.licensed.Goals as goal

pub returns-in-Shut : goal.returns-in-Shut
returns-in-Shut c = subst (λ (e : Event). IsTrue c.is_closed.result ↔ Licensed c.args.system.now (machine_of c.args.state.now) e) (sym c.in-Shut.is) c.is_closed.ensures
