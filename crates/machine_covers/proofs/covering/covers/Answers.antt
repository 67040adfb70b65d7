use Rattle.std.proofs.Common.{rules, ◌≡◌, ◌↔◌, IsTrue}
use Rattle.sol_model.specs.Families.{members}
use Rattle.machine_covers.specs.Decided.{StateBy, sight_over}
use Rattle.machine_covers.proofs.Whole.{covers_exact}
use Rattle.machine_covers.proofs.covering.covers.Goals as goal

pub returns-clause-covered : goal.returns-clause-covered
returns-clause-covered c system_is =
    let decided : IsTrue c.are_parts_covered.result ↔ StateBy (sight_over c.args.program.now c.args.space.now c.args.system.now (members c.args.rows.now)) c.args.machine.now.state = search rules in
    let exact = covers_exact c.args.program.now c.args.space.now c.args.system.now (members c.args.rows.now) c.args.machine.now c.requires.machine c.requires.valid system_is in
    (λ t. exact.0 (decided.0 t), λ h. decided.1 (exact.1 h))
