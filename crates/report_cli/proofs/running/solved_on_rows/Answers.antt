use Rattle.unit_report.specs.Solved.{IsShared}
use Rattle.unit_report.proofs.SharedProgram.{solved_shared}
use Rattle.report_cli.proofs.running.solved_on_rows.Goals as goal

pub returns : goal.returns
returns g c =
    let T = c.in_ok-reduced.reduced.system in
    let shared : IsShared c.args.system T = record { of = c.in_ok-classes.classes; row = c.in_ok-reduced.reduced.row.items; classes = c.in_ok-classes.ensures; reduced = c.in_ok-reduced.ensures.reduced } in
    solved_shared c.args.system T c.in_ok-solved.solved shared c.in_ok-solved.ensures.solved
