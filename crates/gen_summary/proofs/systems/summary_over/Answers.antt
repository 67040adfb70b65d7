use Rattle.std.proofs.Common.{sym, ◌∙◌, ap, subst}
use Rattle.sol_model.specs.declared.system.System.{System}
use Rattle.sol_model.specs.Families.{members}
use Rattle.sol_model.specs.Systems.{location_count}
use Rattle.unit_report.proofs.SharedProgram.{shared_count, solved_shared}
use Rattle.gen_summary.specs.Summary.{IsSummary}
use Rattle.gen_summary.proofs.Shared.{program_summary}
use Rattle.gen_summary.proofs.systems.summary_over.Goals as goal

pub summary-requires-clause-count : goal.summary-requires-clause-count
summary-requires-clause-count g c =
    c.requires.system.count ∙ sym (shared_count c.args.made.now.system c.in_ok-reduced.reduced c.in_ok-reduced.ensures.shared) ∙ ap location_count (sym c.in_ok-rows.ensures.solved.system_is)

pub returns-clause-summary : goal.returns-clause-summary
returns-clause-summary g c =
    let made = c.args.made.now in
    let T = c.in_ok-reduced.reduced in
    let P : System → Type 0 = λ system. IsSummary c.args.number made.space system (members c.in_ok-rows.rows) c.in_ok-text.text.items in
    program_summary c.args.number made.program made.space made.system T (members c.in_ok-rows.rows) c.in_ok-text.text.items c.requires.system c.in_ok-reduced.ensures.shared c.in_ok-rows.ensures.least
    (subst P c.in_ok-rows.ensures.solved.system_is c.in_ok-text.ensures)

pub returns-clause-solved : goal.returns-clause-solved
returns-clause-solved g c =
    solved_shared c.args.made.now.system c.in_ok-reduced.reduced c.in_ok-rows.solved c.in_ok-reduced.ensures.shared c.in_ok-rows.ensures.solved
