use Rattle.std.proofs.Common.{◌∙◌, ap, subst, sym}
use Rattle.sol_model.specs.declared.system.System.{System}
use Rattle.sol_model.specs.Families.{members}
use Rattle.sol_model.specs.Solutions.{IsLeast}
use Rattle.sol_model.specs.Systems.{location_count}
use Rattle.unit_report.specs.Solved.{IsShared}
use Rattle.unit_report.proofs.SharedProgram.{shared_count, solved_shared}
use Rattle.unit_report.proofs.reporting.report_by.Goals as goal

pub program_text-requires-clause-count : goal.program_text-requires-clause-count
program_text-requires-clause-count g c =
    c.requires.system.count ∙ sym (shared_count c.args.system c.in_ok-reduced.reduced c.in_ok-reduced.ensures.shared) ∙ ap location_count (sym c.in_ok-rows.ensures.solved.system_is)

pub returns-clause-reported : goal.returns-clause-reported
returns-clause-reported g c =
    let S = c.args.system in
    let same = sym c.in_ok-rows.ensures.solved.system_is in
    c.in_ok-text.ensures S c.requires.system (subst (λ (U : System). IsShared S U) same c.in_ok-reduced.ensures.shared)
    (subst (λ (U : System). IsLeast U (members c.in_ok-rows.rows)) same c.in_ok-rows.ensures.least)

pub returns-clause-solved : goal.returns-clause-solved
returns-clause-solved g c = solved_shared c.args.system c.in_ok-reduced.reduced c.in_ok-rows.solved c.in_ok-reduced.ensures.shared c.in_ok-rows.ensures.solved
