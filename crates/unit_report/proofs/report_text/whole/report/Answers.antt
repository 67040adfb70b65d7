use Rattle.std.proofs.Common.{ℕ, List, ◌++◌, map, ap, sym, ◌∙◌}
use Rattle.std.specs.Prelude.{codes}
use Rattle.sol_model.specs.Families.{members}
use Rattle.unit_report.specs.report_text.Report.{set_lines, call_lines, edge_line, report_lines, text_of}
use Rattle.unit_report.proofs.report_text.Lines.{whole_text}
use Rattle.unit_report.proofs.report_text.whole.report.Goals as goal

pub returns-clause-only : goal.returns-clause-only
returns-clause-only c other is =
    let space = c.args.space.now in
    let names = c.args.names.now in
    let system = c.args.system.now in
    let F = members c.args.rows.now in
    let edges = c.deref.result.now in
    let made = whole_text (set_lines space system F) (call_lines space names system F) (map (edge_line space system) edges) _ _ _ _ c.extend_from_slice-2.new.self.items
    (c.in_ok-extend_from_slice.ensures.items ∙ ap (λ (text : List ℕ). text ++ codes "pta 1\n") c.new-text.ensures.items) c.in_ok-add_sets.ensures c.in_ok-add_calls.ensures c.in_ok-add_edges.ensures c.in_ok-extend_from_slice-2.ensures.items in
    is.text_is ∙ ap (λ (pairs : List (ℕ × ℕ)). text_of (report_lines space names system F pairs)) (c.in_ok-edges.ensures.only is.edges is.graph ∙ sym c.deref.ensures.value) ∙ sym made
