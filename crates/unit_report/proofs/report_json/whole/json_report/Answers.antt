use Rattle.std.proofs.Common.{ℕ, List, ◌++◌, codes, ap, sym, ◌∙◌}
use Rattle.serde_json.specs.Data.{Data}
use Rattle.serde_json.specs.Written.{compact_text, has_float}
use Rattle.sol_model.specs.Families.{members}
use Rattle.unit_report.specs.report_json.Json.{report_value}
use Rattle.unit_report.proofs.report_json.Plain.{report_plain}
use Rattle.unit_report.proofs.report_json.whole.json_report.Goals as goal

pub line_of-requires : goal.line_of-requires
line_of-requires c =
    ap has_float c.in_ok-value.ensures
    ∙ report_plain c.args.space.now c.args.names.now c.args.system.now (members c.args.rows.now) c.deref.result.now

pub returns-clause-only : goal.returns-clause-only
returns-clause-only c other is =
    let value : List (ℕ × ℕ) → Data = report_value c.args.space.now c.args.names.now c.args.system.now (members c.args.rows.now) in
    let line : Data → List ℕ = λ d. compact_text d ++ codes "\n" in
    is.text_is ∙ ap (λ (pairs : List (ℕ × ℕ)). line (value pairs)) (c.in_ok-edges.ensures.only is.edges is.graph ∙ sym c.deref.ensures.value)
    ∙ sym (c.in_ok-line_of.ensures ∙ ap line c.in_ok-value.ensures)
