use Rattle.std.proofs.Common.{ℕ, Vec, Global, ap, sym, ◌∙◌}
use Rattle.sol_model.specs.Families.{members}
use Rattle.unit_report.specs.report_text.Report.{has_set, set_line}
use Rattle.unit_report.proofs.report_text.Lines.{tested_yes, tested_no}
use Rattle.unit_report.proofs.report_text.sets.add_sets.Goals as goal
use Rattle.unit_report.proofs.report_text.sets.add_sets.Goals.{then-has_set+in_ok-add_set, else-has_set}

pub loop-location-preserved : goal.loop-location-preserved
loop-location-preserved c =
    let f = set_line c.args.space.now c.args.system.now (members c.args.rows.now) in
    let p = has_set c.args.space.now in
    elim c.if-has_set.branch [
      | then-has_set+in_ok-add_set w ↦ ap (λ (v : Vec ℕ Global). v.items) w.text-is
          ∙ tested_yes f p c.loop-location.location c.args.text.now.items c.loop-location.text.items w.add_set.new.text.items (sym c.has_set.ensures ∙ w.if-has_set.true) c.loop-location.invariant w.in_ok-add_set.ensures
      | else-has_set w ↦ ap (λ (v : Vec ℕ Global). v.items) w.text-is
          ∙ tested_no f p c.loop-location.location c.args.text.now.items c.loop-location.text.items (sym c.has_set.ensures ∙ w.if-has_set.false) c.loop-location.invariant
    ]
