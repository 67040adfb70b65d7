use Rattle.std.proofs.Common.{Vec, Global, ap, sym, ◌∙◌, map}
use Rattle.serde_json.specs.View.{view}
use Rattle.serde_json.specs.declared.value.Value.{Value}
use Rattle.sol_model.specs.Families.{members}
use Rattle.unit_report.specs.report_text.Report.{has_set}
use Rattle.unit_report.specs.report_json.Json.{set_value}
use Rattle.unit_report.proofs.report_json.Values.{tested_yes, tested_no}
use Rattle.unit_report.proofs.report_json.sets.sets_value.Goals as goal
use Rattle.unit_report.proofs.report_json.sets.sets_value.Goals.{then-has_set+in_ok-set+in_ok-push, else-has_set}

pub loop-location-preserved : goal.loop-location-preserved
loop-location-preserved c =
    let f = set_value c.args.space.now c.args.system.now (members c.args.rows.now) in
    let p = has_set c.args.space.now in
    elim c.if-has_set.branch [
      | then-has_set+in_ok-set+in_ok-push w ↦ ap (λ (v : Vec Value Global). map view v.items) w.list-is
          ∙ tested_yes f p c.loop-location.location c.loop-location.list.items w.push.new.self.items _ (sym c.has_set.ensures ∙ w.if-has_set.true) c.loop-location.invariant w.in_ok-push.ensures.items w.in_ok-set.ensures
      | else-has_set w ↦ ap (λ (v : Vec Value Global). map view v.items) w.list-is
          ∙ tested_no f p c.loop-location.location c.loop-location.list.items (sym c.has_set.ensures ∙ w.if-has_set.false) c.loop-location.invariant
    ]
