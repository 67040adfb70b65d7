use Rattle.std.proofs.Common.{sym, subst}
use Rattle.std.specs.Prelude.{IfOk}
use Rattle.std.proofs.lemmas.Result.{IfOk-weaker}
use Rattle.report_cli.specs.declared.form.Form.{Form}
use Rattle.report_cli.specs.Printed.{IsInForm}
use Rattle.report_cli.proofs.Linked.{reported, stopped, summed, touched}
use Rattle.report_cli.proofs.solved.text_in_form.Goals as goal

pub returns-in-Report-clause-printed : goal.returns-in-Report-clause-printed
returns-in-Report-clause-printed g c =
    let made = c.args.made in
    let P : Form → Type 0 = λ form. IfOk c.report_of_system.result (λ found. IsInForm form made.program made.system found.0.items) in
    subst P (sym c.in-Report.is) (IfOk-weaker c.report_of_system.result _ _ (λ found h. reported c.in-Report.json made.program made.space made.system found.0.items c.requires.system h) c.report_of_system.ensures.reported)

pub returns-in-Summary-clause-printed : goal.returns-in-Summary-clause-printed
returns-in-Summary-clause-printed g c =
    let made = c.args.made in
    let P : Form → Type 0 = λ form. IfOk c.summary_of_system.result (λ found. IsInForm form made.program made.system found.0.items) in
    subst P (sym c.in-Summary.is) (IfOk-weaker c.summary_of_system.result _ _ (λ found h. summed c.in-Summary.number made.program made.space made.system found.0.items c.requires.system h) c.summary_of_system.ensures.summary)

pub returns-in-Effects-clause-printed : goal.returns-in-Effects-clause-printed
returns-in-Effects-clause-printed g c =
    let made = c.args.made in
    let P : Form → Type 0 = λ form. IfOk c.effects_of_system.result (λ found. IsInForm form made.program made.system found.0.items) in
    subst P (sym c.in-Effects.is) (IfOk-weaker c.effects_of_system.result _ _ (λ found h. touched made.program made.space made.system found.0.items c.requires.system h) c.effects_of_system.ensures.text)

pub returns-in-Stops-clause-printed : goal.returns-in-Stops-clause-printed
returns-in-Stops-clause-printed g c =
    let made = c.args.made in
    let P : Form → Type 0 = λ form. IfOk c.stops_of_system.result (λ found. IsInForm form made.program made.system found.0.items) in
    subst P (sym c.in-Stops.is) (IfOk-weaker c.stops_of_system.result _ _ (λ found h. stopped made.program made.space made.system found.0.items c.requires.system h) c.stops_of_system.ensures.printed)
