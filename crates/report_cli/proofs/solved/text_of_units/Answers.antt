use Rattle.std.specs.Prelude.{zip}
use Rattle.std.proofs.Common.{List, ℕ, refl, sym, subst}
use Rattle.std.proofs.lemmas.Result.{err_from_is_err_and}
use Rattle.command_line.specs.Distinct.{AreDistinct}
use Rattle.text_units.specs.Answers.{names_of}
use Rattle.report_cli.specs.Words.{AreUnitNames}
use Rattle.report_cli.specs.declared.side.Side.{Side}
use Rattle.report_cli.specs.Printed.{IsPrinted}
use Rattle.report_cli.specs.Faults.{IsFaultOfTold}
use Rattle.report_cli.specs.Told.{with_questions, with_words}
use Rattle.report_cli.specs.Scripts.{named, named_side, told_with}
use Rattle.text_units.proofs.Refused.{zip_names}
use Rattle.report_cli.proofs.covered_reports.Linkable.{linkable, filled}
use Rattle.report_cli.proofs.Naming.{are_named}
use Rattle.report_cli.proofs.Scripted.{both_ok, on_fault, side_told, units_told}
use Rattle.report_cli.proofs.solved.text_of_units.Goals as goal

pub linked-requires-clause-filled : goal.linked-requires-clause-filled
linked-requires-clause-filled g c = filled (zip (names_of c.args.names.now) c.args.texts.now) c.in_ok-units.units.items c.in_ok-units.ensures.right

pub linked-requires-clause-linkable : goal.linked-requires-clause-linkable
linked-requires-clause-linkable g c =
    let texts = zip (names_of c.args.names.now) c.args.texts.now in
    let D : List (List ℕ) → Type 0 = AreDistinct in
    linkable texts c.in_ok-units.units.items (subst D (zip_names c.args.names.now c.args.texts.now c.requires.count) c.requires.distinct) c.in_ok-units.ensures.right

pub linked-requires-clause-named : goal.linked-requires-clause-named
linked-requires-clause-named g c =
    let texts = zip (names_of c.args.names.now) c.args.texts.now in
    let N : List (List ℕ) → Type 0 = AreUnitNames in
    are_named texts c.in_ok-units.units.items (subst N (zip_names c.args.names.now c.args.texts.now c.requires.count) c.requires.bytes) c.in_ok-units.ensures.right

pub returns-in_err-units-clause-refused : goal.returns-in_err-units-clause-refused
returns-in_err-units-clause-refused g c =
    let p = err_from_is_err_and c.from_residual.result c.from_residual.ensures.1 in
    rw (p.1, p.2) (units_told c.args.asked.entries.now _ (named_side c.args.asked.side) c.args.asked.form c.in_err-units.field-0.0 (c.in_err-units.ensures.refused c.args.asked.entries.now))

pub returns-in-Err-clause-refused : goal.returns-in-Err-clause-refused
returns-in-Err-clause-refused g c =
    units_told _ _ _ c.args.asked.form _ (c.in-Err.ensures.refused (zip (names_of c.args.names.now) c.args.texts.now) (zip_names c.args.names.now c.args.texts.now c.requires.count) c.in_ok-units.ensures.right)

pub returns-in-Questions-clause-printed : goal.returns-in-Questions-clause-printed
returns-in-Questions-clause-printed g c =
    let made = c.in-Ok.made in
    let linked = c.in-Ok.ensures.linked (zip (names_of c.args.names.now) c.args.texts.now) c.in_ok-units.ensures.right in
    both_ok c.answers_to.result _ _ _ (λ found printed solved.
    let P : Side → Type 0 = λ side. IsPrinted c.args.asked.form (named_side side) made.program made.system found.text.items found.status in
    (made.program, made.system, linked.0, subst P (sym c.in-Questions.is) printed, solved)) c.answers_to.ensures.printed c.answers_to.ensures.solved

pub returns-in-Questions-clause-refused : goal.returns-in-Questions-clause-refused
returns-in-Questions-clause-refused g c =
    let made = c.in-Ok.made in
    let texts = zip (names_of c.args.names.now) c.args.texts.now in
    let linked = c.in-Ok.ensures.linked texts c.in_ok-units.ensures.right in
    on_fault c.answers_to.result _ _ (λ fault refused.
    let P : Side → Type 0 = λ side. IsFaultOfTold (told_with c.args.asked.entries.now texts (named_side side) c.args.asked.form) fault in
    subst P (sym c.in-Questions.is)
    (side_told made.program made.space made.system (with_questions (named c.in-Questions.script)) c.args.asked.entries.now texts c.args.asked.form fault linked.0 linked.1 refused))
    c.answers_to.ensures.refused

pub returns-in-Words-clause-printed : goal.returns-in-Words-clause-printed
returns-in-Words-clause-printed g c =
    let made = c.in-Ok.made in
    let linked = c.in-Ok.ensures.linked (zip (names_of c.args.names.now) c.args.texts.now) c.in_ok-units.ensures.right in
    both_ok c.ran.result _ _ _ (λ found printed solved.
    let P : Side → Type 0 = λ side. IsPrinted c.args.asked.form (named_side side) made.program made.system found.text.items found.status in
    (made.program, made.system, linked.0, subst P (sym c.in-Words.is) printed, solved)) c.ran.ensures.printed c.ran.ensures.solved

pub returns-in-Words-clause-refused : goal.returns-in-Words-clause-refused
returns-in-Words-clause-refused g c =
    let made = c.in-Ok.made in
    let texts = zip (names_of c.args.names.now) c.args.texts.now in
    let linked = c.in-Ok.ensures.linked texts c.in_ok-units.ensures.right in
    on_fault c.ran.result _ _ (λ fault refused.
    let P : Side → Type 0 = λ side. IsFaultOfTold (told_with c.args.asked.entries.now texts (named_side side) c.args.asked.form) fault in
    subst P (sym c.in-Words.is)
    (side_told made.program made.space made.system (with_words c.in-Words.steps (named c.in-Words.words)) c.args.asked.entries.now texts c.args.asked.form fault linked.0 linked.1 refused))
    c.ran.ensures.refused

pub returns-in_ok-text-in-Nothing-clause-printed : goal.returns-in_ok-text-in-Nothing-clause-printed
returns-in_ok-text-in-Nothing-clause-printed g c =
    let made = c.in-Ok.made in
    let linked = c.in-Ok.ensures.linked (zip (names_of c.args.names.now) c.args.texts.now) c.in_ok-units.ensures.right in
    let found = c.in_ok-text-in-Nothing in
    let P : Side → Type 0 = λ side. IsPrinted c.args.asked.form (named_side side) made.program made.system found.text.items 0 in (
      made.program,
      made.system,
      linked.0,
      subst P (sym c.in-Nothing.is) (found.ensures.printed, refl),
      found.ensures.solved,
    )
