-- What is read beside the units, as the code has it.
use Rattle.std.specs.Prelude.{ℕ, List}
use Rattle.report_cli.specs.declared.form.Form.{Form}
use Rattle.report_cli.specs.declared.side.SideText.{SideText}
use Rattle.report_cli.specs.declared.side.Side.{Side as SideRead}
use Rattle.report_cli.specs.declared.side.Side.TheVariants as read
use Rattle.text_units.specs.Answers.{NamedText}
use Rattle.report_cli.specs.Told.{Side, no_side, with_questions, with_words, Told}

abbrev pub named : SideText → NamedText
named text = (text.name.now, text.text.now)

abbrev pub named_side : SideRead → Side
named_side read.Nothing = no_side
named_side (read.Questions script desk) = with_questions (named script)
named_side (read.Words steps words) = with_words steps (named words)

abbrev pub told_with : List (List ℕ) → List NamedText → Side → Form → Told
told_with entries units side form = record { entries = entries; units = units; side = side; form = form }
