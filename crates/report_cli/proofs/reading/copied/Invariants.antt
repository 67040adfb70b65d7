use Rattle.std.proofs.Common.{◌≡◌, take}
use Rattle.text_units.specs.Answers.{names_of}
use Rattle.report_cli.proofs.reading.copied.Given as goal

abbrev pub invariant-loop-name : goal.invariant-loop-name
invariant-loop-name l = l.copies.items ≡ names_of (take l.name-index l.names)
