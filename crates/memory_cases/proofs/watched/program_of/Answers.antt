use Rattle.std.specs.Prelude.{◌≡◌, ℕ, List, length, zip}
use Rattle.std.specs.Borrow.{Bor}
use Rattle.std.proofs.Common.{◌∙◌, arith, subst}
use Rattle.std.proofs.lemmas.List.{length-map}
use Rattle.command_line.specs.Distinct.{AreDistinct}
use Rattle.text_units.specs.Answers.{names_of}
use Rattle.text_units.proofs.Refused.{zip_names}
use Rattle.report_cli.proofs.covered_reports.Linkable.{linkable, filled}
use Rattle.memory_cases.proofs.watched.program_of.Goals as goal

-- a list of one has no repetition
one_distinct : (names : List (List ℕ)) → length names ≡ 1 → AreDistinct names
one_distinct names one j k before within same = absurd (omega arith)

pub linked_system-requires-clause-linkable : goal.linked_system-requires-clause-linkable
linked_system-requires-clause-linkable g c =
    let texts = zip (names_of c.args.names.now) c.args.texts.now in
    let distinct : AreDistinct (names_of c.args.names.now) =
    one_distinct (names_of c.args.names.now) (length-map c.args.names.now (λ (name : Bor (List ℕ)). name.now) ∙ c.requires.one) in
    let D : List (List ℕ) → Type 0 = AreDistinct in
    linkable texts c.in-Ok.units.items (subst D (zip_names c.args.names.now c.args.texts.now c.requires.count) distinct) c.in-Ok.ensures.right

pub linked_system-requires-clause-filled : goal.linked_system-requires-clause-filled
linked_system-requires-clause-filled g c = filled (zip (names_of c.args.names.now) c.args.texts.now) c.in-Ok.units.items c.in-Ok.ensures.right
