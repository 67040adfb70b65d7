use Rattle.std.proofs.Common.{◌≡◌, ℕ, ◌≤◌, Option, IfSome, subst, sym}
use Rattle.std.specs.Prelude.{IfOk, IfErr}
use Rattle.core_tree.specs.declared.node.Program.{Program}
use Rattle.sol_model.specs.declared.system.System.{System}
use Rattle.unit_report.specs.Solved.{IsSolvedShared}
use Rattle.report_cli.specs.declared.form.Printed.{Printed}
use Rattle.report_cli.specs.Told.{Told, read_as, told_by}
use Rattle.report_cli.specs.Printed.{IsPrinted}
use Rattle.report_cli.specs.Outcome.{Denotes}
use Rattle.report_cli.specs.Faults.{IsFaultOfTold}
use Rattle.report_cli.proofs.top.text_of_command.Goals as goal

-- what was made of what is told
abbrev IsMade : Told → Printed → Type 0
IsMade told made = (program : Program) × (system : System) × Denotes told.entries told.units program × IsPrinted told.form told.side program system made.text.items made.status × IsSolvedShared system made.solved

pub text_of_generated-requires-clause-number : goal.text_of_generated-requires-clause-number
text_of_generated-requires-clause-number g c κs within = let P : Option ℕ → Type 0 = λ n. IfSome n (λ k. (1 ≤ k) × (k ≤ 1000)) in subst P c.in-Some.is c.requires.number

pub returns-in-Some-clause-printed : goal.returns-in-Some-clause-printed
returns-in-Some-clause-printed g c =
    let read : Told = read_as c.args.command.now c.args.texts.now in
    let P : Option ℕ → Type 0 = λ n. IfOk c.text_of_generated.result (IsMade (told_by n read)) in
    subst P (sym c.in-Some.is) c.text_of_generated.ensures.printed

pub returns-in-Some-clause-refused : goal.returns-in-Some-clause-refused
returns-in-Some-clause-refused g c =
    let read : Told = read_as c.args.command.now c.args.texts.now in
    let P : Option ℕ → Type 0 = λ n. IfErr c.text_of_generated.result (IsFaultOfTold (told_by n read)) in
    subst P (sym c.in-Some.is) c.text_of_generated.ensures.refused

pub returns-in-None-clause-printed : goal.returns-in-None-clause-printed
returns-in-None-clause-printed g c =
    let read : Told = read_as c.args.command.now c.args.texts.now in
    let P : Option ℕ → Type 0 = λ n. IfOk c.text_of_read.result (IsMade (told_by n read)) in
    subst P (sym c.in-None.is) c.text_of_read.ensures.printed

pub returns-in-None-clause-refused : goal.returns-in-None-clause-refused
returns-in-None-clause-refused g c =
    let read : Told = read_as c.args.command.now c.args.texts.now in
    let P : Option ℕ → Type 0 = λ n. IfErr c.text_of_read.result (IsFaultOfTold (told_by n read)) in
    subst P (sym c.in-None.is) c.text_of_read.ensures.refused
