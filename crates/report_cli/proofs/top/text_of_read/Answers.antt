use Rattle.std.proofs.Common.{◌≡◌, ◌∙◌, ℕ, List, ap, subst}
use Rattle.std.specs.Prelude.{zip}
use Rattle.std.specs.Borrow.{Bor}
use Rattle.std.proofs.lemmas.Result.{IfOk-weaker}
use Rattle.core_tree.specs.declared.node.Program.{Program}
use Rattle.sol_model.specs.declared.system.System.{System}
use Rattle.unit_report.specs.Solved.{IsSolvedShared}
use Rattle.text_units.specs.declared.fault.UnitsFault.{UnitsFault}
use Rattle.report_cli.specs.declared.form.Form.{Form}
use Rattle.report_cli.specs.declared.form.Printed.{Printed}
use Rattle.text_units.specs.Answers.{NamedText, names_of}
use Rattle.report_cli.specs.Told.{Side, Told, read_as}
use Rattle.report_cli.specs.Printed.{IsPrinted}
use Rattle.report_cli.specs.Outcome.{Denotes}
use Rattle.report_cli.specs.Scripts.{told_with}
use Rattle.report_cli.specs.Faults.{IsFaultOfTold}
use Rattle.report_cli.proofs.Scripted.{on_fault}
use Rattle.report_cli.proofs.top.text_of_read.Goals as goal

-- what was made of what is told
abbrev IsMade : Told → Printed → Type 0
IsMade told made = (program : Program) × (system : System) × Denotes told.entries told.units program × IsPrinted told.form told.side program system made.text.items made.status × IsSolvedShared system made.solved

-- what was made of the units of a command, where its entries are named, and of what is read beside them
made_told : (entries : List (List ℕ)) (form : Form) (units : List (Bor (List ℕ))) (slice : List (Bor (List ℕ))) (texts : List (List ℕ)) (side : Side) (told : Told) (program : Program) (system : System) (text : List ℕ) (status : ℕ) → slice ≡ units
    → entries ≡ told.entries → zip (names_of units) texts ≡ told.units → side ≡ told.side → form ≡ told.form → Denotes entries (zip (names_of slice) texts) program → IsPrinted form side program system text status
    → Denotes told.entries told.units program × IsPrinted told.form told.side program system text status
made_told entries form units slice texts side told program system text status sliced entries_are units_are side_is form_is denoted printed =
    let N : List (Bor (List ℕ)) → Type 0 = λ names. Denotes entries (zip (names_of names) texts) program in
    let D : List NamedText → Type 0 = λ named. Denotes entries named program in
    let E : List (List ℕ) → Type 0 = λ names. Denotes names told.units program in
    let P : Side → Type 0 = λ s. IsPrinted form s program system text status in
    let F : Form → Type 0 = λ f. IsPrinted f told.side program system text status in
    (subst E entries_are (subst D units_are (subst N sliced denoted)), subst F form_is (subst P side_is printed))

fault_told : (entries : List (List ℕ)) (form : Form) (units : List (Bor (List ℕ))) (slice : List (Bor (List ℕ))) (texts : List (List ℕ)) (side : Side) (told : Told) (fault : UnitsFault) → slice ≡ units
    → entries ≡ told.entries → zip (names_of units) texts ≡ told.units → side ≡ told.side → form ≡ told.form → IsFaultOfTold (told_with entries (zip (names_of slice) texts) side form) fault → IsFaultOfTold told fault
fault_told entries form units slice texts side told fault sliced entries_are units_are side_is form_is refused =
    let N : List (Bor (List ℕ)) → Type 0 = λ names. IsFaultOfTold (told_with entries (zip (names_of names) texts) side form) fault in
    let D : List NamedText → Type 0 = λ named. IsFaultOfTold (told_with entries named side form) fault in
    let E : List (List ℕ) → Type 0 = λ names. IsFaultOfTold (told_with names told.units side form) fault in
    let P : Side → Type 0 = λ s. IsFaultOfTold (told_with told.entries told.units s form) fault in
    let F : Form → Type 0 = λ f. IsFaultOfTold (told_with told.entries told.units told.side f) fault in
    subst F form_is (subst P side_is (subst E entries_are (subst D units_are (subst N sliced refused))))

-- the names of a command's entries, copied
names_copied : (items : List (Bor (List ℕ))) (slice : List (Bor (List ℕ))) (copies given : List (List ℕ)) → slice ≡ items → copies ≡ names_of slice → given ≡ copies → given ≡ names_of items
names_copied items slice copies given sliced copied is = is ∙ copied ∙ ap names_of sliced

pub returns-clause-printed : goal.returns-clause-printed
returns-clause-printed g c =
    let read : Told = read_as c.args.command.now c.args.texts.now in
    let entries = names_copied _ _ _ _ c.as_slice-named.ensures.value c.in_ok-copies.ensures c.as_slice-entries.ensures.value in
    IfOk-weaker c.text_of_units.result _ (IsMade read)
    (λ made h. (let both = made_told _ c.form_of-form.result _ _ _ _ read h.0 h.1 made.text.items made.status c.as_slice-names.ensures.value entries c.unit_texts-own.ensures.units c.side_of-side.ensures c.form_of-form.ensures h.2 h.3 in
    (h.0, h.1, both.0, both.1, h.4))) c.text_of_units.ensures.printed

pub returns-clause-refused : goal.returns-clause-refused
returns-clause-refused g c =
    let read : Told = read_as c.args.command.now c.args.texts.now in
    let entries = names_copied _ _ _ _ c.as_slice-named.ensures.value c.in_ok-copies.ensures c.as_slice-entries.ensures.value in
    on_fault c.text_of_units.result _ (IsFaultOfTold read)
    (λ fault h. fault_told _ c.form_of-form.result _ _ _ _ read fault c.as_slice-names.ensures.value entries c.unit_texts-own.ensures.units c.side_of-side.ensures c.form_of-form.ensures h) c.text_of_units.ensures.refused
