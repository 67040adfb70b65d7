-- What the words, the texts of the units and what is read beside them say of the answer.
use Rattle.std.specs.Prelude.{◌≡◌, ◌⊎◌, ℕ, List, [], codes}
use Rattle.core_tree.specs.declared.node.Unit.{Unit}
use Rattle.core_tree.specs.declared.node.Program.{Program}
use Rattle.sol_model.specs.declared.system.System.{System}
use Rattle.obj_space.specs.declared.location.Location.{Location}
use Rattle.unit_report.specs.unit_system.Of.{IsProgramOf, IsSystemOf}
use Rattle.command_line.specs.Rules.{AreRight}
use Rattle.text_units.specs.Answers.{NamedText, Answer, refusal}
use Rattle.text_units.specs.Lowered.{AreRightTexts, IsRefusedRow}
use Rattle.text_units.specs.Refused.{IsRefusedText, FirstRefused}
use Rattle.report_cli.specs.Linking.{IsLinkRefusal, HaveManyNodes, HaveManyWords}
use Rattle.report_cli.specs.Told.{Side, Told}
use Rattle.report_cli.specs.Printed.{IsPrinted, IsRefusedSide}

-- a program that texts denote where those entries are named, or none and it begins at `main`: each text is right, as a
-- core unit, and the program is linked from these, on a table that its own functions made
unfoldable pub Denotes : List (List ℕ) → List NamedText → Program → Type 0
Denotes entries texts program = (units : List Unit) × AreRightTexts 0 texts units × IsProgramOf entries units program

-- the refusal of texts that are right: for a fault of linking, or for a limit that their program passes
abbrev pub AreRefusedTogether : List (List ℕ) → List NamedText → Answer → Type 0
AreRefusedTogether entries texts answer =
    IsLinkRefusal entries texts answer ⊎ (HaveManyNodes entries texts answer ⊎ HaveManyWords entries texts answer)

-- the first refusal of texts: that of the first one that isn't right, else that of all together
unfoldable pub Refuses : List (List ℕ) → List NamedText → Answer → Type 0
Refuses entries texts answer = FirstRefused IsRefusedText 0 texts answer ⊎ AreRefusedTogether entries texts answer

-- the same of texts that are read alone
abbrev pub RefusesRead : List (List ℕ) → List NamedText → Answer → Type 0
RefusesRead entries texts answer = FirstRefused IsRefusedRow 0 texts answer ⊎ AreRefusedTogether entries texts answer

-- what is read beside the units is refused on the program that their texts denote
pub record RefusesSide (entries : List (List ℕ)) (texts : List NamedText) (side : Side)
    (answer : Answer) : Type 0 where
  pub program : Program
  pub denoted : Denotes entries texts program
  pub space : List Location
  pub system : System
  pub system_of : IsSystemOf program space system
  pub refused : IsRefusedSide side program space system answer

-- the first refusal of what is told: that of the units, else that of what is read beside them on their program
abbrev pub RefusesTold : Told → Answer → Type 0
RefusesTold told answer = Refuses told.entries told.units answer ⊎ RefusesSide told.entries told.units told.side answer

-- the same of units whose texts are read alone
abbrev pub RefusesToldRead : Told → Answer → Type 0
RefusesToldRead told answer =
    RefusesRead told.entries told.units answer ⊎ RefusesSide told.entries told.units told.side answer

-- the same of units whose texts each have a right unit
abbrev pub RefusesToldRight : Told → Answer → Type 0
RefusesToldRight told answer =
    AreRefusedTogether told.entries told.units answer ⊎ RefusesSide told.entries told.units told.side answer

-- the answer of what is told: what is printed of the program that the units denote, or the first refusal
abbrev pub OutcomeOf : Told → Answer → Type 0
OutcomeOf told answer =
    ((program : Program) × (system : System) × Denotes told.entries told.units program
    × IsPrinted told.form told.side program system answer.out answer.status × (answer.err ≡ []))
    ⊎ RefusesTold told answer

-- the answer of words and of what is told of the names that they ask for: where the words aren't right, how the
-- program is used
abbrev pub Outcome : List (List ℕ) → Told → Answer → Type 0
Outcome words told answer =
    ((AreRight words → ⊥) × (answer ≡ refusal 2 (codes "usage")))
    ⊎ (AreRight words × OutcomeOf told answer)

-- a refusal by its status and its line
abbrev pub IsRefusedBy : Told → ℕ → List ℕ → Type 0
IsRefusedBy told status line = RefusesTold told (record { status = status; out = []; err = line })
