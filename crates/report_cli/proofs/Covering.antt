-- The least sets of what is told cover each run of its program, and so do its effects.
use Rattle.std.proofs.Common.{◌≡◌, ℕ, List, [], ◌∷◌, ◌++◌, map, take, length, Option, Some, None, option_map, ap, sym, subst, refl, arith, append-nil}
use Rattle.std.specs.Prelude.{zip}
use Rattle.std.specs.Borrow.{Bor}
use Rattle.std.proofs.lemmas.List.{length-map}
use Rattle.core_tree.specs.declared.node.Program.{Program}
use Rattle.sol_model.specs.declared.system.System.{System}
use Rattle.sol_model.specs.Systems.{IsValid}
use Rattle.obj_space.specs.declared.location.Location.{Location}
use Rattle.row_share.specs.share_laws.Renumbering.{new_row}
use Rattle.row_share.proofs.share_laws.Leasts.{gives_least}
use Rattle.unit_report.specs.declared.solving.Solved.{Solved}
use Rattle.unit_report.specs.Solved.{IsKept, IsSolvedShared}
use Rattle.unit_report.specs.unit_system.Of.{IsSystemOf}
use Rattle.command_line.specs.declared.command.Command.{Command}
use Rattle.command_line.specs.Distinct.{AreDistinct}
use Rattle.report_cli.specs.covered_reports.Reports.{HasLeast, AreRunsCovered, AreEffectsCovered}
use Rattle.report_cli.specs.covered_reports.Stops.{AreBadCallsListed}
use Rattle.report_cli.proofs.covered_reports.Reports.{reports_covered, effects_covered, bad_calls_covered}
use Rattle.text_units.specs.Answers.{NamedText, names_of}
use Rattle.report_cli.specs.declared.form.Form.{Form}
use Rattle.report_cli.specs.Words.{side_name, with_side}
use Rattle.report_cli.specs.Told.{Side, no_side, with_questions, with_words, Told, names_for, read_as, told_as, told_by}
use Rattle.report_cli.specs.Printed.{AreAnswersTo, IsPrinted}
use Rattle.report_cli.specs.Outcome.{Denotes}
use Rattle.report_cli.proofs.Linked.{formed}

-- what is printed of a program is printed of its system
system_printed : (form : Form) (side : Side) (program : Program) (system : System) (text : List ℕ) (status : ℕ) → IsPrinted form side program system text status → (space : List Location) × IsSystemOf program space system
unfolding AreAnswersTo
system_printed form no_side program system text status h = formed form program system text h.0
system_printed form (with_questions script) program system text status ((short, (space, own, answers)), zero) = (space, own)
system_printed form (with_words steps words) program system text status h = (h.space, h.system_of)

pub printed_covered : (told : Told) (program : Program) (system : System) (text : List ℕ) (status : ℕ) → AreDistinct (map (λ (unit : NamedText). unit.0) told.units) → Denotes told.entries told.units program
    → IsPrinted told.form told.side program system text status
    → AreRunsCovered program system × AreEffectsCovered program system × AreBadCallsListed program system
unfolding Denotes
printed_covered told program system text status distinct (units, right, of) printed =
    let own = system_printed told.form told.side program system text status printed in (
      reports_covered told.entries told.units units program own.0 system distinct right of own.1,
      effects_covered told.entries told.units units program own.0 system distinct right of own.1,
      bad_calls_covered told.entries told.units units program own.0 system distinct right of own.1,
    )

-- what is kept of a system was solved, so the system has a least solution
least_shared : (system : System) (kept : Solved) → IsValid system → IsSolvedShared system kept → HasLeast system
least_shared system kept valid h =
    (λ old location. h.solved.family (new_row h.shared.row old) location, gives_least system kept.system h.shared.of h.shared.row valid h.shared.classes h.shared.reduced h.solved.family h.solved.least)

pub least_kept : (told : Told) (program : Program) (system : System) (text : List ℕ) (status : ℕ) (kept : Option Solved) → IsPrinted told.form told.side program system text status → IsKept system kept → HasLeast system
least_kept told program system text status None printed h = absurd h
least_kept told program system text status (Some kept) printed h =
    let own = system_printed told.form told.side program system text status printed in least_shared system kept own.1.valid h

-- ---- the names of the units that are told

names_taken : (units more texts : List (List ℕ)) → length texts ≡ length (units ++ more) → map (λ (unit : NamedText). unit.0) (take (length units) (zip (units ++ more) texts)) ≡ units
names_taken [] more texts count = refl
names_taken (unit ∷ units) more [] count = absurd (omega arith)
names_taken (unit ∷ units) more (text ∷ texts) count = ap (λ (rest : List (List ℕ)). unit ∷ rest) (names_taken units more texts (omega arith))

names_apart : (units : List (List ℕ)) (side : Option (List ℕ)) (texts : List (List ℕ)) → length texts ≡ length (with_side units side) → map (λ (unit : NamedText). unit.0) (take (length units) (zip (with_side units side) texts)) ≡ units
names_apart units None texts count =
    let P : List (List ℕ) → Type 0 = λ all. length texts ≡ length all → map (λ (unit : NamedText). unit.0) (take (length units) (zip all texts)) ≡ units in
    subst P (append-nil units) (names_taken units [] texts) count
names_apart units (Some side) texts count = names_taken units (side ∷ []) texts count

distinct_by : (number : Option ℕ) (read : Told) → AreDistinct (map (λ (unit : NamedText). unit.0) read.units) → AreDistinct (map (λ (unit : NamedText). unit.0) (told_by number read).units)
distinct_by None read distinct = distinct
distinct_by (Some number) read distinct = λ j k lt within same. absurd (omega arith)

-- those of a command's units are distinct where its words are
pub distinct_told : (command : Command) (texts : List (List ℕ)) → length texts ≡ length (names_for command) → AreDistinct (names_of command.units.items) → AreDistinct (map (λ (unit : NamedText). unit.0) (told_as command texts).units)
distinct_told command texts count distinct =
    let units : List (List ℕ) = names_of command.units.items in
    let side : Option (List ℕ) = side_name (option_map (λ name. name.now) command.ask) command.steps in
    let same : length units ≡ length command.units.items = length-map command.units.items (λ (b : Bor (List ℕ)). b.now) in
    let A : ℕ → Type 0 = λ n. map (λ (unit : NamedText). unit.0) (take n (zip (with_side units side) texts)) ≡ units in
    let D : List (List ℕ) → Type 0 = AreDistinct in
    distinct_by command.generated (read_as command texts) (subst D (sym (subst A same (names_apart units side texts count))) distinct)
