-- What the fault of units says.
use Rattle.std.specs.Prelude.{◌≡◌, ◌++◌, List, [], ℕ, codes, decimal}
use Rattle.text_units.specs.declared.fault.UnitsFault.{UnitsFault}
use Rattle.text_units.specs.declared.fault.UnitsFault.TheVariants.{Refused, Memory}
use Rattle.text_units.specs.Faults.{fault_of}
use Rattle.c_lexer.specs.Places.{line_of, column_of}
use Rattle.text_units.specs.Answers.{NamedText, refusal, place_text}
use Rattle.text_units.specs.Alone.{malformed_at}
use Rattle.link_names.specs.declared.fault.LinkFault.TheVariants as link
use Rattle.unit_report.specs.declared.unit_system.fault.UnitFault.{UnitFault}
use Rattle.unit_report.specs.declared.unit_system.fault.UnitFault.TheVariants as unit
use Rattle.report_cli.specs.Linking.{link_refusal, nodes_refusal, words_refusal}
use Rattle.core_tree.specs.declared.node.Program.{Program}
use Rattle.sol_model.specs.declared.system.System.{System}
use Rattle.obj_space.specs.declared.location.Location.{Location}
use Rattle.unit_report.specs.declared.unit_answers.fault.AnswersFault.{AnswersFault}
use Rattle.unit_report.specs.declared.unit_answers.fault.AnswersFault.TheVariants as answers
use Rattle.ref_state.specs.declared.run_words.words.WordsFault.{WordsFault}
use Rattle.ref_state.specs.declared.run_words.words.WordsFault.TheVariants as words
use Rattle.report_cli.specs.Told.{Side, Told}
use Rattle.report_cli.specs.Printed.{AreRefusedWords, IsRefusedSide}
use Rattle.report_cli.specs.Outcome.{IsRefusedBy, Refuses}

-- a refusal is that of the units, where those entries are named; want of memory says nothing of them
abbrev pub IsFaultOf : List (List ℕ) → List NamedText → UnitsFault → Type 0
IsFaultOf entries units (Refused status line) = Refuses entries units (record { status = status; out = []; err = line })
IsFaultOf entries units Memory = Unit {0}

-- a refusal is that of what is told
abbrev pub IsFaultOfTold : Told → UnitsFault → Type 0
IsFaultOfTold told (Refused status line) = IsRefusedBy told status line
IsFaultOfTold told Memory = Unit {0}

-- a refusal is that of what is read beside the units of a program
abbrev pub IsFaultOfSide : Program → List Location → System → Side → UnitsFault → Type 0
IsFaultOfSide program space system side (Refused status line) =
    IsRefusedSide side program space system (record { status = status; out = []; err = line })
IsFaultOfSide program space system side Memory = Unit {0}

-- a refusal is that of the words of a run
abbrev pub AreFaultOfWords : NamedText → UnitsFault → Type 0
AreFaultOfWords words (Refused status line) =
    AreRefusedWords words (record { status = status; out = []; err = line })
AreFaultOfWords words Memory = Unit {0}

-- the refusal for a fault of linking, and for a limit
abbrev pub IsSystemRefusal : List (List ℕ) → UnitFault → UnitsFault → Type 0
IsSystemRefusal names (unit.Link link.OutOfMemory) fault = fault ≡ Memory
IsSystemRefusal names (unit.Link cause) fault = fault ≡ fault_of (link_refusal names cause)
IsSystemRefusal names (unit.Nodes nodes) fault = fault ≡ fault_of (nodes_refusal nodes)
IsSystemRefusal names (unit.Words words) fault = fault ≡ fault_of (words_refusal words)
IsSystemRefusal names unit.OutOfMemory fault = fault ≡ Memory

-- the refusal for the fault of a script
abbrev pub IsAnswersRefusal : AnswersFault → UnitsFault → Type 0
IsAnswersRefusal (answers.Question number) fault =
    fault ≡ fault_of (refusal 10 (codes "question " ++ decimal number))
IsAnswersRefusal answers.OutOfMemory fault = fault ≡ Memory

-- the refusal for the fault of the words of a run
abbrev pub IsWordsRefusal : NamedText → WordsFault → UnitsFault → Type 0
IsWordsRefusal text (words.Malformed at) fault =
    fault ≡ fault_of (malformed_at (place_text text.0 (line_of text.1 at) (column_of text.1 at)))
IsWordsRefusal text words.OutOfMemory fault = fault ≡ Memory
