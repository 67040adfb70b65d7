-- The words of the command line, and what right words ask for.
use Rattle.std.specs.Prelude.{ℕ, Bool, List, [], ◌∷◌, ◌++◌, map, string_bytes, String, codes, Option, Some, None}
use Rattle.std.specs.List.{All}
use Rattle.std.specs.declared.alloc.Global.{Global}
use Rattle.linked_laws.specs.location_laws.name_shapes.Bytes.{is_unit_byte, IsMadeOf}
use Rattle.command_line.specs.Language.{found_in}
use Rattle.command_line.specs.Rules.{asks_effects, asks_json, asks_stops, entry_names, script_word, unit_words}
use Rattle.command_line.specs.Meaning.{number_of}

-- the bytes of words
abbrev pub texts_of : List (String Global) → List (List ℕ)
texts_of words = map string_bytes words

-- names that are made of the bytes of units' names, which keep the parts of a location's name apart
abbrev pub AreUnitNames : List (List ℕ) → Type 0
AreUnitNames names = All (IsMadeOf is_unit_byte) names

-- the names of the units that words ask for, in order
abbrev pub units_read : List (List ℕ) → List (List ℕ)
units_read words = unit_words (found_in words)

-- the names of the functions at which words ask the program to be entered, in order
abbrev pub entries_read : List (List ℕ) → List (List ℕ)
entries_read words = entry_names (found_in words)

-- the name of the script of questions, where words ask for one
abbrev pub script_read : List (List ℕ) → Option (List ℕ)
script_read words = script_word (found_in words)

-- whether words ask for the report as JSON
abbrev pub json_read : List (List ℕ) → Bool
json_read words = asks_json (found_in words)

-- whether words ask what each function may read and write
abbrev pub effects_read : List (List ℕ) → Bool
effects_read words = asks_effects (found_in words)

-- whether words ask where a run may stop for a type
abbrev pub stops_read : List (List ℕ) → Bool
stops_read words = asks_stops (found_in words)

-- the number of the generated program that words ask for, where they do
abbrev pub number_read : List (List ℕ) → Option ℕ
number_read words = number_of (codes "gen") (found_in words)

-- the most steps of the run that words ask for, where they do
abbrev pub steps_read : List (List ℕ) → Option ℕ
steps_read words = number_of (codes "run") (found_in words)

-- the name of the text that is read beside the units: that of a script of questions, and `words` for a run
abbrev pub side_name : Option (List ℕ) → Option ℕ → Option (List ℕ)
side_name script None = script
side_name script (Some steps) = Some (codes "words")

-- the names of units, and behind them that of the text beside them where there is one
abbrev pub with_side : List (List ℕ) → Option (List ℕ) → List (List ℕ)
with_side units None = units
with_side units (Some side) = units ++ side ∷ []

-- the names that words ask for, in the order in which they are read
abbrev pub names_read : List (List ℕ) → List (List ℕ)
names_read words = with_side (units_read words) (side_name (script_read words) (steps_read words))
