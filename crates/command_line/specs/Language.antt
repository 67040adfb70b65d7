-- The command line as clap reads it: which options there are, and which words it takes.
use Rattle.std.specs.Prelude.{◌≡◌, List, [], ◌∷◌, Some, codes, true}
use Rattle.clap.specs.Words.{App, Row, Rule, Text, fault_of, matches_of, new_rule}
use Rattle.clap.specs.Simple.{new_shape}
use Rattle.clap.specs.declared.builder.action.ArgAction.TheVariants.{Append, SetTrue}

-- an option with one value, by its long name alone
abbrev pub value_option : Text → Rule
value_option name = record (new_rule name) { long = Some name }

-- a flag, by its long name alone: its value is `true` where it stands
abbrev pub flag : Text → Rule
flag name = record (new_rule name) { long = Some name; action = Some SetTrue }

-- the last positional, with any number of values
abbrev pub positional_words : Text → Rule
positional_words name = record (new_rule name) { action = Some Append }

-- a command without help and version, whose words begin with its first argument
abbrev pub bare_command : Text → List Rule → App
bare_command name rules = record {
  top = record (new_shape name) {
    rules = rules;
    no_binary_name = true;
    disable_help_flag = true;
    disable_version_flag = true;
  };
  subs = [];
}

-- the options of the program
abbrev pub program_command : App
program_command = bare_command (codes "pta")
    (value_option (codes "workers")
    ∷ value_option (codes "ask")
    ∷ flag (codes "json")
    ∷ value_option (codes "gen")
    ∷ value_option (codes "run")
    ∷ flag (codes "desk")
    ∷ flag (codes "effects")
    ∷ flag (codes "stops")
    ∷ value_option (codes "entry")
    ∷ positional_words (codes "unit")
    ∷ [])

-- clap takes the words
abbrev pub IsTaken : List Text → Type 0
IsTaken words = fault_of program_command words ≡ []

-- what was found for each option
abbrev pub found_in : List Text → List Row
found_in words = matches_of program_command words
