-- The command that the words give.
use Rattle.std.specs.Prelude.{◌≡◌, ℕ, List, Option, codes, option_map}
use Rattle.std.specs.Option.{option_map_or}
use Rattle.std.specs.Str.Parse.{digits_value}
use Rattle.clap.specs.Words.{Row, Text, first_of}
use Rattle.clap.specs.Walk.{texts}
use Rattle.command_line.specs.Language.{found_in}
use Rattle.command_line.specs.Rules.{AreRight, asks_desk, asks_effects, asks_json, asks_stops, entry_names, script_word}
use Rattle.command_line.specs.Rules.{unit_words}
use Rattle.command_line.specs.declared.command.Command.{Command}

-- the number of an option, where it stands
abbrev pub number_of : Text → List Row → Option ℕ
number_of name rows = option_map (digits_value 10) (first_of name rows)

-- the command says what was found
pub record Says (rows : List Row) (command : Command) : Type 0 where
  pub workers : command.workers ≡ option_map_or (digits_value 10) (first_of (codes "workers") rows) 1
  pub ask : option_map (λ name. name.now) command.ask ≡ script_word rows
  pub json : command.json ≡ asks_json rows
  pub generated : command.generated ≡ number_of (codes "gen") rows
  pub steps : command.steps ≡ number_of (codes "run") rows
  pub desk : command.desk ≡ asks_desk rows
  pub effects : command.effects ≡ asks_effects rows
  pub stops : command.stops ≡ asks_stops rows
  pub entries : texts command.entries.items ≡ entry_names rows
  pub units : texts command.units.items ≡ unit_words rows

-- the words are right, and the command says what they say
pub record IsCommandOf (words : List Text) (command : Command) : Type 0 where
  pub right : AreRight words
  pub says : Says (found_in words) command
