-- What a call is told.
use Rattle.std.specs.Prelude.{ℕ, Bool, if◌then◌else◌, List, [], ◌∷◌, Option, Some, None, option_map}
use Rattle.std.specs.Prelude.{length, slice_get, take, zip, codes}
use Rattle.gen_units.specs.Generated.{unit_text}
use Rattle.command_line.specs.declared.command.Command.{Command}
use Rattle.report_cli.specs.declared.form.Form.{Form}
use Rattle.report_cli.specs.declared.form.Form.TheVariants.{Report, Summary, Effects, Stops}
use Rattle.report_cli.specs.Words.{effects_read, entries_read, json_read, names_read, number_read, side_name}
use Rattle.report_cli.specs.Words.{steps_read, stops_read, units_read}
use Rattle.text_units.specs.Answers.{names_of, NamedText, told_units}
use Rattle.report_cli.specs.Words.{with_side}

-- what is read beside the units: nothing, a script of questions, or the words of a run of at most so many steps
pub data Side : Type 0 where
  no_side : Side
  with_questions : (script : NamedText) → Side
  with_words : (steps : ℕ) (words : NamedText) → Side

-- the names of the functions at which the program is entered, none where that is `main`, the units with their texts,
-- what is read beside them, and what is printed where that is nothing
pub record Told : Type 0 where
  pub entries : List (List ℕ)
  pub units : List NamedText
  pub side : Side
  pub form : Form

-- a text beside the units is the words of a run, where one is asked for, and else a script of questions
abbrev pub side_of : Option ℕ → Option NamedText → Side
side_of steps None = no_side
side_of None (Some text) = with_questions text
side_of (Some steps) (Some text) = with_words steps text

-- what is printed where nothing is read beside the units: what functions touch where that is asked for, else where a
-- run may stop for a type where that is, and else the report, as JSON or as lines
abbrev pub form_of : Bool → Bool → Bool → Form
form_of effects stops json = if effects then Effects else (if stops then Stops else Report json)

-- what words ask for
abbrev pub form_read : List (List ℕ) → Form
form_read words = form_of (effects_read words) (stops_read words) (json_read words)

-- what a command asks for
abbrev pub form_for : Command → Form
form_for command = form_of command.effects command.stops command.json

-- of named texts the first so many are units, and the one behind them stands beside them
abbrev pub parted : List (List ℕ) → Form → Option ℕ → ℕ → List NamedText → Told
parted entries form steps count texts = record {
  entries = entries;
  units = take count texts;
  side = side_of steps (slice_get texts count);
  form = form;
}

-- the generated program of a number: the one unit `gen`, of which a summary is printed
abbrev pub generated : ℕ → Told
generated number = record {
  entries = [];
  units = (codes "gen", unit_text number) ∷ [];
  side = no_side;
  form = Summary number;
}

-- the generated program of a number, where there is one, and else what was read
abbrev pub told_by : Option ℕ → Told → Told
told_by None read = read
told_by (Some number) read = generated number

-- what a call of these words is told, where the text of each name that it reads is; right words that ask for a
-- generated program name nothing else
abbrev pub told_for : (List ℕ → Option (List ℕ)) → List (List ℕ) → Option Told
told_for text_of words =
    option_map (λ texts. told_by (number_read words)
    (parted (entries_read words) (form_read words) (steps_read words) (length (units_read words)) texts))
    (told_units text_of (names_read words))

-- the names that a command reads, and what was read for it
abbrev pub names_for : Command → List (List ℕ)
names_for command =
    with_side (names_of command.units.items) (side_name (option_map (λ name. name.now) command.ask) command.steps)

-- what was read for a command
abbrev pub read_as : Command → List (List ℕ) → Told
read_as command texts =
    parted (names_of command.entries.items) (form_for command) command.steps (length command.units.items)
    (zip (names_for command) texts)

abbrev pub told_as : Command → List (List ℕ) → Told
told_as command texts = told_by command.generated (read_as command texts)
