-- Words that ask for the same are told the same, whatever the number of workers.
use Rattle.std.proofs.Common.{◌≡◌, ◌∙◌, ℕ, Bool, List, Option, option_map, length, ap}
use Rattle.command_line.specs.Language.{found_in}
use Rattle.command_line.specs.Meaning.{number_of}
use Rattle.command_line.specs.Rules.{asks_effects, asks_json, asks_stops, entry_names, script_word, unit_words}
use Rattle.std.specs.Prelude.{codes}
use Rattle.text_units.specs.Answers.{told_units}
use Rattle.report_cli.specs.Words.{side_name, with_side}
use Rattle.report_cli.specs.Told.{Told, form_of, parted, told_by, told_for}
use Rattle.script_laws.specs.Scripted.{AskTheSame}

-- what is told, by what words ask for
told_from : (List ℕ → Option (List ℕ)) → List (List ℕ) → Option (List ℕ) → Bool → Option ℕ → Option ℕ → Bool → Bool → List (List ℕ) → Option Told
told_from text_of units script json number steps effects stops entries =
    option_map (λ texts. told_by number (parted entries (form_of effects stops json) steps (length units) texts)) (told_units text_of (with_side units (side_name script steps)))

pub same_told : (text_of : List ℕ → Option (List ℕ)) (words others : List (List ℕ)) → AskTheSame words others → told_for text_of others ≡ told_for text_of words
unfolding told_from
same_told text_of words others h =
    let rows = found_in words in
    let more = found_in others in
    let number = number_of (codes "gen") in
    let steps = number_of (codes "run") in
    ap (λ (units : List (List ℕ)). told_from text_of units (script_word more) (asks_json more) (number more) (steps more) (asks_effects more) (asks_stops more) (entry_names more)) h.units
    ∙ (ap (λ (script : Option (List ℕ)). told_from text_of (unit_words rows) script (asks_json more) (number more) (steps more) (asks_effects more) (asks_stops more) (entry_names more)) h.script
    ∙ (ap (λ (json : Bool). told_from text_of (unit_words rows) (script_word rows) json (number more) (steps more) (asks_effects more) (asks_stops more) (entry_names more)) h.json
    ∙ (ap (λ (n : Option ℕ). told_from text_of (unit_words rows) (script_word rows) (asks_json rows) n (steps more) (asks_effects more) (asks_stops more) (entry_names more)) h.number
    ∙ (ap (λ (n : Option ℕ). told_from text_of (unit_words rows) (script_word rows) (asks_json rows) (number rows) n (asks_effects more) (asks_stops more) (entry_names more)) h.steps
    ∙ (ap (λ (b : Bool). told_from text_of (unit_words rows) (script_word rows) (asks_json rows) (number rows) (steps rows) b (asks_stops more) (entry_names more)) h.effects
    ∙ (ap (λ (b : Bool). told_from text_of (unit_words rows) (script_word rows) (asks_json rows) (number rows) (steps rows) (asks_effects rows) b (entry_names more)) h.stops
    ∙ ap (λ (names : List (List ℕ)). told_from text_of (unit_words rows) (script_word rows) (asks_json rows) (number rows) (steps rows) (asks_effects rows) (asks_stops rows) names) h.entries))))))
