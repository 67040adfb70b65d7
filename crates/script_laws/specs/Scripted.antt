-- What is told has one status, one line and one text, whatever program its units denote.
use Rattle.std.specs.Prelude.{◌≡◌, ◌⊎◌, ℕ, Bool, false, List, Option, Some, codes, map}
use Rattle.core_tree.specs.declared.node.Program.{Program}
use Rattle.sol_model.specs.declared.system.System.{System}
use Rattle.obj_space.specs.declared.location.Location.{Location}
use Rattle.unit_report.specs.unit_system.Of.{IsSystemOf}
use Rattle.command_line.specs.Distinct.{AreDistinct}
use Rattle.command_line.specs.Language.{found_in}
use Rattle.command_line.specs.Meaning.{number_of}
use Rattle.command_line.specs.Rules.{AreRight, asks_effects, asks_json, asks_stops, entry_names, script_word, unit_words}
use Rattle.text_units.specs.Answers.{NamedText, Answer}
use Rattle.report_cli.specs.Words.{AreUnitNames}
use Rattle.report_cli.specs.Told.{Side, no_side, with_questions, with_words, Told, form_of, generated, told_for}
use Rattle.report_cli.specs.Outside.{IsWritten}
use Rattle.report_cli.specs.Printed.{IsPrinted}
use Rattle.report_cli.specs.Outcome.{Denotes, RefusesSide, RefusesTold, OutcomeOf, Outcome}
use Rattle.report_cli.specs.Accepted.{TakesSide, AreAccepted}

-- What is read beside the units, a script of questions or the words of a run, on the programs that texts denote.
pub record OneScript : Type 0 where
  -- where one program with a system takes it, all take it
  pub taken : (entries : List (List ℕ)) (texts : List NamedText) (p q : Program) (space : List Location)
      (system : System) (side : Side)
      → Denotes entries texts p
      → Denotes entries texts q
      → IsSystemOf p space system → TakesSide p side → TakesSide q side
  -- it is refused with one answer: for its length, at one line of questions, or at one byte of words
  pub refused : (entries : List (List ℕ)) (texts : List NamedText) (side : Side) (one other : Answer)
      → RefusesSide entries texts side one
      → RefusesSide entries texts side other → one ≡ other
  -- and not where one program with a system takes it
  pub apart : (entries : List (List ℕ)) (texts : List NamedText) (p : Program) (space : List Location)
      (system : System) (side : Side) (answer : Answer)
      → Denotes entries texts p
      → IsSystemOf p space system → TakesSide p side → RefusesSide entries texts side answer → ⊥

-- the same status; of a run it is only said that both are those of a text that is written whole
abbrev pub SameStatus : Side → ℕ → ℕ → Type 0
SameStatus no_side one other = one ≡ other
SameStatus (with_questions script) one other = one ≡ other
SameStatus (with_words steps words) one other = (one ≡ other) ⊎ (IsWritten one × IsWritten other)

-- texts whose names are distinct, and of the bytes of units' names
pub record AreNamedTexts (texts : List NamedText) : Type 0 where
  pub distinct : AreDistinct (map (λ text. text.0) texts)
  pub bytes : AreUnitNames (map (λ text. text.0) texts)

-- the same bytes, of answers to a script, of a report, as lines or as JSON, and of the summary of a generated program;
-- of what functions touch, of where a run may stop and of a run's text it isn't said
pub record SameOut (told : Told) (one other : List ℕ) : Type 0 where
  pub script : (script : NamedText) → told.side ≡ with_questions script → one ≡ other
  pub report : (json : Bool) → told.side ≡ no_side → told.form ≡ form_of false false json → one ≡ other
  pub summary : (number : ℕ) → told.side ≡ no_side → told.form ≡ (generated number).form → one ≡ other

-- the same status, the same line of `err`, and where units have such names the same text
pub record SameFate (told : Told) (one other : Answer) : Type 0 where
  pub status : SameStatus told.side one.status other.status
  pub err : one.err ≡ other.err
  pub out : AreNamedTexts told.units → SameOut told one.out other.out

-- two lists of words ask for the same: clap finds the same units, script, form, numbers and entries. Of the number of
-- workers, and of whether questions go over a desk, it isn't asked.
pub record AskTheSame (words others : List (List ℕ)) : Type 0 where
  pub units : unit_words (found_in others) ≡ unit_words (found_in words)
  pub script : script_word (found_in others) ≡ script_word (found_in words)
  pub json : asks_json (found_in others) ≡ asks_json (found_in words)
  pub number : number_of (codes "gen") (found_in others) ≡ number_of (codes "gen") (found_in words)
  pub steps : number_of (codes "run") (found_in others) ≡ number_of (codes "run") (found_in words)
  pub effects : asks_effects (found_in others) ≡ asks_effects (found_in words)
  pub stops : asks_stops (found_in others) ≡ asks_stops (found_in words)
  pub entries : entry_names (found_in others) ≡ entry_names (found_in words)

-- What is told, and words with it.
pub record OneFate : Type 0 where
  -- two refusals of what is told are one answer
  pub refused : (told : Told) (one other : Answer) → RefusesTold told one → RefusesTold told other → one ≡ other
  -- and there is none where a report, answers or the text of a run are printed
  pub printed : (told : Told) (p : Program) (system : System) (out : List ℕ) (status : ℕ) (answer : Answer)
      → Denotes told.entries told.units p
      → IsPrinted told.form told.side p system out status → RefusesTold told answer → ⊥
  -- what is told is accepted where one program with a system takes what is read beside the units
  pub accepted : (told : Told) (p : Program) (space : List Location) (system : System)
      → Denotes told.entries told.units p
      → IsSystemOf p space system → TakesSide p told.side → AreAccepted told
  -- two answers to what is told have one status, one line and one text
  pub told : (told : Told) (one other : Answer) → OutcomeOf told one → OutcomeOf told other → SameFate told one other
  pub words : (words : List (List ℕ)) (told : Told) (one other : Answer)
      → Outcome words told one
      → Outcome words told other
      → SameFate told one other
  -- so two calls of the same words, for which the same texts are told, print the same bytes
  pub bytes : (text_of : List ℕ → Option (List ℕ)) (words : List (List ℕ)) (told : Told) (one other : Answer)
      → told_for text_of words ≡ Some told
      → Outcome words told one
      → Outcome words told other
      → SameOut told one.out other.out
  -- words that ask for the same, by as many workers as they may, are told the same; and so two calls of such words, if
  -- both are right, have one fate and print the same bytes: no number of workers changes them
  pub asked : (text_of : List ℕ → Option (List ℕ)) (words others : List (List ℕ))
      → AskTheSame words others
      → told_for text_of others ≡ told_for text_of words
  pub workers : (text_of : List ℕ → Option (List ℕ)) (words others : List (List ℕ)) (told : Told) (one other : Answer)
      → AreRight words
      → AreRight others
      → AskTheSame words others
      → told_for text_of words ≡ Some told
      → Outcome words told one
      → Outcome others told other
      → SameFate told one other × SameOut told one.out other.out
