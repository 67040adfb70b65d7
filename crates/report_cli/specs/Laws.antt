-- Texts have one refusal at most, whatever entries are named, and none where they are accepted.
use Rattle.std.specs.Prelude.{◌≡◌, ◌⊎◌, ℕ, List, length}
use Rattle.core_tree.specs.declared.node.Unit.{Unit}
use Rattle.core_tree.specs.declared.node.Program.{Program}
use Rattle.text_units.specs.Answers.{NamedText, Answer}
use Rattle.text_units.specs.Alone.{IsRefusedAlone, AreReadAlone}
use Rattle.parsed_tree_laws.specs.reading_laws.right_laws.Alike.{AreAlike}
use Rattle.obj_space.specs.Space.{locations_in}
use Rattle.obj_space.specs.View.{view_of}
use Rattle.constraints.specs.System.{IsWithin, word_total}
use Rattle.text_units.specs.Lowered.{IsRightText}
use Rattle.report_cli.specs.Linking.{IsLinkRefusal, HaveManyNodes, HaveManyWords}
use Rattle.report_cli.specs.Outcome.{Denotes, Refuses, RefusesTold}
use Rattle.text_units.specs.Refused.{FirstRefused, IsRefusedText, HaveRightUnits}
use Rattle.report_cli.specs.Told.{Told}
use Rattle.report_cli.specs.Accepted.{AreAccepted}

-- the first text that isn't right is refused alone in one way at most, and not at all where each text is read alone
pub record OneAlone : Type 0 where
  pub one : (number : ℕ) (texts : List NamedText) (one other : Answer)
      → FirstRefused (λ _ text answer. IsRefusedAlone text answer) number texts one
      → FirstRefused (λ _ text answer. IsRefusedAlone text answer) number texts other → one ≡ other
  pub none : (number : ℕ) (texts : List NamedText) (answer : Answer)
      → FirstRefused (λ _ text answer. IsRefusedAlone text answer) number texts answer → AreReadAlone texts → ⊥

pub record OneOutcome : Type 0 where
  -- a text is refused with one answer
  pub text : (number : ℕ) (text : NamedText) (one other : Answer)
      → IsRefusedText number text one
      → IsRefusedText number text other
      → one ≡ other
  -- the first text that isn't right, by its tokens, its syntax, its names or its rows, is refused with one answer
  pub one : (number : ℕ) (texts : List NamedText) (one other : Answer) → FirstRefused IsRefusedText number texts one
      → FirstRefused IsRefusedText number texts other → one ≡ other
  -- and there is none where each text has a right unit
  pub right : (number : ℕ) (texts : List NamedText) (answer : Answer)
      → FirstRefused IsRefusedText number texts answer
      → HaveRightUnits number texts → ⊥
  -- texts that denote a program are refused for a limit alone that their program passes
  pub denoted : (entries : List (List ℕ)) (texts : List NamedText) (program : Program) (answer : Answer)
      → Denotes entries texts program
      → Refuses entries texts answer
      → HaveManyNodes entries texts answer ⊎ HaveManyWords entries texts answer
  -- and not at all where it is within the limits
  pub within : (entries : List (List ℕ)) (texts : List NamedText) (program : Program) (answer : Answer)
      → Denotes entries texts program
      → IsWithin program (view_of (locations_in program)) → Refuses entries texts answer → ⊥
  -- for a fault of linking texts are refused with one answer
  pub linking : (entries : List (List ℕ)) (texts : List NamedText) (one other : Answer)
      → IsLinkRefusal entries texts one
      → IsLinkRefusal entries texts other
      → one ≡ other
  -- two refusals of the same texts are one answer
  pub refused : (entries : List (List ℕ)) (texts : List NamedText) (one other : Answer)
      → Refuses entries texts one
      → Refuses entries texts other
      → one ≡ other
  -- what is accepted isn't refused
  pub accepted : (told : Told) (answer : Answer) → AreAccepted told → RefusesTold told answer → ⊥

-- The right units of a text are alike, but for the numbers of entities and nodes; so the programs that texts denote
-- have as many nodes, and as many words of rows.
pub record OneProgramSize : Type 0 where
  pub alike : (number : ℕ) (text : NamedText) (u v : Unit)
      → IsRightText number text u
      → IsRightText number text v
      → AreAlike u v
  pub count : (entries : List (List ℕ)) (texts : List NamedText) (program other : Program)
      → Denotes entries texts program
      → Denotes entries texts other
      → length program.nodes.items ≡ length other.nodes.items
  pub words : (entries : List (List ℕ)) (texts : List NamedText) (program other : Program)
      → Denotes entries texts program
      → Denotes entries texts other
      → word_total program (view_of (locations_in program)) ≡ word_total other (view_of (locations_in other))
  -- texts are over a limit with one answer, and not where they denote a program that is within it
  pub many : (entries : List (List ℕ)) (texts : List NamedText) (one other : Answer)
      → HaveManyNodes entries texts one
      → HaveManyNodes entries texts other
      → one ≡ other
  pub many_words : (entries : List (List ℕ)) (texts : List NamedText) (one other : Answer)
      → HaveManyWords entries texts one
      → HaveManyWords entries texts other
      → one ≡ other
  pub few : (entries : List (List ℕ)) (texts : List NamedText) (program : Program) (answer : Answer)
      → Denotes entries texts program
      → IsWithin program (view_of (locations_in program))
      → HaveManyNodes entries texts answer ⊎ HaveManyWords entries texts answer
      → ⊥
