-- What refuses texts that are right, together: a fault of linking, or a limit that the linked program passes. The names
-- of the entries come first; there are none where the program begins at `main`.
use Rattle.std.specs.Prelude.{◌≡◌, ℕ, List, [], ◌++◌, map, slice_get, codes, decimal}
use Rattle.std.specs.Option.{unwrap_or}
use Rattle.core_tree.specs.declared.node.Unit.{Unit}
use Rattle.core_tree.specs.declared.node.Program.{Program}
use Rattle.link_names.specs.declared.fault.LinkFault.{LinkFault}
use Rattle.link_names.specs.declared.fault.LinkFault.TheVariants.{Conflict, Twice, Undefined, NoMain, NoEntry}
use Rattle.link_names.specs.declared.fault.LinkFault.TheVariants.{OutOfMemory}
use Rattle.unit_link.specs.Linked.{LinksBadlyAt}
use Rattle.unit_report.specs.unit_system.Of.{IsProgramOf}
use Rattle.unit_report.specs.unit_system.Faults.{HasNodes, HasWords}
use Rattle.text_units.specs.Answers.{NamedText, Answer, refusal, place_text}
use Rattle.text_units.specs.Lowered.{AreRightTexts}

-- the name of a unit by its number
abbrev pub unit_name : List (List ℕ) → ℕ → List ℕ
unit_name names unit = unwrap_or (slice_get names unit) []

-- the refusal of units for a fault of linking; want of memory is none
abbrev pub link_refusal : List (List ℕ) → LinkFault → Answer
link_refusal names (Conflict name unit) =
    refusal 5 (codes "link conflict " ++ name ++ codes " " ++ unit_name names unit)
link_refusal names (Twice name unit) = refusal 5 (codes "link twice " ++ name ++ codes " " ++ unit_name names unit)
link_refusal names (Undefined place name) =
    refusal 5 (place_text (unit_name names place.unit) place.line place.column ++ codes ": undefined " ++ name)
link_refusal names NoMain = refusal 5 (codes "link no main")
link_refusal names (NoEntry name) = refusal 12 (codes "entry " ++ name)
link_refusal names OutOfMemory = refusal 9 (codes "out of memory")

-- the refusal of a program for its nodes, or for the words of its rows
abbrev pub nodes_refusal : ℕ → Answer
nodes_refusal nodes = refusal 6 (codes "too large nodes " ++ decimal nodes)

abbrev pub words_refusal : ℕ → Answer
words_refusal words = refusal 6 (codes "too large rows " ++ decimal words)

-- the refusal of texts whose units link with that fault
pub record IsLinkRefusal (entries : List (List ℕ)) (texts : List NamedText) (answer : Answer) : Type 0 where
  pub units : List Unit
  pub right : AreRightTexts 0 texts units
  pub fault : LinkFault
  pub badly : LinksBadlyAt entries units fault
  pub answer_is : answer ≡ link_refusal (map (λ (text : NamedText). text.0) texts) fault

-- the refusal of texts whose program has too many nodes, or too many words of rows
pub record HaveManyNodes (entries : List (List ℕ)) (texts : List NamedText) (answer : Answer) : Type 0 where
  pub units : List Unit
  pub right : AreRightTexts 0 texts units
  pub program : Program
  pub own : IsProgramOf entries units program
  pub nodes : ℕ
  pub many : HasNodes program nodes
  pub answer_is : answer ≡ nodes_refusal nodes

pub record HaveManyWords (entries : List (List ℕ)) (texts : List NamedText) (answer : Answer) : Type 0 where
  pub units : List Unit
  pub right : AreRightTexts 0 texts units
  pub program : Program
  pub own : IsProgramOf entries units program
  pub words : ℕ
  pub many : HasWords program words
  pub answer_is : answer ≡ words_refusal words
