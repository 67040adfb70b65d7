-- The kinds under which texts are refused: none is that of what isn't built.
use Rattle.std.specs.Prelude.{◌≡◌, ℕ, ⊤, List, ◌++◌, Result, Err, codes}
use Rattle.pta_base.specs.Kind.{name_of}
use Rattle.pta_base.specs.declared.kind.Kind.{Kind}
use Rattle.c_lexer.specs.declared.Token.{Token}
use Rattle.c_grammar.specs.Reads.{State, Fault, unsupported, Opens}
use Rattle.refusal_laws.specs.Refusals.{IsOther}
use Rattle.text_units.specs.Answers.{NamedText, Answer, refusal}
use Rattle.text_units.specs.Alone.{IsRefusedAlone}
use Rattle.text_units.specs.Lowered.{IsRefusedRow}
use Rattle.text_units.specs.Refused.{IsRefusedText, FirstRefused}

-- what is refused while reading is so under another kind
abbrev pub IsReadBuilt : Result State Fault → Type 0
IsReadBuilt (Err (unsupported kind place)) = IsOther kind
IsReadBuilt result = ⊤

-- the line of a construct that isn't accepted, at its place, under another kind than that of what isn't built
pub record IsKindLine (answer : Answer) : Type 0 where
  pub place : List ℕ
  pub kind : Kind
  pub built : IsOther kind
  pub answer_is : answer ≡ refusal 4 (place ++ codes ": not accepted " ++ name_of kind)

pub record KindsBuilt : Type 0 where
  -- a production that is read, from wherever
  pub reads : (text : List ℕ) (tokens : List Token) (q d : ℕ) (s : State) (r : Result State Fault)
      → Opens text tokens q d s r
      → IsReadBuilt r
  -- a text that is refused with status 4 alone, and one that is refused by a row
  pub alone : (text : NamedText) (answer : Answer)
      → IsRefusedAlone text answer
      → answer.status ≡ 4
      → IsKindLine answer
  pub row : (number : ℕ) (text : NamedText) (answer : Answer) → IsRefusedRow number text answer → IsKindLine answer
  -- so the first of some texts that isn't right
  pub text : (number : ℕ) (text : NamedText) (answer : Answer)
      → IsRefusedText number text answer
      → answer.status ≡ 4
      → IsKindLine answer
  pub first : (number : ℕ) (texts : List NamedText) (answer : Answer)
      → FirstRefused IsRefusedText number texts answer
      → answer.status ≡ 4
      → IsKindLine answer
