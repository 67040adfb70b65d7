-- Units with their names, answers, and refusals as they are written.
use Rattle.std.specs.Prelude.{ℕ, List, [], ◌∷◌, ◌++◌, Option, Some, map, option_map, option_and_then, codes, decimal}
use Rattle.std.specs.Borrow.{Bor}

-- a unit: its name, and its text
abbrev pub NamedText : Type 0
NamedText = List ℕ × List ℕ

-- the texts of names that are borrowed
abbrev pub names_of : List (Bor (List ℕ)) → List (List ℕ)
names_of names = map (λ name. name.now) names

-- the named units with their texts, where all of these are told
abbrev pub told_units : (List ℕ → Option (List ℕ)) → List (List ℕ) → Option (List NamedText)
told_units text_of [] = Some []
told_units text_of (name ∷ names) =
    option_and_then (λ text. option_map (λ units. (name, text) ∷ units) (told_units text_of names)) (text_of name)

-- an answer: its status, the text that it writes to `out`, and the line that it writes to `err`, or nothing
pub record Answer : Type 0 where
  pub status : ℕ
  pub out : List ℕ
  pub err : List ℕ

-- a refusal writes one line to `err`, and nothing to `out`
abbrev pub refusal : ℕ → List ℕ → Answer
refusal status line = record { status = status; out = []; err = line ++ codes "\n" }

-- a place, as it is printed
abbrev pub place_text : List ℕ → ℕ → ℕ → List ℕ
place_text name line column = name ++ codes ":" ++ decimal line ++ codes ":" ++ decimal column
