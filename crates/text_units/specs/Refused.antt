-- The refusals of texts, one after the other (C11 6.4 to 6.9).
use Rattle.std.specs.Prelude.{◌⊎◌, ℕ, ◌+◌, ⊤, List, [], ◌∷◌}
use Rattle.core_tree.specs.declared.node.Unit.{Unit}
use Rattle.text_units.specs.Answers.{NamedText, Answer}
use Rattle.text_units.specs.Alone.{IsRefusedAlone}
use Rattle.text_units.specs.Lowered.{IsRightText, IsRefusedRow}

-- the refusal of a text, as unit of that number: for its tokens, its syntax or its names, or for its first row that
-- doesn't fit
abbrev pub IsRefusedText : ℕ → NamedText → Answer → Type 0
IsRefusedText number text answer = IsRefusedAlone text answer ⊎ IsRefusedRow number text answer

-- the refusal of the first text that isn't right, where those before it are; the first text is the unit of that
-- number
abbrev pub FirstRefused : (ℕ → NamedText → Answer → Type 0) → ℕ → List NamedText → Answer → Type 0
FirstRefused IsRefused number [] answer = ⊥
FirstRefused IsRefused number (text ∷ texts) answer =
    IsRefused number text answer
    ⊎ ((u : Unit) × IsRightText number text u × FirstRefused IsRefused (number + 1) texts answer)

-- each text has a right unit, the first of them as unit of that number
abbrev pub HaveRightUnits : ℕ → List NamedText → Type 0
HaveRightUnits number [] = ⊤
HaveRightUnits number (text ∷ texts) = ((u : Unit) × IsRightText number text u) × HaveRightUnits (number + 1) texts
