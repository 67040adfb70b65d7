-- What reading characters one by one gives (C11 7.1.1p1, 7.24.4).
use Rattle.std.specs.Prelude.{◌≡◌, ◌↔◌, ℕ, ◌+◌, ◌<◌, ℤ, List, ◌++◌, Option, Some, None, Result, Ok, Err, length}
use Rattle.std.specs.Prelude.{slice_get}
use Rattle.ref_cells.specs.declared.cells.Reason.{Reason}
use Rattle.ref_texts.specs.Reading.{text_from, compared}

-- these are the characters of a text, from a place on
abbrev pub AreRead : (ℕ → Result (Option ℤ) Reason) → ℕ → List ℤ → Type 0
AreRead at place text = (i : ℕ) (c : ℤ) → slice_get text i ≡ Some c → at (place + i) ≡ Ok (Some c)

-- a text, and what there is behind it
abbrev pub joined : List ℤ → Result (List ℤ) Reason → Result (List ℤ) Reason
joined text (Ok more) = Ok (text ++ more)
joined text (Err reason) = Err reason

-- what reading so many characters at most gives, from a place on: the text before the first zero, or the reason of the
-- first one that can't be read; where neither is among them, all of them and what there is behind
pub data IsText (at : ℕ → Result (Option ℤ) Reason) (behind : Result (List ℤ) Reason) (most place : ℕ)
    (result : Result (List ℤ) Reason) : Type 0 where
  ends : (text : List ℤ)
      → AreRead at place text
      → length text < most
      → at (place + length text) ≡ Ok None
      → result ≡ Ok text
      → IsText at behind most place result
  fails : (text : List ℤ) (reason : Reason)
      → AreRead at place text
      → length text < most
      → at (place + length text) ≡ Err reason
      → result ≡ Err reason
      → IsText at behind most place result
  goes_on : (text : List ℤ)
      → AreRead at place text
      → length text ≡ most
      → result ≡ joined text behind
      → IsText at behind most place result

abbrev pub TextsRead : Type 0
TextsRead =
    (at : ℕ → Result (Option ℤ) Reason) (behind : Result (List ℤ) Reason) (most place : ℕ)
    (result : Result (List ℤ) Reason)
    → (result ≡ text_from at behind most place) ↔ IsText at behind most place result

-- so many places from that one on decide nothing
abbrev pub AreLevel : (ℕ → Result (Option ℤ) Reason) → ℕ → ℕ → Type 0
AreLevel at place count = (i : ℕ) → i < count → at (place + i) ≡ Ok None

-- what the first of so many places decides that decides anything, or the reason why it can't be compared; else what
-- there is
pub data IsCompared (at : ℕ → Result (Option ℤ) Reason) (level : Result ℤ Reason) (most place : ℕ)
    (result : Result ℤ Reason) : Type 0 where
  decides : (count : ℕ) (order : ℤ)
      → count < most
      → AreLevel at place count
      → at (place + count) ≡ Ok (Some order)
      → result ≡ Ok order
      → IsCompared at level most place result
  fails : (count : ℕ) (reason : Reason)
      → count < most
      → AreLevel at place count
      → at (place + count) ≡ Err reason
      → result ≡ Err reason
      → IsCompared at level most place result
  equal : AreLevel at place most → result ≡ level → IsCompared at level most place result

abbrev pub TextsCompared : Type 0
TextsCompared =
    (at : ℕ → Result (Option ℤ) Reason) (level : Result ℤ Reason) (most place : ℕ) (result : Result ℤ Reason)
    → (result ≡ compared at level most place) ↔ IsCompared at level most place result
