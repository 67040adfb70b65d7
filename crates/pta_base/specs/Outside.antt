-- What the program reads from and writes to.
use Rattle.std.specs.Prelude.{◌≡◌, ◌⊎◌, ℕ, ◌-◌, ◌^◌, ◌<◌, ◌≤◌, List, [], ◌∷◌, take, drop, length, cond, Option}
use Rattle.std.specs.Prelude.{Some, None, string_bytes, String, Vec, bytes_eq}
use Rattle.std.specs.declared.alloc.Global.{Global}

-- a count of faults rose; it may also stand at its last value
abbrev pub HasRisen : ℕ → ℕ → Type 0
HasRisen before now = (before < now) ⊎ (now ≡ 2 ^ 64 - 1)

-- a count did not rise, and does not stand at its last value
pub record IsSteady (before now : ℕ) : Type 0 where
  pub same : now ≡ before
  pub below : now < 2 ^ 64 - 1

-- so many bytes of the text, from a place on, stand at the buffer's start; none only at the text's end
pub record IsCopied (text : List ℕ) (at count : ℕ) (after : List ℕ) : Type 0 where
  pub copied : take count after ≡ take count (drop at text)
  pub within : count ≤ length text - at
  pub all : count ≡ 0 → length text ≤ at

-- the text of a name in a list of names with their texts
abbrev pub text_of : List (String Global × Vec ℕ Global) → List ℕ → Option (List ℕ)
text_of [] name = None
text_of (unit ∷ units) name = cond (bytes_eq (string_bytes unit.0) name) (Some unit.1.items) (text_of units name)
