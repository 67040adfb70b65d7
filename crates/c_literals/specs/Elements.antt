-- The bytes and escapes between the quotes of a literal, one after another (C11 6.4.4.4).
use Rattle.std.specs.Prelude.{◌≡◌, ℕ, ◌<◌, min, List, ◌∷◌, length}
use Rattle.c_senses.specs.Literals.{bytes_of}

-- the first byte or escape stands for a number, which counts as 256 where it is over 255, and these bytes follow it
pub record IsElement (inside : List ℕ) (capped : ℕ) (behind : List ℕ) : Type 0 where
  pub value : ℕ
  pub bytes : bytes_of inside ≡ value ∷ bytes_of behind
  pub cap : capped ≡ min value 256
  pub shorter : length behind < length inside
