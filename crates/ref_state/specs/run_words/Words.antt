-- What the words of a text are.
use Rattle.std.specs.Prelude.{◌≡◌, ℕ, ◌+◌, ◌*◌, ◌-◌, ◌^◌, ◌<◌, ◌≤◌, ◌||◌, ◌&&◌, nat_le, nat_lt, nat_eq, Bool, true, false}
use Rattle.std.specs.Prelude.{if◌then◌else◌, List, [], ◌∷◌, ◌++◌, Option, Some, None, Result, Ok, Err, All, length}
use Rattle.std.specs.Prelude.{slice_get, IfSome}
use Rattle.ref_state.specs.declared.run_words.words.WordsFault.{WordsFault}
use Rattle.ref_state.specs.declared.run_words.words.WordsFault.TheVariants.{Malformed, OutOfMemory}

-- space, tab, line feed, vertical tab, form feed or carriage return
abbrev pub is_space : ℕ → Bool
is_space byte = nat_eq byte 32 || (nat_le 9 byte && nat_le byte 13)

abbrev pub is_digit : ℕ → Bool
is_digit byte = nat_le 48 byte && nat_le byte 57

-- the number that digits write behind one that is there
abbrev pub number_from : ℕ → List ℕ → ℕ
number_from n [] = n
number_from n (digit ∷ rest) = number_from (n * 10 + (digit - 48)) rest

-- a number of 64 bits
abbrev pub fitting : ℕ → Option ℕ
fitting n = if nat_lt n (2 ^ 64) then Some n else None

-- digits that end where the text ends or something else begins
pub record AreDigits (digits rest : List ℕ) : Type 0 where
  pub some : 0 < length digits
  pub each : All (λ byte. is_digit byte ≡ true) digits
  pub whole : IfSome (slice_get rest 0) (λ byte. is_digit byte ≡ false)

-- one word more before those of the rest
abbrev pub before : ℕ → Result (List ℕ) ℕ → Result (List ℕ) ℕ
before n (Ok words) = Ok (n ∷ words)
before n (Err at) = Err at

-- what a text is read as, whose first byte has that number: its words, or the number of the byte at which it isn't
-- numbers and white space
pub data IsReading : ℕ → List ℕ → Result (List ℕ) ℕ → Type 0 where
  ends : {at : ℕ} → IsReading at [] (Ok [])
  space : {at byte : ℕ} {rest : List ℕ} {answer : Result (List ℕ) ℕ}
      → is_space byte ≡ true
      → IsReading (at + 1) rest answer
      → IsReading at (byte ∷ rest) answer
  number : {at : ℕ} {digits rest : List ℕ} {answer : Result (List ℕ) ℕ}
      → AreDigits digits rest
      → number_from 0 digits < 2 ^ 64
      → IsReading (at + length digits) rest answer
      → IsReading at (digits ++ rest) (before (number_from 0 digits) answer)
  large : {at : ℕ} {digits rest : List ℕ}
      → AreDigits digits rest
      → 2 ^ 64 ≤ number_from 0 digits
      → IsReading at (digits ++ rest) (Err at)
  other : {at byte : ℕ} {rest : List ℕ}
      → is_space byte ≡ false
      → is_digit byte ≡ false
      → IsReading at (byte ∷ rest) (Err at)

-- what the code refuses, where memory serves
abbrev pub IsRefusal : List ℕ → WordsFault → Type 0
IsRefusal text (Malformed at) = IsReading 0 text (Err at)
IsRefusal text OutOfMemory = Unit {0}
