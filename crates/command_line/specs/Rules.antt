-- The rules for the words after clap's parse.
use Rattle.std.specs.Prelude.{◌≡◌, ◌≢◌, ◌<◌, ◌≤◌, ◌||◌, ◌==◌, ℕ, Bool, List, [], Option, None, Some}
use Rattle.std.specs.Prelude.{IfSome, IsSome, length}
use Rattle.std.specs.Prelude.{true, false, slice_index, unwrap_or, codes}
use Rattle.std.specs.Char.{is_ascii_alphanumeric, is_ascii_digit}
use Rattle.std.specs.List.{All, slice_split}
use Rattle.std.specs.Option.{option_map_or}
use Rattle.std.specs.Str.{bytes_eq}
use Rattle.std.specs.Str.Parse.{IsNumeral, digits_value}
use Rattle.clap.specs.Words.{Row, Text, all_of, first_of}
use Rattle.command_line.specs.Distinct.{AreDistinct}
use Rattle.command_line.specs.Language.{IsTaken, found_in}

-- ---- one word

-- 1 to 10 decimal digits, whose number lies in the range
pub record IsDecimalIn (least most : ℕ) (text : Text) : Type 0 where
  pub digits : IsNumeral 10 text
  pub short : length text ≤ 10
  pub at_least : least ≤ digits_value 10 text
  pub at_most : digits_value 10 text ≤ most

-- letters, digits, `.`, `_`, `-` and `/`
abbrev pub is_unit_byte : ℕ → Bool
is_unit_byte b = is_ascii_alphanumeric b || (b == 46 || (b == 95 || (b == 45 || b == 47)))

-- a well-formed unit word
pub record IsUnitWord (text : Text) : Type 0 where
  pub present : 0 < length text
  pub short : length text ≤ 255
  pub start : slice_index text 0 ≢ 45
  pub bytes : All (λ b. is_unit_byte b ≡ true) text

-- letters, digits and `_`
abbrev pub is_name_byte : ℕ → Bool
is_name_byte b = is_ascii_alphanumeric b || b == 95

-- the spelling of a C identifier, which no digit begins (C11 6.4.2.1)
pub record IsName (text : Text) : Type 0 where
  pub present : 0 < length text
  pub start : is_ascii_digit (slice_index text 0) ≡ false
  pub bytes : All (λ b. is_name_byte b ≡ true) text

-- ---- several words

-- what stands between the commas of a word: one text more than it has commas
abbrev pub parts_of : Text → List Text
parts_of word = slice_split (λ b. b == 44) word

-- at most 64 names, none of them twice
pub record AreEntries (names : List Text) : Type 0 where
  pub few : length names ≤ 64
  pub formed : All IsName names
  pub distinct : AreDistinct names

-- 1 to 256 well-formed unit words, none of them twice
pub record AreUnits (units : List Text) : Type 0 where
  pub present : 1 ≤ length units
  pub few : length units ≤ 256
  pub formed : All IsUnitWord units
  pub distinct : AreDistinct units

-- ---- what clap found

-- the words that are no options, in order
abbrev pub unit_words : List Row → List Text
unit_words rows = unwrap_or (all_of (codes "unit") rows) []

-- the word that names a script of questions, where one does
abbrev pub script_word : List Row → Option Text
script_word rows = first_of (codes "ask") rows

-- the word that gives the number of a generated program, where one does
abbrev pub gen_word : List Row → Option Text
gen_word rows = first_of (codes "gen") rows

-- the word that gives the most steps of a run, where one does
abbrev pub run_word : List Row → Option Text
run_word rows = first_of (codes "run") rows

-- the word that names the functions at which the program is entered, where one does
abbrev pub entry_word : List Row → Option Text
entry_word rows = first_of (codes "entry") rows

-- the names that it gives, in order
abbrev pub entry_names : List Row → List Text
entry_names rows = option_map_or parts_of (entry_word rows) []

-- whether a flag stands: whether the text that is found for it is `true`
abbrev pub is_flagged : Text → List Row → Bool
is_flagged name rows = option_map_or (λ text. bytes_eq text (codes "true")) (first_of name rows) false

-- whether the report is wanted as JSON
abbrev pub asks_json : List Row → Bool
asks_json rows = is_flagged (codes "json") rows

-- whether the questions of a script are to go over a desk
abbrev pub asks_desk : List Row → Bool
asks_desk rows = is_flagged (codes "desk") rows

-- whether it is asked what each function may read and write
abbrev pub asks_effects : List Row → Bool
asks_effects rows = is_flagged (codes "effects") rows

-- whether it is asked where a run may stop for a type
abbrev pub asks_stops : List Row → Bool
asks_stops rows = is_flagged (codes "stops") rows

-- no script, no report as JSON, no generated program, no run and no entry is asked for
pub record AsksNoOther (rows : List Row) : Type 0 where
  pub script : script_word rows ≡ None
  pub json : asks_json rows ≡ false
  pub gen : gen_word rows ≡ None
  pub run : run_word rows ≡ None
  pub entry : entry_word rows ≡ None

-- the option's number is well formed and in the range
abbrev pub IsNumberIn : ℕ → ℕ → Option Text → Type 0
IsNumberIn least most text = IfSome text (IsDecimalIn least most)

-- the option's word is a well-formed unit word
abbrev pub IsNameIn : Option Text → Type 0
IsNameIn text = IfSome text IsUnitWord

-- a generated program has no unit words, and any other has 1 to 256
abbrev pub HasUnits : Option Text → List Text → Type 0
HasUnits None units = AreUnits units
HasUnits (Some text) units = units ≡ []

-- what was found keeps the rules: a script has no report, so no form of it, a generated program has neither, and a run
-- has none of the three; a desk stands beside a script alone; what functions touch and where a run may stop are asked
-- for each without another text, of programs that begin at `main`; entries are named of a program of units; the name of
-- a script may be that of a unit too
pub record KeepsRules (rows : List Row) : Type 0 where
  pub workers : IsNumberIn 1 64 (first_of (codes "workers") rows)
  pub ask : IsNameIn (script_word rows)
  pub single : asks_json rows ≡ true → script_word rows ≡ None
  pub gen : IsNumberIn 1 1000 (gen_word rows)
  pub alone : IsSome (gen_word rows) → (script_word rows ≡ None) × (asks_json rows ≡ false)
  pub run : IsNumberIn 0 1000000 (run_word rows)
  pub run_alone : IsSome (run_word rows)
      → (script_word rows ≡ None) × (asks_json rows ≡ false) × (gen_word rows ≡ None)
  pub desk : asks_desk rows ≡ true → IsSome (script_word rows)
  pub effects : asks_effects rows ≡ true → AsksNoOther rows
  pub stops : asks_stops rows ≡ true → AsksNoOther rows
  pub one : asks_stops rows ≡ true → asks_effects rows ≡ false
  pub entries : AreEntries (entry_names rows)
  pub entered : IsSome (entry_word rows) → gen_word rows ≡ None
  pub units : HasUnits (gen_word rows) (unit_words rows)

-- clap takes the words, and they keep the rules
pub record AreRight (words : List Text) : Type 0 where
  pub taken : IsTaken words
  pub rules : KeepsRules (found_in words)
