-- Lines and columns.
use Rattle.std.specs.Prelude.{◌≡◌, ℕ, zero, suc, ◌+◌, ◌≤◌, ◌==◌, Bool, true, ◌&&◌, ◌||◌, List, slice_index}
use Rattle.std.specs.Prelude.{if◌then◌else◌}
use Rattle.c_lexer.specs.declared.places.Place.{Place}
use Rattle.c_lexer.specs.Bytes.{is_blank}

-- the line of a place: 1 at the start, and one more behind each line feed
unfoldable pub line_of : List ℕ → ℕ → ℕ
line_of text zero = 1
line_of text (suc n) = if slice_index text n == 10 then line_of text n + 1 else line_of text n

-- the column of a place: 1 at the start and behind a line feed, else one more than that of the byte before
unfoldable pub column_of : List ℕ → ℕ → ℕ
column_of text zero = 1
column_of text (suc n) = if slice_index text n == 10 then 1 else column_of text n + 1

-- whether only blanks stand between the start of its line and a place
unfoldable pub begins_line : List ℕ → ℕ → Bool
begins_line text zero = true
begins_line text (suc n) = slice_index text n == 10 || (is_blank (slice_index text n) && begins_line text n)

-- what the code keeps of a place
pub record IsPlace (text : List ℕ) (at : ℕ) (place : Place) : Type 0 where
  pub line : place.line ≡ line_of text at
  pub column : place.column ≡ column_of text at
  pub blank : place.begins_line ≡ begins_line text at
  pub few_lines : place.line ≤ at + 1
  pub few_columns : place.column ≤ at + 1
