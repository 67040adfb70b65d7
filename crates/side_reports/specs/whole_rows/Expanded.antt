-- Rows that have the words of other rows.
use Rattle.std.specs.Prelude.{ℕ, ◌*◌, List, take, drop, flat_map}
use Rattle.sol_model.specs.declared.rows.Rows.{Rows}

-- the words of a row
abbrev pub row_words : Rows → ℕ → List ℕ
row_words rows row = take rows.width (drop (row * rows.width) rows.words)

-- the words of rows, one after another
abbrev pub words_of : Rows → List ℕ → List ℕ
words_of rows list = flat_map (row_words rows) list
