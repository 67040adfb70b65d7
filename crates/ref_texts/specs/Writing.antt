-- Characters written one by one.
use Rattle.std.specs.Prelude.{ℕ, zero, suc, ◌+◌, ◌/◌, ◌%◌, ◌==◌, ℤ, pos, if◌then◌else◌, List, [], ◌∷◌, ◌++◌, Option}
use Rattle.std.specs.Prelude.{Some, None, Result, Ok, Err, slice_get}
use Rattle.c_types.specs.declared.term.PathStep.{PathStep}
use Rattle.c_types.specs.declared.term.PathStep.TheVariants.{Index}
use Rattle.c_types.specs.Table.{Table}
use Rattle.ref_cells.specs.declared.cells.Reason.{Reason}
use Rattle.ref_cells.specs.declared.cells.Cell.{Cell}
use Rattle.ref_cells.specs.declared.cells.Cell.TheVariants.{Number, Pointer}
use Rattle.ref_cells.specs.declared.cells.Value.{Value}
use Rattle.ref_cells.specs.declared.instance.Instance.{Instance}
use Rattle.ref_cells.specs.Cells.{CellList}
use Rattle.type_rules.specs.Kinds.{character}
use Rattle.ref_cells.specs.Numbers.{converted}
use Rattle.ref_mem.specs.Writes.{changed, with_parts, character_part}
use Rattle.ref_elements.specs.Outcomes.{Effect, gives}
use Rattle.ref_elements.specs.Runs.{◌>>=◌}
use Rattle.ref_elements.specs.Parts.{Parts}
use Rattle.ref_texts.specs.Reading.{place_at}

abbrev pub push_text : Result (List PathStep × CellList) Reason → Result Parts Reason → Result Parts Reason
push_text (Err reason) rest = Err reason
push_text (Ok part) (Err reason) = Err reason
push_text (Ok part) (Ok parts) = Ok (part ∷ parts)

-- characters from the k-th of a place on, each checked as a write of one
abbrev pub text_parts : Table → List Instance → Cell → ℕ → List ℤ → Result Parts Reason
text_parts table memory place k [] = Ok []
text_parts table memory place k (c ∷ text) =
    push_text (character_part table memory (place_at place k) c) (text_parts table memory place (k + 1) text)

-- the memory with characters in the instance of a place
abbrev pub with_text : Table → List Instance → Cell → Parts → List Instance
with_text table memory (Pointer i path past) parts = changed memory i (slice_get memory i) (with_parts table parts)
with_text table memory cell parts = memory

-- characters are written, and the call gives a value; none look at no pointer
abbrev pub writes : Table → List Instance → Cell → ℕ → List ℤ → Value → Effect
writes table memory place k text value =
    text_parts table memory place k text >>= λ parts. gives (with_text table memory place parts) value

abbrev pub closed : List ℤ → List ℤ
closed text = text ++ pos 0 ∷ []

-- so many characters, zeros behind the text
abbrev pub filled_up : ℕ → List ℤ → List ℤ
filled_up zero text = []
filled_up (suc n) [] = pos 0 ∷ filled_up n []
filled_up (suc n) (c ∷ text) = c ∷ filled_up n text

abbrev pub text_cells : ℕ → List ℤ → CellList
text_cells k [] = []
text_cells k (c ∷ text) = (Index k ∷ [], Number c) ∷ text_cells (k + 1) text

-- the lowest byte of a word as a character, none where it is zero
abbrev pub byte_of : ℕ → Option ℤ
byte_of word = if word % 256 == 0 then None else Some (converted character (pos (word % 256)))

abbrev pub bytes_on : Option ℤ → List ℤ → List ℤ
bytes_on None rest = []
bytes_on (Some c) rest = c ∷ rest

-- the word's bytes from the lowest up to the first zero, so many at most
unfoldable pub bytes_of : ℕ → ℕ → List ℤ
bytes_of zero word = []
bytes_of (suc n) word = bytes_on (byte_of word) (bytes_of n (word / 256))

-- the text that a word gives
abbrev pub text_of : ℕ → List ℤ
text_of word = bytes_of 7 word
