-- What the texts and the orders that the library's functions find are, said of characters.
use Rattle.std.specs.Prelude.{◌≡◌, ◌<◌, ◌^◌, ◌⊎◌, ℤ, List, Ok, Err, length}
use Rattle.c_types.specs.Table.{Table}
use Rattle.ref_cells.specs.declared.cells.Reason.{Reason}
use Rattle.ref_cells.specs.declared.cells.Reason.TheVariants.{OutOfRange}
use Rattle.ref_cells.specs.declared.cells.Cell.{Cell}
use Rattle.ref_cells.specs.declared.instance.Instance.{Instance}
use Rattle.ref_texts.specs.Reading.{char_at, text_at, compared_at}
use Rattle.ref_lib.specs.text_laws.Told.{StandAt, IsText, IsBroken, IsOrder}

-- what is found is a text
abbrev pub TextRead : Type 0
TextRead =
    (table : Table) (memory : List Instance) (place : Cell) (text : List ℤ)
    → text_at table memory place ≡ Ok text
    → IsText (char_at table memory place) text

-- a text is found
abbrev pub TextFound : Type 0
TextFound =
    (table : Table) (memory : List Instance) (place : Cell) (text : List ℤ)
    → IsText (char_at table memory place) text
    → length text < 2 ^ 64
    → text_at table memory place ≡ Ok text

-- where none is found a character stops it before a zero, or there are 2^64 of them, as in no array
abbrev pub TextStopped : Type 0
TextStopped =
    (table : Table) (memory : List Instance) (place : Cell) (reason : Reason)
    → text_at table memory place ≡ Err reason
    → IsBroken (char_at table memory place) reason
    ⊎ ((front : List ℤ) × (length front ≡ 2 ^ 64) × StandAt (char_at table memory place) front
    × (reason ≡ OutOfRange))

-- what is found is the order of two texts
abbrev pub OrderRead : Type 0
OrderRead =
    (table : Table) (memory : List Instance) (left right : Cell) (n : ℤ)
    → compared_at table memory left right ≡ Ok n
    → IsOrder (char_at table memory left) (char_at table memory right) n
