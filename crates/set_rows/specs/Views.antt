-- What a seat knows, and how each kind of step changes it.
use Rattle.std.specs.Prelude.{◌≡◌, ℕ, ◌+◌, ◌*◌, ◌/◌, ◌%◌, ◌^◌, ◌<◌, ◌≤◌, true, false, ◌||◌, ◌==◌, ◌↔◌, List, []}
use Rattle.std.specs.Prelude.{◌∷◌, slice_index, slice_set, replicate, bit_or}
use Rattle.std.specs.Int.{bit_at}
use Rattle.atomic_table.specs.Table.{Me, Step}
use Rattle.sol_model.specs.declared.system.System.{System}
use Rattle.sol_model.specs.Families.{Family, Has, shown}
use Rattle.sol_model.specs.Solutions.{IsClosed, IsLeast}
use Rattle.sol_model.specs.Systems.{width_of}
use Rattle.sol_model.specs.Words.{Within, At}
use Rattle.set_rows.specs.declared.view.View.{View}

-- the words of all rows
abbrev pub words_of : System → ℕ
words_of S = S.rows * width_of S

-- the facts that a view has seen
abbrev pub known : View → Family
known v = shown (width_of v.system) v.seen

abbrev pub fresh : System → View
fresh S =
    record {
      system = S;
      seen = replicate (words_of S) 0;
      ors = 0;
      shuts = 0;
      reads = 0;
      last = 0;
      knows = false;
      recent = [];
      found = 0;
      part = 1;
      halvings = 0;
      live = true;
    }

abbrev pub looked : View → ℕ → ℕ → View
looked v word found = record v { seen = slice_set v.seen word found; recent = word ∷ v.recent }

abbrev pub added : View → ℕ → ℕ → ℕ → View
added v word mask found =
    record v { seen = slice_set v.seen word (bit_or found mask); ors = v.ors + 1; found = found }

abbrev pub shutting : View → View
shutting v = record v { knows = true; ors = v.ors + 1; shuts = v.shuts + 1 }

abbrev pub reading : View → ℕ → View
reading v found = record v { reads = v.reads + 1; last = found; recent = []; knows = v.knows || (found == 1) }

abbrev pub half_kept : View → View
half_kept v = record v { halvings = v.halvings + 1 }

abbrev pub half_given : View → View
half_given v =
    record v { ors = 0; shuts = 0; reads = 0; last = 0; recent = []; found = 0; halvings = v.halvings + 1 }

-- each word of one list with that of the other
abbrev pub united : List ℕ → List ℕ → List ℕ
united [] ys = ys
united (x ∷ xs) [] = x ∷ xs
united (x ∷ xs) (y ∷ ys) = bit_or x y ∷ united xs ys

abbrev pub met : View → View → View
met v w = record v {
  seen = united v.seen w.seen;
  knows = v.knows || w.knows;
  ors = v.ors + w.ors;
  shuts = v.shuts + w.shuts;
  part = v.part * 2 ^ w.halvings + w.part * 2 ^ v.halvings;
  halvings = v.halvings + w.halvings;
}

-- the part of two views is the same fraction
abbrev pub SamePart : View → View → Type 0
SamePart v w = v.part * 2 ^ w.halvings ≡ w.part * 2 ^ v.halvings

-- each fact of the word is in each closed family
abbrev pub IsBelowWord : System → ℕ → ℕ → Type 0
IsBelowWord S word found =
    (row location : ℕ) → At (width_of S) word found row location → (G : Family) → IsClosed S G → Has G row location

-- the seat has only loaded words of rows
pub record OnlyLooked (v w : View) : Type 0 where
  pub system : w.system ≡ v.system
  pub ors : w.ors ≡ v.ors
  pub shuts : w.shuts ≡ v.shuts
  pub reads : w.reads ≡ v.reads
  pub last : w.last ≡ v.last
  pub knows : w.knows ≡ v.knows
  pub found : w.found ≡ v.found
  pub part : w.part ≡ v.part
  pub halvings : w.halvings ≡ v.halvings
  pub seen : (word : ℕ) → Within (slice_index v.seen word) (slice_index w.seen word)

-- the seat has only read the closing word and loaded words of rows
pub record OnlyAsked (v w : View) : Type 0 where
  pub system : w.system ≡ v.system
  pub ors : w.ors ≡ v.ors
  pub shuts : w.shuts ≡ v.shuts
  pub reads : v.reads ≤ w.reads
  pub found : w.found ≡ v.found
  pub part : w.part ≡ v.part
  pub halvings : w.halvings ≡ v.halvings
  pub knows : v.knows ≡ true → w.knows ≡ true
  pub seen : (word : ℕ) → Within (slice_index v.seen word) (slice_index w.seen word)

-- the seat has only loaded words of rows, and added to them
pub record OnlyAdded (v w : View) : Type 0 where
  pub system : w.system ≡ v.system
  pub ors : v.ors ≤ w.ors
  pub shuts : w.shuts ≡ v.shuts
  pub reads : w.reads ≡ v.reads
  pub last : w.last ≡ v.last
  pub knows : w.knows ≡ v.knows
  pub part : w.part ≡ v.part
  pub halvings : w.halvings ≡ v.halvings
  pub seen : (word : ℕ) → Within (slice_index v.seen word) (slice_index w.seen word)

-- the word is that of the least solution
abbrev pub IsLeastWord : System → ℕ → ℕ → Type 0
IsLeastWord S word found = (F : Family) × IsLeast S F
    × ((row location : ℕ) → location < 64 * width_of S → row * width_of S + location / 64 ≡ word
    → (Has F row location ↔ (bit_at found (location % 64) ≡ 1)))

-- a view that is spent
abbrev pub no_system : System
no_system = record { rows = 0; locations = []; types = []; constraints = []; calls = []; functions = [] }

abbrev pub nobody : View
nobody =
    record {
      system = no_system;
      seen = [];
      ors = 0;
      shuts = 0;
      reads = 0;
      last = 0;
      knows = false;
      recent = [];
      found = 0;
      part = 0;
      halvings = 0;
      live = false;
    }

abbrev Mine : Type 0
Mine = Me (Unit {0}) View

abbrev pub looked_at : Step (Unit {0}) → Mine → ℕ → Mine → Type 0
looked_at st m found m' =
    (m' ≡ (looked m.0 st.word found, m.1)) × Within (slice_index m.0.seen st.word) found
    × (m.0.knows ≡ true → IsLeastWord m.0.system st.word found) × IsBelowWord m.0.system st.word found

abbrev pub added_at : Step (Unit {0}) → Mine → ℕ → Mine → Type 0
added_at st m found m' =
    (m' ≡ (added m.0 st.word st.first found, m.1)) × Within (slice_index m.0.seen st.word) found
    × IsBelowWord m.0.system st.word found

abbrev pub shut_at : Step (Unit {0}) → Mine → ℕ → Mine → Type 0
shut_at st m found m' = m' ≡ (shutting m.0, m.1)

abbrev pub read_at : Step (Unit {0}) → Mine → ℕ → Mine → Type 0
read_at st m found m' = (m' ≡ (reading m.0 found, m.1)) × (found ≤ 1) × (m.0.knows ≡ true → found ≡ 1)

abbrev pub drew_at : Step (Unit {0}) → Mine → ℕ → Mine → Type 0
drew_at st m found m' = m' ≡ m
