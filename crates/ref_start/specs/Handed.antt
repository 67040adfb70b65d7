-- Where pointers of each type stand among those that were handed over.
use Rattle.std.specs.Prelude.{◌≡◌, ℕ, ◌<◌, ◌+◌, ◌==◌, ◌&&◌, if◌then◌else◌, List, Option, Some, None, length, take}
use Rattle.std.specs.Prelude.{◌++◌, slice_get}
use Rattle.std.specs.BTreeMap.{BTreeMap, get_by}
use Rattle.std.specs.Option.{option_map, unwrap_or}
use Rattle.std.specs.Ordering.{nat_cmp}
use Rattle.c_types.specs.declared.term.TypeId.{TypeId}
use Rattle.c_types.specs.Trees.{Ctype, PointerTo}
use Rattle.c_types.specs.Table.{Table, type_of, IsFirstOf}
use Rattle.obj_space.specs.Found.{kept_at}
use Rattle.ref_cells.specs.declared.cells.Cell.{Cell}
use Rattle.ref_cells.specs.declared.cells.Cell.TheVariants.{Null}
use Rattle.ref_start.specs.declared.handed.HandedPlaces.{HandedPlaces}
use Rattle.ref_start.specs.Entries.{handed_as}

-- how many places are kept for an id
abbrev pub count_at : BTreeMap ℕ ℕ → ℕ → ℕ
count_at counts id = unwrap_or (get_by (nat_cmp id) counts) 0

-- the cell in a place
abbrev pub cell_at : List (TypeId × Cell) → Option ℕ → Option Cell
cell_at handed None = None
cell_at handed (Some at) = option_map (λ e. e.1) (slice_get handed at)

-- the cell in the k-th place that is kept for an id
abbrev pub kept_cell : List (TypeId × Cell) → HandedPlaces → ℕ → ℕ → Cell
kept_cell handed kept id k = unwrap_or (cell_at handed (kept_at kept.places id k)) Null

-- what is kept of these: for the first id of each type of pointers how many were handed over under the type, and the
-- place of each
pub record ArePlaces (table : Table) (handed : List (TypeId × Cell)) (kept : HandedPlaces) : Type 0 where
  pub read : kept.read ≡ length handed
  pub counts : (to : Ctype) (id : ℕ)
      → IsFirstOf table (PointerTo to) id
      → count_at kept.counts id ≡ length (handed_as table (PointerTo to) handed)
  pub cells : (to : Ctype) (id k : ℕ)
      → IsFirstOf table (PointerTo to) id
      → k < length (handed_as table (PointerTo to) handed)
      → cell_at handed (kept_at kept.places id k) ≡ slice_get (handed_as table (PointerTo to) handed) k

-- it is kept of those that were read so far
abbrev pub AreRead : Table → List (TypeId × Cell) → HandedPlaces → Type 0
AreRead table handed kept = ArePlaces table (take kept.read handed) kept

-- what was handed over under the type of an id, before a step and in it
abbrev pub cells_for : Table → ℕ → List (TypeId × Cell) → List (TypeId × Cell) → List Cell
cells_for table ty before own = handed_as table (type_of table ty) (before ++ own)

-- one place more is kept for an id: the one behind those that were read
pub record IsOneMore (id : ℕ) (old new : HandedPlaces) : Type 0 where
  pub read : new.read ≡ old.read
  pub counts : (other : ℕ)
      → count_at new.counts other
      ≡ (if id == other then count_at old.counts id + 1 else count_at old.counts other)
  pub places : (other k : ℕ)
      → kept_at new.places other k
      ≡ (if id == other && count_at old.counts id == k then Some old.read else kept_at old.places other k)

-- as many places are kept, and the same ones
pub record IsAsMany (old new : HandedPlaces) : Type 0 where
  pub read : new.read ≡ old.read
  pub counts : (other : ℕ) → count_at new.counts other ≡ count_at old.counts other
  pub places : (other k : ℕ)
      → k < count_at old.counts other
      → kept_at new.places other k ≡ kept_at old.places other k
