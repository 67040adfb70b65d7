-- Objects that live for the whole run are found by number: their instances stay where they are.
use Rattle.std.specs.Prelude.{◌≡◌, ℕ, List, Option, Some, None, slice_get}
use Rattle.std.specs.BTreeMap.{BTreeMap}
use Rattle.c_types.specs.declared.key.ObjectKey.{ObjectKey}
use Rattle.obj_space.specs.Found.{kept_for}
use Rattle.ref_cells.specs.declared.instance.Instance.{Instance}
use Rattle.ref_cells.specs.Places.{AreKnown}
use Rattle.ref_places.specs.Places.{first_instance}

abbrev pub key_in : Option Instance → Option ObjectKey
key_in None = None
key_in (Some inst) = Some inst.key

-- the instances of a memory stay in their places, as those of the objects that they were of
abbrev pub KeysStay : List Instance → List Instance → Type 0
KeysStay old new = (i : ℕ) (inst : Instance) → slice_get old i ≡ Some inst → key_in (slice_get new i) ≡ Some inst.key

-- a memory later: its objects have types among the first so many
pub record IsAfter (types : ℕ) (old new : List Instance) : Type 0 where
  pub known : AreKnown types new
  pub keys : KeysStay old new

-- what is kept for an object is its first instance
abbrev pub AreStanding : BTreeMap (ℕ × ℕ) ℕ → List Instance → Type 0
AreStanding standing memory =
    (key : ObjectKey) (i : ℕ) → kept_for standing key ≡ Some i → first_instance key 0 memory ≡ Some i
