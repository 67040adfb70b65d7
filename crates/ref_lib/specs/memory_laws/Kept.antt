-- What a call leaves of a memory: its instances stand in their places, as the objects that they were.
use Rattle.std.specs.Prelude.{ℕ, ◌≡◌, ◌≤◌, ◌==◌, ◌&&◌, not, Bool, false, List, Option, Some, None, length}
use Rattle.std.specs.Prelude.{slice_get}
use Rattle.c_types.specs.declared.term.TypeId.{TypeId}
use Rattle.ref_cells.specs.declared.instance.Instance.{Instance}
use Rattle.ref_cells.specs.Places.{AreKnown}

-- An instance later: the same object of as many bytes. A type that it had stays. It lives where it did and hasn't
-- ended, and what has ended never lives again.
pub record IsLater (ends : Bool) (old new : Instance) : Type 0 where
  pub key : new.key ≡ old.key
  pub bytes : new.bytes ≡ old.bytes
  pub typed : (id : TypeId) → old.ty ≡ Some id → new.ty ≡ Some id
  pub live : new.live ≡ (old.live && not ends)

abbrev pub Stands : Bool → Instance → Option Instance → Type 0
Stands ends old None = ⊥
Stands ends old (Some new) = IsLater ends old new

-- whether the instance that ends is that one
abbrev pub is_ended : Option ℕ → ℕ → Bool
is_ended None i = false
is_ended (Some j) i = j == i

-- A memory that follows another one: each instance stands in its place, there may be more behind, at most one has
-- ended, and all types are among the first so many.
pub record Follows (types : ℕ) (ended : Option ℕ) (old new : List Instance) : Type 0 where
  pub known : AreKnown types new
  pub stands : (i : ℕ) (inst : Instance)
      → slice_get old i ≡ Some inst
      → Stands (is_ended ended i) inst (slice_get new i)
  pub number : length old ≤ length new
