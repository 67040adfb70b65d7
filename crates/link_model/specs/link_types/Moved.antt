-- Terms of a unit in a table in which the unit's types begin at a number.
use Rattle.std.specs.Prelude.{ℕ, ◌≡◌, ◌+◌, ◌<◌, Bool, true, false, List, Some, map, slice_get}
use Rattle.c_types.specs.declared.term.TypeId.{TypeId}
use Rattle.c_types.specs.declared.term.Term.{Term}
use Rattle.c_types.specs.declared.term.Term.TheVariants.{Pointer, Array, Function, Structure, Union}
use Rattle.c_types.specs.Table.{Table, type_of}
use Rattle.c_types.specs.Made.{IsSized}
use Rattle.link_model.specs.Renamed.{renamed}

abbrev pub moved_id : ℕ → TypeId → TypeId
moved_id start id = record { 0 = start + id.0 }

-- a term with other numbers for its types and its tag
abbrev pub moved_term : ℕ → (ℕ → ℕ) → Term → Term
moved_term start f (Pointer to) = Pointer (moved_id start to)
moved_term start f (Array of n) = Array (moved_id start of) n
moved_term start f (Function result parameters form) =
    Function (moved_id start result) (map (moved_id start) parameters) form
moved_term start f (Structure tag) = Structure (f tag)
moved_term start f (Union tag) = Union (f tag)
moved_term start f t = t

-- the keyword of each tag of some terms, which is `union` where it is true
pub record Keyed (keyword : ℕ → Bool) (terms : List Term) : Type 0 where
  pub structures : (i tag : ℕ) → slice_get terms i ≡ Some (Structure tag) → keyword tag ≡ false
  pub unions : (i tag : ℕ) → slice_get terms i ≡ Some (Union tag) → keyword tag ≡ true

-- the types of a table from a number on are those of a unit, with other numbers for their tags
pub record HasTypes (table unit : Table) (start : ℕ) (f : ℕ → ℕ) (count : ℕ) : Type 0 where
  pub each : (i : ℕ) → i < count → type_of table (start + i) ≡ renamed f (type_of unit i)

-- each integer has one of the sizes that there are
pub record AreSized (terms : List Term) : Type 0 where
  pub each : (i : ℕ) (t : Term) → slice_get terms i ≡ Some t → IsSized t
