-- What the loads, stores and fields of a system demand of a family, and what a system knows of locations.
use Rattle.std.specs.Prelude.{◌≡◌, ℕ, ⊤, true, false, List, Some, slice_get}
use Rattle.c_types.specs.Trees.{Ctype}
use Rattle.c_types.specs.Table.{Table}
use Rattle.c_types.specs.Made.{IsMade, AreNamed}
use Rattle.sol_model.specs.declared.system.System.{System}
use Rattle.sol_model.specs.declared.system.LocationFact.{LocationFact}
use Rattle.sol_model.specs.Families.{Family, Has, IsContained}
use Rattle.sol_model.specs.Places.{sub_of}
use Rattle.obj_made.specs.declared.object.Content.{Content}
use Rattle.obj_made.specs.declared.object.Content.TheVariants.{Blob, Scalar, Scalars}
use Rattle.obj_space.specs.declared.location.Location.{Location}
use Rattle.obj_space.specs.Spots.{ReachesParts}
use Rattle.row_numbers.specs.Kept.{nodes_of, kept_at}
use Rattle.row_numbers.specs.Numbers.{type_number}
use Rattle.normal_form.specs.Facts.{type_facts}
pub use Rattle.covering_laws.specs.covered_types.Whole.{IsFew, IsWhole}

-- a location's fact says what the location is
pub record IsFactOf (x : Location) (fact : LocationFact) : Type 0 where
  pub collapsed : fact.collapsed ≡ x.collapsed
  pub ty : fact.ty ≡ x.ty

-- what a location says of an object that is made of no type of the program
abbrev pub ContentTells : Content → Location → Type 0
ContentTells Blob x = x.collapsed ≡ true
ContentTells (Scalar number) x = (x.collapsed ≡ false) × (x.ty ≡ number)
ContentTells (Scalars number) x = (x.collapsed ≡ false) × (x.ty ≡ number)
ContentTells content x = ⊤

-- the types are those of a table that was made, the locations those of a program's objects, and the system's facts
-- are of these
pub record Grounds (table : Table) (space : List Location) (system : System) : Type 0 where
  pub made : IsMade table
  pub named : AreNamed table
  pub reaches : ReachesParts table space
  pub contents : (l : ℕ) (x : Location) → slice_get space l ≡ Some x → ContentTells x.content x
  pub facts : (l : ℕ) (x : Location)
      → slice_get space l ≡ Some x
      → (fact : LocationFact) × (slice_get system.locations l ≡ Some fact) × IsFactOf x fact
  pub types : system.types ≡ type_facts table

-- each kept node of a type has what that node of these objects has
abbrev pub LoadsAt : Table → System → Family → (ℕ → Type 0) → (ℕ → ℕ) → Ctype → Type 0
LoadsAt table system family IsAt row t =
    (i : ℕ)
    → kept_at (slice_get (nodes_of table t) i) ≡ true
    → (l m : ℕ)
    → IsAt l
    → sub_of system l (type_number t) i ≡ Some m
    → IsContained family m (row i)

-- that node of these objects has what each kept node of a type has
abbrev pub StoresAt : Table → System → Family → (ℕ → Type 0) → (ℕ → ℕ) → Ctype → Type 0
StoresAt table system family IsAt row t =
    (i : ℕ)
    → kept_at (slice_get (nodes_of table t) i) ≡ true
    → (l m : ℕ)
    → IsAt l
    → sub_of system l (type_number t) i ≡ Some m
    → IsContained family (row i) m

-- the same of the objects of a row
abbrev pub Loads : Table → System → Family → ℕ → (ℕ → ℕ) → Ctype → Type 0
Loads table system family through row t = LoadsAt table system family (Has family through) row t

abbrev pub Stores : Table → System → Family → ℕ → (ℕ → ℕ) → Ctype → Type 0
Stores table system family through row t = StoresAt table system family (Has family through) row t
