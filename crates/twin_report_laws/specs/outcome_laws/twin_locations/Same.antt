-- Locations of programs that are one, but for numbers: the same names, classes and objects.
use Rattle.std.specs.Prelude.{ℕ, ◌≡◌, ◌+◌, ◌-◌, nat_lt, if◌then◌else◌, Some, slice_get}
use Rattle.c_types.specs.declared.key.ObjectKey.{ObjectKey}
use Rattle.c_types.specs.declared.key.ObjectKey.TheVariants.{Varargs}
use Rattle.c_types.specs.declared.key.ObjectKey.TheVariants.{Entity, Text, Call, Function}
use Rattle.c_types.specs.Made.{IsMade, AreNamed}
use Rattle.core_tree.specs.declared.node.Entity.{Entity as EntityOf}
use Rattle.core_tree.specs.declared.node.Storage.TheVariants.{FunctionBody}
use Rattle.core_tree.specs.declared.node.Program.{Program}
use Rattle.obj_space.specs.declared.location.Location.{Location}
use Rattle.obj_space.specs.Space.{locations_in}
use Rattle.twin_report_laws.specs.outcome_laws.twin_programs.One.{Numbers, AreOne}

-- a type number under other numbers of tags: those below 8 are of types without tags
abbrev pub number_moved : (ℕ → ℕ) → ℕ → ℕ
number_moved tag n = if nat_lt n 8 then n else 8 + tag (n - 8)

-- an object under other numbers of entities and nodes
abbrev pub key_moved : Numbers → ObjectKey → ObjectKey
key_moved to (Entity e) = Entity (to.entity e)
key_moved to (Text n) = Text (to.node n)
key_moved to (Call n) = Call (to.node n)
key_moved to (Varargs e) = Varargs (to.entity e)
key_moved to key = key

-- a location is the same, but for these numbers
pub record SameLocation (to : Numbers) (x y : Location) : Type 0 where
  pub key : y.key ≡ key_moved to x.key
  pub name : y.name ≡ x.name
  pub ty : y.ty ≡ number_moved to.tag x.ty
  pub collapsed : y.collapsed ≡ x.collapsed

-- each location of one program stands in the other one
pub record LocationsLead (p q : Program) (to : Numbers) : Type 0 where
  pub each : (l : ℕ) (x : Location) → slice_get (locations_in p) l ≡ Some x
      → (k : ℕ) × (y : Location) × (slice_get (locations_in q) k ≡ Some y) × SameLocation to x y

-- a function that the program defines, or one of the library
pub data IsFunctionKey (p : Program) : ObjectKey → Type 0 where
  own : (e : ℕ) (x : EntityOf)
      → slice_get p.entities.items e ≡ Some x
      → x.storage ≡ FunctionBody
      → IsFunctionKey p (Entity e)
  library : (k : ℕ) → IsFunctionKey p (Function k)

-- programs that are one, but for numbers, on tables that were made, have the same locations
abbrev pub TwinLocations : Type 0
TwinLocations =
    (p q : Program) (o : AreOne p q) → IsMade p.types → AreNamed p.types → IsMade q.types → AreNamed q.types
    → LocationsLead p q o.to × LocationsLead q p o.back

-- a function has one location
abbrev pub OneFunction : Type 0
OneFunction =
    (p : Program) (key : ObjectKey) (i j : ℕ) (x y : Location)
    → IsFunctionKey p key
    → slice_get (locations_in p) i ≡ Some x
    → slice_get (locations_in p) j ≡ Some y → x.key ≡ key → y.key ≡ key → x ≡ y
