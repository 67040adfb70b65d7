-- Each location is a node of exactly one object.
use Rattle.std.specs.Prelude.{ℕ, ◌≡◌, Some, slice_get}
use Rattle.core_tree.specs.declared.node.Program.{Program}
use Rattle.obj_made.specs.declared.object.Object.{Object}
use Rattle.obj_space.specs.Objects.{objects_of}
use Rattle.obj_space.specs.declared.location.Location.{Location}
use Rattle.obj_space.specs.Space.{locations_in}

-- no two objects of a program have one key
abbrev pub ObjectsOnce : Type 0
ObjectsOnce =
    (p : Program) (i j : ℕ) (a b : Object)
    → slice_get (objects_of p) i ≡ Some a
    → slice_get (objects_of p) j ≡ Some b
    → a.key ≡ b.key
    → i ≡ j

-- the object in that position has the location's key and is made of what the location says, and no other object has
-- that key
pub record IsObjectOf (p : Program) (location : Location) (i : ℕ) : Type 0 where
  pub object : Object
  pub object_is : slice_get (objects_of p) i ≡ Some object
  pub key : location.key ≡ object.key
  pub content : location.content ≡ object.content
  pub only : (j : ℕ) (other : Object) → slice_get (objects_of p) j ≡ Some other → other.key ≡ location.key → i ≡ j

abbrev pub OfOneObject : Type 0
OfOneObject =
    (p : Program) (l : ℕ) (location : Location)
    → slice_get (locations_in p) l ≡ Some location
    → (i : ℕ) × IsObjectOf p location i
