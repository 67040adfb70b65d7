-- The order of the locations of programs that are one, but for numbers.
use Rattle.std.specs.Prelude.{ℕ, ◌≡◌, ◌≢◌, ⊤, Some, slice_get}
use Rattle.std.specs.List.{AllZip}
use Rattle.c_types.specs.Made.{IsMade, AreNamed}
use Rattle.core_tree.specs.declared.node.Node.{Node}
use Rattle.core_tree.specs.declared.node.NodeKind.{NodeKind}
use Rattle.core_tree.specs.declared.node.NodeKind.TheVariants.{Text, CallNode}
use Rattle.core_tree.specs.declared.node.Entity.{Entity}
use Rattle.core_tree.specs.declared.node.Storage.TheVariants.{Declared}
use Rattle.core_tree.specs.declared.node.Program.{Program}
use Rattle.obj_space.specs.Space.{locations_in}
use Rattle.twin_report_laws.specs.outcome_laws.twin_programs.One.{AreOne}
use Rattle.twin_report_laws.specs.outcome_laws.twin_locations.Same.{SameLocation}

-- the nodes that may make an object: strings and calls
abbrev pub MayMake : NodeKind → Type 0
MayMake (Text bytes) = ⊤
MayMake CallNode = ⊤
MayMake kind = ⊥

-- No two entities that have their place, and no two nodes that may make an object, stand at one place.
pub record MadeApart (p : Program) : Type 0 where
  pub entities : (e f : ℕ) (x y : Entity)
      → slice_get p.entities.items e ≡ Some x
      → slice_get p.entities.items f ≡ Some y
      → x.storage ≢ Declared → y.storage ≢ Declared → x.place ≡ y.place → e ≡ f
  pub nodes : (n m : ℕ) (x y : Node) → slice_get p.nodes.items n ≡ Some x → slice_get p.nodes.items m ≡ Some y
      → MayMake x.kind → MayMake y.kind → x.place ≡ y.place → n ≡ m

-- the same locations, one by one
abbrev pub SameLocations : (p q : Program) → AreOne p q → Type 0
SameLocations p q o = AllZip (SameLocation o.to) (locations_in p) (locations_in q)

-- programs that are one, but for numbers, have the same locations in the same order
abbrev pub SameOrder : Type 0
SameOrder =
    (p q : Program) (o : AreOne p q)
    → IsMade p.types
    → AreNamed p.types
    → IsMade q.types
    → AreNamed q.types
    → MadeApart p
    → SameLocations p q o
