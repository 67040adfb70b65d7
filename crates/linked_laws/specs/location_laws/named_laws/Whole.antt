-- Whole programs: what the stages behind linking may ask.
use Rattle.std.specs.Prelude.{ℕ, ◌≡◌, ◌≢◌, ◌⊎◌, true, is_some, List, [], Some, slice_get}
use Rattle.pta_base.specs.declared.place.Place.{Place}
use Rattle.c_types.specs.Made.{IsMade, AreNamed}
use Rattle.core_tree.specs.declared.node.Unit.{Unit}
use Rattle.core_tree.specs.declared.node.Program.{Program}
use Rattle.core_tree.specs.declared.node.Entity.{Entity}
use Rattle.core_tree.specs.declared.node.Linkage.TheVariants.{External}
use Rattle.core_tree.specs.declared.node.Storage.TheVariants.{Declared}
use Rattle.lib_summaries.specs.Table.{Numbered, summary_of}
use Rattle.linked_laws.specs.link_laws.Whole.{NamedOnce, DefinesMain}
use Rattle.obj_space.specs.Space.{DistinctNames, locations_in}
use Rattle.unit_link.specs.Linked.{LinkedAt}
use Rattle.unit_link.specs.Needs.{AreLinkable}
use Rattle.linked_laws.specs.location_laws.named_laws.Units.{AreNamedUnits}

-- an entity has a body or an initialiser, or its place
abbrev pub IsDefined : Entity → Type 0
IsDefined x = (is_some x.body ≡ true) ⊎ (x.storage ≢ Declared)

-- an external name that the library has
pub record IsLibraryName (x : Entity) : Type 0 where
  pub linkage : x.linkage ≡ External
  pub row : Numbered
  pub in_library : summary_of x.name ≡ Some row

-- where a program has no entries, `main` is defined as a function of one of its types
abbrev pub Starts : Program → Type 0
Starts p = p.entries.items ≡ [] → DefinesMain p

-- No two external entities have one name, and no two locations; each entity that is used is defined or a name of
-- the library's; and the program has entries, or a `main` at which it starts.
pub record IsWhole (p : Program) : Type 0 where
  pub once : NamedOnce p
  pub names : DistinctNames (locations_in p)
  pub used : (e : ℕ) (x : Entity) (place : Place)
      → slice_get p.entities.items e ≡ Some x
      → x.used ≡ Some place
      → IsDefined x ⊎ IsLibraryName x
  pub start : Starts p

-- a program that is linked from units whose parts are told apart is whole
abbrev pub LinkedWhole : Type 0
LinkedWhole =
    (entered : List (List ℕ)) (units : List Unit) (p : Program)
    → AreLinkable units
    → AreNamedUnits units
    → LinkedAt entered units p
    → IsMade p.types
    → AreNamed p.types
    → IsWhole p
