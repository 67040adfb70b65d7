-- Lists of units that are alike one by one, and their faults of linking.
use Rattle.std.specs.Prelude.{ℕ, ◌≡◌, ◌<◌, ◌⊎◌, Bool, List, Some, length, slice_get}
use Rattle.std.specs.List.{list_any}
use Rattle.pta_base.specs.declared.place.Place.{Place}
use Rattle.c_types.specs.Table.{Table}
use Rattle.c_types.specs.Made.{AreNamed}
use Rattle.core_tree.specs.declared.node.Entity.{Entity}
use Rattle.core_tree.specs.declared.node.Unit.{Unit}
use Rattle.core_tree.specs.declared.node.Program.{Program}
use Rattle.core_tree.specs.Typed.{trees_of}
use Rattle.core_tree.specs.Valid.{ValidUnit, entity_at}
use Rattle.link_model.specs.declared.item.Item.{Item}
use Rattle.link_model.specs.Units.{is_union_of}
use Rattle.link_names.specs.Externals.{IsExternal, entity_at as entity_in}
use Rattle.link_names.specs.declared.fault.LinkFault.{LinkFault}
use Rattle.link_names.specs.declared.fault.LinkFault.TheVariants.{Undefined}
use Rattle.unit_link.specs.Linked.{LinkedAt, LinksBadlyAt}
use Rattle.parsed_tree_laws.specs.reading_laws.right_laws.Alike.{AreAlike}

-- whether a tag stands in a union of a table
abbrev pub has_union : Table → ℕ → Bool
has_union table tag = list_any (is_union_of tag) table.terms

-- external declarations of a unit stand at different places
pub record PlacesDiffer (u : Unit) : Type 0 where
  pub once : (e f : ℕ) (x y : Entity) → entity_at (trees_of u) e ≡ Some x → entity_at (trees_of u) f ≡ Some y
      → IsExternal x → IsExternal y → x.place.line ≡ y.place.line → x.place.column ≡ y.place.column → e ≡ f

-- valid units that are alike, but for the numbers of entities and nodes, with one keyword for each tag
pub record AreTwins (u v : Unit) : Type 0 where
  pub alike : AreAlike u v
  pub keywords : (tag : ℕ) → tag < u.types.tags → has_union u.types tag ≡ has_union v.types tag
  pub valid : ValidUnit u
  pub other_valid : ValidUnit v
  pub named : AreNamed u.types
  pub other_named : AreNamed v.types
  pub places : PlacesDiffer u
  pub other_places : PlacesDiffer v

pub record AreAllTwins (us vs : List Unit) : Type 0 where
  pub many : length us ≡ length vs
  pub each : (k : ℕ) (u v : Unit) → slice_get us k ≡ Some u → slice_get vs k ≡ Some v → AreTwins u v

-- what is first used at one place has one name
pub record NamedByPlace (units : List Unit) : Type 0 where
  pub one : (a b : Item) (x y : Entity) (place : Place) → entity_in units a ≡ Some x → entity_in units b ≡ Some y
      → x.used ≡ Some place → y.used ≡ Some place → x.name ≡ y.name

-- uses of undefined names at one place
pub record AreOneUse (fault other : LinkFault) : Type 0 where
  pub place : Place
  pub name : List ℕ
  pub other_name : List ℕ
  pub first : fault ≡ Undefined place name
  pub second : other ≡ Undefined place other_name

-- Units that are twins have one fault of linking, where the same entries are named.
pub record OneLinkFault : Type 0 where
  pub one : {entered : List (List ℕ)} (us vs : List Unit) (fault other : LinkFault) → AreAllTwins us vs
      → LinksBadlyAt entered us fault → LinksBadlyAt entered vs other → (fault ≡ other) ⊎ AreOneUse fault other
  pub named : {entered : List (List ℕ)} (us vs : List Unit) (fault other : LinkFault) → AreAllTwins us vs
      → NamedByPlace us → LinksBadlyAt entered us fault → LinksBadlyAt entered vs other → fault ≡ other

-- Where a program is linked from some units, their twins have no fault of linking.
abbrev pub NoLinkFault : Type 0
NoLinkFault =
    (entered : List (List ℕ)) (us vs : List Unit) (p : Program) (fault : LinkFault)
    → AreAllTwins us vs
    → LinkedAt entered us p
    → LinksBadlyAt entered vs fault
    → ⊥
