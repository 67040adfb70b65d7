-- The tags of all units, in order.
use Rattle.std.specs.Prelude.{ℕ, ◌≡◌, ◌+◌, ◌<◌, ◌⊎◌, cond, Bool, false, List, ◌∷◌, Option, Some, length, map, sum}
use Rattle.std.specs.Prelude.{slice_get, slice_index}
use Rattle.std.specs.List.{slice_index_or}
use Rattle.std.specs.Option.{option_map}
use Rattle.c_types.specs.Made.{IsMade, AreNamed}
use Rattle.core_tree.specs.declared.node.Unit.{Unit}
use Rattle.core_tree.specs.Valid.{Keyed}
use Rattle.link_model.specs.declared.item.Item.{Item}
use Rattle.link_model.specs.Units.{IsTag, is_union, label_at}
use Rattle.unit_link.specs.link_program.Alike.{AreAlike}
use Rattle.link_merge.specs.Keys.{label_code}

abbrev pub tag_counts_of : List Unit → List ℕ
tag_counts_of units = map (λ x. x.types.tags) units

-- each unit's table is one that was made
pub record AreMade (units : List Unit) : Type 0 where
  pub made : (u : ℕ) (x : Unit) → slice_get units u ≡ Some x → IsMade x.types
  pub named : (u : ℕ) (x : Unit) → slice_get units u ≡ Some x → AreNamed x.types

-- each unit has a key or none for each tag, and no key twice
pub record AreKept (units : List Unit) : Type 0 where
  pub each : (u : ℕ) (x : Unit) → slice_get units u ≡ Some x → Keyed x.types.tags x.tags.items

-- where a tag stands among all
abbrev pub place_in : List ℕ → Item → ℕ
place_in starts a = slice_index starts a.unit + a.number

-- a tag of the units before one, or one of the first so many of that unit
abbrev pub IsBefore : Item → ℕ → ℕ → Type 0
IsBefore a u n = (a.unit < u) ⊎ ((a.unit ≡ u) × (a.number < n))

-- the tags of the units before one, and the first so many of that unit
pub record TagsUpTo (units : List Unit) (starts : List ℕ) (u n : ℕ) (tags : List Item) : Type 0 where
  pub many : length tags ≡ slice_index starts u + n
  pub place : (a : Item) → IsTag units a → IsBefore a u n → slice_get tags (place_in starts a) ≡ Some a
  pub each : (g : ℕ) (a : Item) → slice_get tags g ≡ Some a → IsTag units a × (place_in starts a ≡ g)

-- all tags, each at its place
pub record AreTags (units : List Unit) (starts : List ℕ) (tags : List Item) : Type 0 where
  pub many : length tags ≡ sum (tag_counts_of units)
  pub place : (a : Item) → IsTag units a → slice_get tags (place_in starts a) ≡ Some a
  pub each : (g : ℕ) (a : Item) → slice_get tags g ≡ Some a → IsTag units a × (place_in starts a ≡ g)

-- which of the tags of the units before one stand in unions
pub record UnionsUpTo (units : List Unit) (starts : List ℕ) (u : ℕ) (unions : List Bool) : Type 0 where
  pub many : length unions ≡ slice_index starts u
  pub each : (a : Item)
      → IsTag units a
      → a.unit < u
      → slice_index_or unions (place_in starts a) false ≡ is_union units a

pub record AreUnions (units : List Unit) (starts : List ℕ) (unions : List Bool) : Type 0 where
  pub many : length unions ≡ sum (tag_counts_of units)
  pub each : (a : Item) → IsTag units a → slice_index_or unions (place_in starts a) false ≡ is_union units a

abbrev pub label_with : Bool → Option (List ℕ) → Option (List ℕ)
label_with union key = option_map (λ k. cond union 1 0 ∷ k) key

-- the label of each tag
pub record AreLabels (units : List Unit) (tags : List Item) (labels : List (Option (List ℕ))) : Type 0 where
  pub many : length labels ≡ length tags
  pub each : (g : ℕ) (a : Item)
      → slice_get tags g ≡ Some a
      → slice_get labels g ≡ Some (option_map label_code (label_at units a))

-- the first tag of the label of each tag
pub record AreLabelled (units : List Unit) (tags : List Item) (leaders : List ℕ) : Type 0 where
  pub labels : List (Option (List ℕ))
  pub labels_are : AreLabels units tags labels
  pub alike : AreAlike labels leaders
