-- Which member list counts for each tag.
use Rattle.std.specs.Prelude.{ℕ, ◌≡◌, ◌<◌, ◌≤◌, ◌⊎◌, Bool, cond, List, Option, Some, None, IsSome, length}
use Rattle.std.specs.Prelude.{slice_get, slice_index}
use Rattle.std.specs.List.{slice_index_or}
use Rattle.core_tree.specs.declared.node.Unit.{Unit}
use Rattle.link_model.specs.declared.item.Item.{Item}
use Rattle.link_model.specs.Units.{IsTag, list_at}

-- tags of the units
pub record AreOfTags (units : List Unit) (tags : List Item) : Type 0 where
  pub each : (g : ℕ) (a : Item) → slice_get tags g ≡ Some a → IsTag units a

-- a leader for each tag
pub record AreLeadersOf (tags : List Item) (leaders : List ℕ) : Type 0 where
  pub all : length leaders ≡ length tags
  pub within : (g : ℕ) → g < length leaders → slice_index leaders g < length tags

-- the tag at a place has that leader and a list in its own unit
pub record IsListed (units : List Unit) (tags : List Item) (leaders : List ℕ) (l h : ℕ) : Type 0 where
  pub tag : Item
  pub tag_is : slice_get tags h ≡ Some tag
  pub leader : slice_index leaders h ≡ l
  pub list : IsSome (list_at units tag)

-- the first such tag among the first so many, if there is one
pub record IsFirstListed (units : List Unit) (tags : List Item) (leaders : List ℕ) (upto l h : ℕ) : Type 0 where
  pub within : h < upto
  pub listed : IsListed units tags leaders l h
  pub first : (j : ℕ) → IsListed units tags leaders l j → h ≤ j

abbrev pub FirstListed : List Unit → List Item → List ℕ → ℕ → ℕ → Option ℕ → Type 0
FirstListed units tags leaders upto l None = (j : ℕ) → j < upto → IsListed units tags leaders l j → ⊥
FirstListed units tags leaders upto l (Some h) = IsFirstListed units tags leaders upto l h

-- the first of the first so many tags of each leader that has a list
pub record FirstsUpTo (units : List Unit) (tags : List Item) (leaders : List ℕ) (upto : ℕ)
    (list : List (Option ℕ)) : Type 0 where
  pub all : length list ≡ length tags
  pub each : (l : ℕ) → l < length tags → FirstListed units tags leaders upto l (slice_index_or list l None)

-- what is kept for a leader with one tag more
abbrev pub kept_first : Option ℕ → Bool → ℕ → Option ℕ
kept_first (Some h) has here = Some h
kept_first None has here = cond has (Some here) None

-- the tag whose list counts: itself, where it has a list, else the first one of its leader that has one
abbrev pub CountedAt : List Unit → List Item → List ℕ → ℕ → Item → Option ℕ → Type 0
CountedAt units tags leaders g a o =
    ((o ≡ Some g) × IsSome (list_at units a))
    ⊎ ((list_at units a ≡ None) × FirstListed units tags leaders (length tags) (slice_index leaders g) o)

pub record AreCounted (units : List Unit) (tags : List Item) (leaders : List ℕ)
    (counted : List (Option ℕ)) : Type 0 where
  pub all : length counted ≡ length tags
  pub each : (g : ℕ) (a : Item)
      → slice_get tags g ≡ Some a
      → CountedAt units tags leaders g a (slice_index_or counted g None)
