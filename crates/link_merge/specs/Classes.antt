-- Classes of tags, round by round.
use Rattle.std.specs.Prelude.{ℕ, ◌≡◌, ◌+◌, ◌^◌, ◌<◌, ◌≤◌, List, [], ◌∷◌, Option, Some, None, length, map, slice_get}
use Rattle.std.specs.Prelude.{slice_index}
use Rattle.std.specs.List.{slice_index_or}
use Rattle.c_types.specs.declared.term.MemberTerm.{MemberTerm}
use Rattle.c_types.specs.Table.{Table, type_of}
use Rattle.core_tree.specs.declared.node.Unit.{Unit}
use Rattle.link_model.specs.declared.item.Item.{Item}
use Rattle.link_model.specs.Units.{IsTag, list_at}
use Rattle.link_model.specs.Apart.{CountsAs, MayBeOne}
use Rattle.link_model.specs.Partition.{Joins, Separates, IsStable, number}
use Rattle.link_model.specs.Renamed.{renamed}
use Rattle.link_model.specs.link_types.Joined.{tag_in}
use Rattle.link_model.specs.link_types.Starts.{AreSums}
use Rattle.link_model.specs.link_types.Leaders.{AreLeaders, AreNumbers}
use Rattle.unit_link.specs.link_program.Alike.{AreAlike}
use Rattle.link_merge.specs.Codes.{AreFirstIds}
use Rattle.link_merge.specs.Keys.{tag_code}
use Rattle.link_merge.specs.Tags.{place_in, tag_counts_of, AreKept, AreMade, AreTags}

-- the tag whose list counts for a tag, and its place
pub record IsCountedAs (units : List Unit) (starts : List ℕ) (a : Item) (h : ℕ) : Type 0 where
  pub tag : Item
  pub is_tag : IsTag units tag
  pub place : place_in starts tag ≡ h
  pub list : List MemberTerm
  pub counts : CountsAs units a tag list

abbrev pub CountsFor : List Unit → List ℕ → Item → Option ℕ → Type 0
CountsFor units starts a None = (c : Item) → MayBeOne units a c → list_at units c ≡ None
CountsFor units starts a (Some h) = IsCountedAs units starts a h

-- the place of the tag whose list counts for each tag
pub record AreCountedAs (units : List Unit) (starts : List ℕ) (counted : List (Option ℕ)) : Type 0 where
  pub each : (a : Item) → IsTag units a → CountsFor units starts a (slice_index_or counted (place_in starts a) None)

-- the leader of a unit's tag
abbrev pub lead_in : List ℕ → List ℕ → ℕ → ℕ → ℕ
lead_in starts leaders u tag = slice_index leaders (slice_index starts u + tag)

-- Classes that join only tags which may be one, separate only tags that are apart, and leave each tag with the one
-- whose list counts for it.
pub record AreClasses (units : List Unit) (starts leaders : List ℕ) : Type 0 where
  pub lead : AreLeaders leaders
  pub joins : Joins units (lead_in starts leaders)
  pub separates : Separates units (lead_in starts leaders)
  pub together : (a b : Item) (list : List MemberTerm)
      → IsTag units a
      → IsTag units b
      → CountsAs units a b list
      → number (lead_in starts leaders) a ≡ number (lead_in starts leaders) b

-- the key of a tag in a round
abbrev pub round_key : List Unit → List ℕ → List ℕ → List Item → List (Option ℕ) → List ℕ → ℕ → List ℕ
round_key units type_starts firsts tags counted leaders g =
    slice_index leaders g ∷ tag_code units type_starts firsts tags (slice_index_or counted g None)

pub record AreRoundKeys (units : List Unit) (type_starts firsts : List ℕ) (tags : List Item)
    (counted : List (Option ℕ)) (leaders : List ℕ) (keys : List (Option (List ℕ))) : Type 0 where
  pub all : length keys ≡ length leaders
  pub each : (g : ℕ)
      → g < length leaders
      → slice_get keys g ≡ Some (Some (round_key units type_starts firsts tags counted leaders g))

-- the leaders of the next round
pub record IsRefined (units : List Unit) (type_starts : List ℕ) (table : Table) (tags : List Item)
    (counted : List (Option ℕ)) (leaders next : List ℕ) : Type 0 where
  pub firsts : List ℕ
  pub firsts_are : AreFirstIds table firsts
  pub keys : List (Option (List ℕ))
  pub keys_are : AreRoundKeys units type_starts firsts tags counted leaders keys
  pub alike : AreAlike keys next

-- the table shows each type of each unit, with the numbers of its tags
pub record AreShown (units : List Unit) (type_starts : List ℕ) (tag : ℕ → ℕ → ℕ) (table : Table) : Type 0 where
  pub enough : length units ≤ length type_starts
  pub within : (u : ℕ) (x : Unit)
      → slice_get units u ≡ Some x
      → slice_index type_starts u + length x.types.terms ≤ length table.terms
  pub each : (u : ℕ) (x : Unit) (i : ℕ)
      → slice_get units u ≡ Some x
      → i < length x.types.terms
      → type_of table (slice_index type_starts u + i) ≡ renamed (tag u) (type_of x.types i)

-- the numbers of tags that are one type, and the table of all types with these numbers
pub record IsSettled (units : List Unit) (type_starts tag_starts numbers : List ℕ) (table : Table) : Type 0 where
  pub leaders : List ℕ
  pub all : length numbers ≡ length leaders
  pub classes : AreClasses units tag_starts leaders
  pub numbered : AreNumbers leaders numbers table.tags
  pub stable : IsStable units (tag_in tag_starts numbers)
  pub shown : AreShown units type_starts (tag_in tag_starts numbers) table
  pub completed : table.completed ≡ []

-- What is known of the units and their tags before any round: the tables are made, no unit has a key twice, where
-- the units' types and tags start, all tags, and the place of the one whose list counts for each.
pub record AreCollected (units : List Unit) (type_starts tag_starts : List ℕ) (tags : List Item)
    (counted : List (Option ℕ)) : Type 0 where
  pub kept : AreKept units
  pub made : AreMade units
  pub sums : AreSums (tag_counts_of units) tag_starts
  pub type_sums : AreSums (map (λ (x : Unit). length x.types.terms) units) type_starts
  pub tags_are : AreTags units tag_starts tags
  pub many : length counted ≡ length tags
  pub counts : AreCountedAs units tag_starts counted
  pub few : length tags < 2 ^ 32

-- a round: the numbers of the present classes, the table with these numbers, and the leaders of the next round
pub record IsRound (units : List Unit) (type_starts tag_starts : List ℕ) (tags : List Item)
    (counted : List (Option ℕ)) (leaders numbers next : List ℕ) (table : Table) : Type 0 where
  pub many : length numbers ≡ length leaders
  pub numbered : AreNumbers leaders numbers table.tags
  pub shown : AreShown units type_starts (tag_in tag_starts numbers) table
  pub completed : table.completed ≡ []
  pub refined : IsRefined units type_starts table tags counted leaders next
