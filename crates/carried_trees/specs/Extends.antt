-- What stays of a unit that gets nodes, types and tags.
use Rattle.std.specs.Prelude.{ℕ, ◌≡◌, ◌<◌, ◌≤◌, ◌⊎◌, List, map, length, IsSome, Option, Some, None, false}
use Rattle.c_types.specs.Layout.{Extent}
use Rattle.c_types.specs.Trees.{Ctype}
use Rattle.c_types.specs.Table.{type_of, members_in, extent_in}
use Rattle.c_inits.specs.Made.{Part}
use Rattle.core_tree.specs.declared.node.Unit.{Unit}
use Rattle.c_consts.specs.Core.{Core}
use Rattle.core_nodes.specs.Standing.{core_at, parts_in}
use Rattle.carried_trees.specs.carried_types.Members.{number_of, carried_part, are_given_parts}
use Rattle.carried_trees.specs.Carried.{is_given_core}
use Rattle.carried_trees.specs.Literals.{has_literal, IsTree}

-- the members of a unit's tag, where it has them
abbrev pub parts_at : Unit → ℕ → Option (List Part)
parts_at u tag = parts_in u.types (members_in u.types tag)

-- the trees and the entities are what they were, and so are the types, and the members and layouts of the tags that
-- have them
pub record Extends (old new : Unit) : Type 0 where
  pub more : length old.nodes.items ≤ length new.nodes.items
  pub cores : (i : ℕ) → i < length old.nodes.items → core_at new i ≡ core_at old i
  pub terms : length old.types.terms ≤ length new.types.terms
  pub types : (id : ℕ) → id < length old.types.terms → type_of new.types id ≡ type_of old.types id
  pub tags : old.types.tags ≤ new.types.tags
  pub parts : (tag : ℕ) (parts : List Part) → parts_at old tag ≡ Some parts → parts_at new tag ≡ Some parts
  pub extents : (t : Ctype) (e : Extent) → extent_in old.types t ≡ Some e → extent_in new.types t ≡ Some e
  pub entities : new.entities.items ≡ old.entities.items

-- each tag has the members that it had
abbrev pub SameParts : Unit → Unit → Type 0
SameParts old new = (tag : ℕ) → parts_at new tag ≡ parts_at old tag

-- the members of a tag which has that number, carried
pub record PartsFrom (tag : ℕ → Option Ctype) (members : ℕ → Option (List Part)) (number : ℕ)
    (parts : List Part) : Type 0 where
  pub own : ℕ
  pub is : number_of tag own ≡ Some number
  pub list : List Part
  pub list_is : members own ≡ Some list
  pub carried : parts ≡ map (carried_part tag) list

-- each tag that has members, and a number in the unit, has members there; and what members there are more, are
-- those of a tag that has that number
pub record AreFilled (tag : ℕ → Option Ctype) (members : ℕ → Option (List Part)) (old new : Unit) : Type 0 where
  pub complete : (k number : ℕ) → number_of tag k ≡ Some number → IsSome (members k) → IsSome (parts_at new number)
  pub added : (number : ℕ) (parts : List Part)
      → parts_at new number ≡ Some parts
      → (parts_at old number ≡ Some parts) ⊎ PartsFrom tag members number parts

-- a tag has a number in the unit, and no members there, and one of its members has a type with a tag that isn't
-- given
pub record LacksPart (tag : ℕ → Option Ctype) (members : ℕ → Option (List Part)) (old : Unit) : Type 0 where
  pub own : ℕ
  pub number : ℕ
  pub is : number_of tag own ≡ Some number
  pub was_open : parts_at old number ≡ None
  pub list : List Part
  pub list_is : members own ≡ Some list
  pub lacks : are_given_parts tag list ≡ false

-- the tree of a node can't be carried: an entity or a tag in it isn't given, or a tag lacks a member
abbrev pub IsMissing : (ℕ → Option ℕ) → (ℕ → Option Ctype) → (ℕ → Option (List Part)) → Core → Unit → Type 0
IsMissing entity tag members core old =
    (is_given_core entity (has_literal core) tag core ≡ false) ⊎ LacksPart tag members old

-- it stands in the unit, carried, with these compound literals, and the tags have their members
pub record IsWhole (entity : ℕ → Option ℕ) (tag : ℕ → Option Ctype) (members : ℕ → Option (List Part))
    (core : Core) (old new : Unit) (i : ℕ) (list : List (ℕ × ℕ)) : Type 0 where
  pub tree : IsTree entity tag core old new i list
  pub filled : AreFilled tag members old new
