-- What the caller of a check has told.
use Rattle.std.specs.Prelude.{ℕ, ◌≡◌, Bool, false, List, get_or, Option, Some, None, is_some, Decides, option_and_then}
use Rattle.c_types.specs.Trees.{Ctype}
use Rattle.core_tree.specs.declared.node.Unit.{Unit}
use Rattle.c_senses.specs.Tree.{Source}
use Rattle.c_senses.specs.Names.{numbered}
use Rattle.unit_walk.specs.Walked.{AreDense}
use Rattle.carried_trees.specs.carried_types.Members.{tag_named}
use Rattle.carried_trees.specs.Extends.{parts_at}
use Rattle.c_check.specs.declared.known_tags.known.Meaning.{Meaning}
use Rattle.c_check.specs.known_tags.Own.{AreFirsts, AreTypesGiven}
use Rattle.c_check.specs.Expressed.{IsUnknown}

-- Something that the tree of a node names is missing. The unit's tags are numbered in the order of their first
-- specifiers.
pub record IsUntold (s : Source) (node : ℕ) (list : List (ℕ × Meaning)) (old : Unit) : Type 0 where
  pub tag_number : ℕ → ℕ
  pub dense : AreDense (numbered tag_number s)
  pub unknown : IsUnknown (numbered tag_number s) node list old

-- nothing is
unfoldable pub IsTold : Source → ℕ → List (ℕ × Meaning) → Unit → Type 0
IsTold s node list old = IsUntold s node list old → ⊥

-- the same of a source whose tags are numbered so
unfoldable pub NoneUnknown : Source → ℕ → List (ℕ × Meaning) → Unit → Type 0
NoneUnknown s node list old = IsUnknown s node list old → ⊥

-- a type is that of a tag which has no members in a unit
pub record IsOpenIn (old : Unit) (type : Option Ctype) : Type 0 where
  pub number : ℕ
  pub is : option_and_then tag_named type ≡ Some number
  pub incomplete : parts_at old number ≡ None

-- The tags have types in a unit: whichever these are, they are given to those with a mark, and those with a flag have
-- no members there.
pub record AreMarked (s : Source) (node : ℕ) (list : List (ℕ × Meaning)) (old : Unit) (marks : List (Option ℕ))
    (incomplete : List Bool) : Type 0 where
  pub first : ℕ → ℕ
  pub firsts : AreFirsts s first
  pub type : ℕ → Option Ctype
  pub given : AreTypesGiven s first node list old.types type
  pub marked : (other : ℕ → ℕ) (types : ℕ → Option Ctype)
      → AreFirsts s other
      → AreTypesGiven s other node list old.types types
      → (k : ℕ)
      → is_some (types k) ≡ is_some (get_or marks k None)
  pub flagged : (other : ℕ → ℕ) (types : ℕ → Option Ctype)
      → AreFirsts s other
      → AreTypesGiven s other node list old.types types
      → (k : ℕ)
      → Decides (get_or incomplete k false) (IsOpenIn old (types k))
