-- What is untold of a tree, before it is carried.
use Rattle.std.specs.Prelude.{ℕ, ◌≡◌, ◌⊎◌, Bool, true, false, List, Option, Some, None, get_or}
use Rattle.std.specs.Option.{option_map}
use Rattle.c_types.specs.Trees.{Ctype, VoidType}
use Rattle.c_types.specs.Table.{Table, members_in}
use Rattle.c_inits.specs.Made.{Part}
use Rattle.c_consts.specs.Core.{Core}
use Rattle.core_nodes.specs.Standing.{parts_in}
use Rattle.carried_trees.specs.carried_types.Members.{are_given_parts}
use Rattle.carried_trees.specs.Carried.{is_given_core}
use Rattle.carried_trees.specs.Literals.{has_literal}

-- a type for each tag that has a mark: which one doesn't count
abbrev pub marked : List (Option ℕ) → ℕ → Option Ctype
marked marks k = option_map (λ (id : ℕ). VoidType) (get_or marks k None)

-- a tag of the table that is incomplete has a member whose type has a tag without a mark
pub record LacksMark (marks : List (Option ℕ)) (incomplete : List Bool) (from : Table) : Type 0 where
  pub own : ℕ
  pub flag : get_or incomplete own false ≡ true
  pub list : List Part
  pub list_is : parts_in from (members_in from own) ≡ Some list
  pub lacks : are_given_parts (marked marks) list ≡ false

-- Something is untold of a tree: an entity that it names has no number, a tag in its types has no mark, it lists
-- objects as a statement does, or it holds an initialiser of no compound literal in it; or an incomplete tag has
-- such a member.
abbrev pub IsUntold : (ℕ → Option ℕ) → List (Option ℕ) → List Bool → Core → Table → Type 0
IsUntold entity marks incomplete core from =
    (is_given_core entity (has_literal core) (marked marks) core ≡ false) ⊎ LacksMark marks incomplete from
