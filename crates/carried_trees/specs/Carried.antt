-- Core trees carried from one unit to another: tags have their types there, and entities their numbers.
use Rattle.std.specs.Prelude.{ℕ, Bool, true, false, ◌&&◌, Option, is_some, unwrap_or}
use Rattle.c_types.specs.Trees.{Ctype}
use Rattle.core_tree.specs.declared.node.NodeKind.{NodeKind}
use Rattle.core_tree.specs.declared.node.NodeKind.TheVariants.{Named, Literal, FunctionName, Block, For, Initialise}
use Rattle.core_tree.specs.declared.node.NodeKind.TheVariants.{VarArgs}
use Rattle.c_consts.specs.Core.{Core, Cores, Of, NoCores, MoreCores}
use Rattle.carried_trees.specs.carried_types.Types.{carried_type, is_given_type}

-- a name has the number of its entity, and a compound literal that of its own, by its leaf; an entity without one
-- is carried to number 0, and of it is said that it isn't given
abbrev pub carried_kind : (ℕ → Option ℕ) → (ℕ → Option ℕ) → NodeKind → NodeKind
carried_kind entity own (Named e) = Named (unwrap_or (entity e) 0)
carried_kind entity own (FunctionName e) = FunctionName (unwrap_or (entity e) 0)
carried_kind entity own (VarArgs e) = VarArgs (unwrap_or (entity e) 0)
carried_kind entity own (Literal e) = Literal (unwrap_or (own e) 0)
carried_kind entity own (Initialise e paths) = Initialise (unwrap_or (own e) 0) paths
carried_kind entity own kind = kind

-- each entity that a node names has one, and an initialiser is that of a compound literal; what lists objects, as a
-- block, has entities of its own
abbrev pub is_given_kind : (ℕ → Option ℕ) → (ℕ → Bool) → NodeKind → Bool
is_given_kind entity own (Named e) = is_some (entity e)
is_given_kind entity own (FunctionName e) = is_some (entity e)
is_given_kind entity own (VarArgs e) = is_some (entity e)
is_given_kind entity own (Literal e) = own e
is_given_kind entity own (Initialise e paths) = own e
is_given_kind entity own (Block es) = false
is_given_kind entity own (For es condition after) = false
is_given_kind entity own kind = true

abbrev mutual
  pub carried_core : (ℕ → Option ℕ) → (ℕ → Option ℕ) → (ℕ → Option Ctype) → Core → Core
  carried_core entity own tag (Of kind place type under) =
      Of (carried_kind entity own kind) place (carried_type tag type) (carried_cores entity own tag under)

  pub carried_cores : (ℕ → Option ℕ) → (ℕ → Option ℕ) → (ℕ → Option Ctype) → Cores → Cores
  carried_cores entity own tag NoCores = NoCores
  carried_cores entity own tag (MoreCores c rest) =
      MoreCores (carried_core entity own tag c) (carried_cores entity own tag rest)

-- each entity and each tag in a tree is given
abbrev mutual
  pub is_given_core : (ℕ → Option ℕ) → (ℕ → Bool) → (ℕ → Option Ctype) → Core → Bool
  is_given_core entity own tag (Of kind place type under) =
      (is_given_kind entity own kind && is_given_type tag type) && are_given_cores entity own tag under

  pub are_given_cores : (ℕ → Option ℕ) → (ℕ → Bool) → (ℕ → Option Ctype) → Cores → Bool
  are_given_cores entity own tag NoCores = true
  are_given_cores entity own tag (MoreCores c rest) =
      is_given_core entity own tag c && are_given_cores entity own tag rest
