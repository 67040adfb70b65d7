-- Limits of types: how large a type may be, and where a flexible array may end a structure.
use Rattle.std.specs.Prelude.{ℕ, zero, suc, Bool, true, false, ◌&&◌, ◌||◌, List, [], ◌∷◌, length, Option, Some}
use Rattle.std.specs.Prelude.{None, is_some}
use Rattle.c_inits.specs.passed.c_types.Trees.{Ctype, Ctypes, NoTypes, MoreTypes, PointerTo, ArrayOf, FunctionFrom}
use Rattle.c_inits.specs.passed.c_types.Trees.{StructureOf, UnionOf}
use Rattle.c_inits.specs.passed.c_types.Layout.{Extent}
use Rattle.c_inits.specs.passed.c_types.Table.{size_below, nodes_within}
use Rattle.c_inits.specs.Made.{Part}
use Rattle.c_senses.specs.World.{World, extent}

-- a type that has a size has one below 2^63, and at most 2^24 nodes
abbrev pub is_small : Option Extent → Bool
is_small None = true
is_small (Some e) = is_some (size_below (Some e)) && is_some (nodes_within (Some e))

-- so it is for each type of which a type is made
abbrev mutual
  pub within_limits : World → Ctype → Bool
  within_limits w (PointerTo to) = within_limits w to
  within_limits w (ArrayOf of n) = is_small (extent w (ArrayOf of n)) && within_limits w of
  within_limits w (FunctionFrom result parameters form) = within_limits w result && all_within_limits w parameters
  within_limits w t = is_small (extent w t)

  pub all_within_limits : World → Ctypes → Bool
  all_within_limits w NoTypes = true
  all_within_limits w (MoreTypes t rest) = within_limits w t && all_within_limits w rest

abbrev pub is_function_type : Ctype → Bool
is_function_type (FunctionFrom result parameters form) = true
is_function_type t = false

abbrev pub is_array_type : Ctype → Bool
is_array_type (ArrayOf of length) = true
is_array_type t = false

abbrev pub lacks_a_length : Ctype → Bool
lacks_a_length (ArrayOf of None) = true
lacks_a_length t = false

-- a structure that ends in a flexible array, or a union that holds one
abbrev pub last_lacks_length : List Part → Bool
last_lacks_length [] = false
last_lacks_length (m ∷ []) = lacks_a_length m.type
last_lacks_length (m ∷ n ∷ rest) = last_lacks_length (n ∷ rest)

abbrev pub some_flexible : (Ctype → Bool) → List Part → Bool
some_flexible test [] = false
some_flexible test (m ∷ rest) = test m.type || some_flexible test rest

abbrev pub members_flexible : (List Part → Bool) → Option (List Part) → Bool
members_flexible test None = false
members_flexible test (Some members) = test members

abbrev pub flexible_within : World → ℕ → Ctype → Bool
flexible_within w zero t = false
flexible_within w (suc depth) (StructureOf tag) = members_flexible last_lacks_length (w.members tag)
flexible_within w (suc depth) (UnionOf tag) =
    members_flexible (some_flexible (flexible_within w depth)) (w.members tag)
flexible_within w (suc depth) t = false

abbrev pub ends_flexible : World → Ctype → Bool
ends_flexible w t = flexible_within w (suc w.tags) t
