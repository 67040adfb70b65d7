-- What the declarations of a unit say around a node (C11 6.2.1, 6.4.2.2, 6.6, 6.7.9p4).
use Rattle.std.specs.Prelude.{ℕ, ◌≡◌, Bool, not, ◌&&◌, option_map}
use Rattle.c_senses.specs.Tree.{Source, spelling_at}
use Rattle.c_senses.specs.World.{World}
use Rattle.c_senses.specs.Sense.{Sense}
use Rattle.c_senses.specs.Entities.{meaning_at, storage_of, is_automatic_storage, is_in_static, function_around}
use Rattle.c_senses.specs.Entities.{further_of}

-- in the initialiser of an object that lasts for the whole run no automatic object may be named, and no function
-- called
abbrev pub may_name_at : Source → (ℕ → Sense) → ℕ → ℕ → Bool
may_name_at s sense i entity =
    not (is_in_static s sense i && is_automatic_storage s sense (storage_of s sense entity))

-- what a world says of names, of calls and of the function around a node, is what the declarations before the node
-- say
pub record IsWorldAt (w : World) (s : Source) (sense : ℕ → Sense) (i : ℕ) : Type 0 where
  pub meaning : (leaf : ℕ) → w.meaning leaf ≡ meaning_at s sense leaf
  pub may_name : (entity : ℕ) → w.may_name entity ≡ may_name_at s sense i entity
  pub may_call : w.may_call ≡ not (is_in_static s sense i)
  pub own_name : w.own_name ≡ option_map (spelling_at s) (function_around s sense i)
  pub further : (v : World) (leaf : ℕ) → w.further leaf ≡ further_of v s sense leaf
