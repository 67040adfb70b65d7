-- The names of members, kept as a set.
use Rattle.std.specs.Prelude.{ℕ, ◌≡◌, Bool, List, length, nat_lt}
use Rattle.std.specs.Str.{bytes_eq}
use Rattle.std.specs.BTreeSet.{BTreeSet}
use Rattle.std.specs.List.{list_any}
use Rattle.std.specs.Global.{Vec}
use Rattle.c_inits.specs.Made.{Part}
use Rattle.c_senses.specs.Tree.{Source}
use Rattle.c_senses.specs.World.{World}
use Rattle.c_senses.specs.Sense.{Sense}
use Rattle.c_senses.specs.Tags.{has_part_named}
use Rattle.c_structures.specs.declared.names.MemberNames.{MemberNames}

abbrev pub same_name : List ℕ → List ℕ → Bool
same_name own name = bytes_eq own name

-- a name is in a set
abbrev pub is_among : BTreeSet (Vec ℕ) → List ℕ → Bool
is_among set name = list_any (λ k. bytes_eq name k.items) set.keys

-- these are the names of some members
pub record SaysNames (names : MemberNames) (parts : List Part) : Type 0 where
  pub named : (w : World) (s : Source) (sense : ℕ → Sense) (name : List ℕ)
      → is_among names.names name ≡ has_part_named w s sense name parts
  pub any_are : names.any ≡ nat_lt 0 (length parts)
