-- Which tags are told, before the tree of an expression is carried.
use Rattle.std.specs.Prelude.{ℕ, ◌≡◌, ◌<◌, ◌||◌, ◌&&◌, Bool, false, List, Option, Some, None, get_or, is_some, is_none}
use Rattle.c_types.specs.Table.{Table, members_in}
use Rattle.c_senses.specs.Tree.{Source}
use Rattle.c_senses.specs.Tags.{tag_declared}
use Rattle.c_check.specs.declared.known_tags.known.Meaning.{Meaning}
use Rattle.c_check.specs.known_tags.Known.{tag_known}
use Rattle.c_check.specs.known_tags.Own.{is_own_first, id_at}

-- a known tag has no members in a table
abbrev pub lacks_members : Table → Option ℕ → Bool
lacks_members table None = false
lacks_members table (Some tag) = is_none (members_in table tag)

-- The first so many tags, by the numbers of the types that are known in a table: marked are those that are the
-- expression's own or whose type is known, and flagged those of them that have no members there.
pub record AreTold (s : Source) (first : ℕ → ℕ) (node : ℕ) (list : List (ℕ × Meaning)) (table : Table)
    (known : List (Option ℕ)) (count : ℕ) (marks : List (Option ℕ)) (incomplete : List Bool) : Type 0 where
  pub marked : (k : ℕ)
      → k < count
      → is_some (id_at marks k) ≡ (is_own_first s node list (first k) || is_some (id_at known k))
  pub flagged : (k : ℕ)
      → k < count
      → get_or incomplete k false
      ≡ (is_own_first s node list (first k)
      || (is_some (id_at known k) && lacks_members table (tag_known list (tag_declared s (first k)))))
