-- What is found of known declarations without a look through their list.
use Rattle.std.specs.Prelude.{ℕ, ◌≡◌, ◌<◌, Bool, List, get_or, Option, Some, None, is_some, slice_index}
use Rattle.c_types.specs.Table.{Table, type_of, IsNowhere}
use Rattle.c_inits.specs.Tables.{tagged}
use Rattle.tree_reads.specs.leaf_maps.Numbers.{number_at}
use Rattle.c_senses.specs.Tree.{Source}
use Rattle.c_senses.specs.Tags.{tag_declared, is_union}
use Rattle.c_check.specs.declared.known_tags.known.Meaning.{Meaning}
use Rattle.c_check.specs.declared.known_tags.given.Given.{Given}
use Rattle.c_check.specs.known_tags.Known.{known_at, entity_known, tag_known}

pub record AreGiven (g : Given) (list : List (ℕ × Meaning)) : Type 0 where
  pub seen : (node : ℕ) → is_some (number_at g.seen node) ≡ is_some (known_at list node)
  pub entities : (node : ℕ) → number_at g.entities node ≡ entity_known list node
  pub tags : (node : ℕ) → number_at g.tags node ≡ tag_known list node

-- the number of the type of a tag's number in a table
abbrev pub IsTypeId : Table → Bool → ℕ → Option ℕ → Type 0
IsTypeId table is_union tag None = IsNowhere table (tagged is_union tag)
IsTypeId table is_union tag (Some id) = type_of table id ≡ tagged is_union tag

abbrev pub IsIdOf : Table → Bool → Option ℕ → Option ℕ → Type 0
IsIdOf table is_union None id = id ≡ None
IsIdOf table is_union (Some tag) id = IsTypeId table is_union tag id

-- the same of the tags of some first specifiers, in order
abbrev pub AreIdsOf : Source → List (ℕ × Meaning) → Table → List ℕ → ℕ → List (Option ℕ) → Type 0
AreIdsOf s list table firsts count ids =
    (k : ℕ)
    → k < count
    → IsIdOf table (is_union s (slice_index firsts k))
    (tag_known list (tag_declared s (slice_index firsts k))) (get_or ids k None)
