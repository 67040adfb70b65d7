-- What is known of the tag of a specifier before the rows: its number, and whether the specifier may stand.
use Rattle.std.specs.Prelude.{ℕ, List, ◌≡◌}
use Rattle.c_senses.specs.Tree.{Source}
use Rattle.c_senses.specs.Tags.{tag_of, tag_fits}
use Rattle.c_senses.specs.Names.{numbered}
use Rattle.tree_reads.specs.declared.syntax.Syntax.{Syntax}
use Rattle.tree_reads.specs.Sources.{source_in}
use Rattle.c_tags.specs.declared.specifiers.SeenTag.{SeenTag}

-- the source of a unit's tokens and tree, with numbers of tags
abbrev pub source_numbered : Syntax → List (ℕ × ℕ) → (ℕ → ℕ) → Source
source_numbered syntax uses tag_number = numbered tag_number (source_in syntax uses)

pub record IsSeen (s : Source) (at : ℕ) (tag : SeenTag) : Type 0 where
  pub number : tag.number ≡ tag_of s at
  pub fits : tag.fits ≡ tag_fits s at
