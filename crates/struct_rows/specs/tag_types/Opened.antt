-- A table whose types are some structures and unions, each under its tag.
use Rattle.std.specs.Prelude.{ℕ, ◌≡◌, ◌<◌, Bool, true, false, [], Some, length, slice_get, slice_index}
use Rattle.c_types.specs.declared.term.Term.{Term}
use Rattle.c_types.specs.declared.term.Term.TheVariants.{Structure, Union}
use Rattle.c_types.specs.Table.{Table, type_of}
use Rattle.c_inits.specs.Tables.{tagged}
use Rattle.c_senses.specs.Tags.{is_union}
use Rattle.tree_reads.specs.Sources.{source_read}
use Rattle.c_tags.specs.declared.tag_numbers.tags.Numbered.{Numbered}

-- whether a tag has the keyword `union`, by its first specifier
abbrev pub is_tag_union : Numbered → ℕ → Bool
is_tag_union numbered tag = is_union (source_read numbered.syntax) (slice_index numbered.tags.firsts.items tag)

abbrev pub tag_term : Bool → ℕ → Term
tag_term true tag = Union tag
tag_term false tag = Structure tag

-- no tag is complete, and the terms are those of the tags, in order
pub record IsOpened (numbered : Numbered) (table : Table) : Type 0 where
  pub none_complete : table.completed ≡ []
  pub count : length table.terms ≡ table.tags
  pub terms : (n : ℕ) → n < table.tags → slice_get table.terms n ≡ Some (tag_term (is_tag_union numbered n) n)
  pub types : (n : ℕ) → n < table.tags → type_of table n ≡ tagged (is_tag_union numbered n) n
