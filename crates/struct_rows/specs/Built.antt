-- Rows of structures and unions, as far as they are built (C11 6.7.2.1, 6.7.2.3).
use Rattle.std.specs.Prelude.{ℕ, ◌≡◌, Bool, true, false, ◌==◌, ◌&&◌, not, nat_lt, List, length, Option, Some, None}
use Rattle.std.specs.Prelude.{is_none, is_some}
use Rattle.pta_base.specs.declared.kind.Kind.TheVariants.{Operand, NotBuilt}
use Rattle.c_grammar.specs.Productions.{p_struct, p_members}
use Rattle.c_types.specs.Table.{Table, type_of}
use Rattle.c_inits.specs.Made.{Part}
use Rattle.c_inits.specs.Tables.{tagged}
use Rattle.c_senses.specs.Tree.{Source, is_a, first_where, child_of, all_nodes}
use Rattle.c_senses.specs.World.{World, extent, same_type}
use Rattle.c_senses.specs.Given.{Given, Fits, given_if}
use Rattle.c_senses.specs.Sense.{Sense, IsType}
use Rattle.c_senses.specs.Limits.{is_small}
use Rattle.c_senses.specs.Tags.{tag_of, tag_fits, is_union, named_tag, laid, members_in_sense, struct_type}
use Rattle.c_results.specs.Parts.{parts_in}
use Rattle.struct_rows.specs.Taken.{takes}

-- both, or neither
abbrev pub agree : Bool → Bool → Bool
agree true b = b
agree false b = not b

module _ (s : Source) where
  -- the first specifier of the structure or union of a number
  abbrev pub is_of_tag : ℕ → ℕ → Bool
  is_of_tag n i = is_a s p_struct i && (tag_of s i == n)

  abbrev pub first_specifier : ℕ → Option ℕ
  first_specifier n = first_where (is_of_tag n) (all_nodes s)

  abbrev pub union_by : Option ℕ → Bool
  union_by None = false
  union_by (Some i) = is_union s i

  -- whether it has the keyword `union`
  abbrev pub first_is_union : ℕ → Bool
  first_is_union n = union_by (first_specifier n)

-- the type of that number is the structure or union of the tag of that number
abbrev pub stands_as : Table → ℕ → Bool → Bool
stands_as table number is_union =
    nat_lt number (length table.terms) && same_type (type_of table number) (tagged is_union number)

-- each tag of a source has its type under its number, with the keyword of its first specifier
pub record HasTagTypes (s : Source) (table : Table) : Type 0 where
  pub each : (i : ℕ)
      → is_a s p_struct i ≡ true
      → stands_as table (tag_of s i) (first_is_union s (tag_of s i)) ≡ true

module _ (w : World) where
  -- a tag without members may be completed with some that may stand in their places
  abbrev pub may_complete : ℕ → Bool → List Part → Bool
  may_complete tag is_union parts = is_none (w.members tag) && takes (extent w) is_union true parts

  -- the type of a tag that is completed with some members
  abbrev pub completed_row : (at tag : ℕ) → Bool → List Part → Given Sense
  completed_row at tag is_union parts =
      given_if (may_complete tag is_union parts) NotBuilt at
      (given_if (is_small (Some (laid w is_union (tagged is_union tag) parts))) Operand at
      (Fits (IsType (tagged is_union tag))))

module _ (w : World) (s : Source) (sense : ℕ → Sense) where
  -- a list has members that may complete the tag of a specifier
  abbrev pub list_fits : ℕ → ℕ → Bool
  list_fits at list =
      is_some (parts_in (sense list))
      && may_complete w (tag_of s at) (is_union s at) (members_in_sense w s sense (sense list))

  abbrev pub built_type : ℕ → Option ℕ → Given Sense
  built_type at None = struct_type w s sense at None
  built_type at (Some list) = given_if (list_fits at list) NotBuilt at (struct_type w s sense at (Some list))

  -- the row of a structure or union, where its keyword is that of its tag's first specifier and its list may
  -- complete the tag
  abbrev pub built_struct : ℕ → Given Sense
  built_struct at =
      given_if (tag_fits s at) Operand (named_tag s at)
      (given_if (agree (is_union s at) (first_is_union s (tag_of s at))) NotBuilt at
      (built_type at (child_of s p_members at)))
