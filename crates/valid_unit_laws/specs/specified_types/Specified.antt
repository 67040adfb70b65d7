-- Where the structures and unions of a table come from.
use Rattle.std.specs.Prelude.{ℕ, ◌≡◌, ◌<◌, true}
use Rattle.c_types.specs.Table.{Table}
use Rattle.c_types.specs.Made.{IsMade, AreNamed}
use Rattle.c_senses.specs.Tree.{Source}
use Rattle.c_senses.specs.Right.{is_tag}
use Rattle.struct_rows.specs.Built.{HasTagTypes}
use Rattle.core_node_laws.specs.built_unit_laws.tag_sizes.Sizes.{TagsSpecified}

abbrev pub TypesSpecified : Type 0
TypesSpecified =
    (s : Source) (table : Table)
    → HasTagTypes s table
    → IsMade table
    → AreNamed table
    → ((t : ℕ) → t < table.tags → (d : ℕ) × (is_tag s d ≡ true) × (s.tag_number d ≡ t))
    → TagsSpecified s table
