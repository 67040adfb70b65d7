-- Laws of the rows of structures and unions.
use Rattle.std.specs.Prelude.{ℕ, ◌≡◌, List, ◌⊎◌}
use Rattle.pta_base.specs.declared.kind.Kind.TheVariants.{NotBuilt}
use Rattle.core_tree.specs.declared.node.Unit.{Unit}
use Rattle.c_inits.specs.Made.{TagParts}
use Rattle.c_senses.specs.Tree.{Source}
use Rattle.c_senses.specs.World.{World}
use Rattle.c_senses.specs.Given.{Refuses}
use Rattle.c_senses.specs.Sense.{Sense}
use Rattle.c_senses.specs.Tags.{struct_row}
use Rattle.unit_worlds.specs.Growing.{Grows}
use Rattle.struct_rows.specs.Built.{built_struct, HasTagTypes}

-- a built row is the whole row, or is NotBuilt at its node
abbrev pub StructIsPart : Type 0
StructIsPart =
    (w : World) (s : Source) (sense : ℕ → Sense) (at : ℕ)
    → (built_struct w s sense at ≡ struct_row w s sense at) ⊎ (built_struct w s sense at ≡ Refuses NotBuilt at)

-- types of tags stay while a unit grows
abbrev pub TagTypesKept : Type 0
TagTypesKept =
    (s : Source) (old new : Unit) (completed : List TagParts)
    → Grows old new completed
    → HasTagTypes s old.types
    → HasTagTypes s new.types
