-- What names mean in a unit.
use Rattle.std.specs.Prelude.{ℕ, ◌≡◌, ◌<◌, ⊤, Bool, List, length, Option, Some, None, option_map}
use Rattle.c_types.specs.Table.{type_of}
use Rattle.core_tree.specs.declared.node.Unit.{Unit}
use Rattle.c_senses.specs.World as world
use Rattle.c_senses.specs.Entities.{declared_meaning, entity_of, own_type}
use Rattle.c_results.specs.declared.made.Made.{Made}
use Rattle.tree_reads.specs.declared.syntax.Syntax.{Syntax}
use Rattle.tree_reads.specs.Sources.{source_in}
use Rattle.c_entities.specs.remembered_names.Remembering.{named}
use Rattle.c_meanings.specs.Later.{later}
use Rattle.c_meanings.specs.declared.meanings.Meaning.{Meaning}
use Rattle.c_meanings.specs.declared.meanings.Meaning.TheVariants.{Object, Function, TypeName, Value}

-- a meaning with its type in the unit's table
abbrev pub meaning_seen : Unit → Option Meaning → Option world.Meaning
meaning_seen u None = None
meaning_seen u (Some (Object entity ty)) = Some (world.Object entity (type_of u.types ty.0))
meaning_seen u (Some (Function entity ty)) = Some (world.Function entity (type_of u.types ty.0))
meaning_seen u (Some (TypeName ty)) = Some (world.TypeName (type_of u.types ty.0))
meaning_seen u (Some (Value n)) = Some (world.Value n)

-- its type is the table's
abbrev pub IsMeaningWithin : Unit → Option Meaning → Type 0
IsMeaningWithin u None = ⊤
IsMeaningWithin u (Some (Object entity ty)) = ty.0 < length u.types.terms
IsMeaningWithin u (Some (Function entity ty)) = ty.0 < length u.types.terms
IsMeaningWithin u (Some (TypeName ty)) = ty.0 < length u.types.terms
IsMeaningWithin u (Some (Value n)) = ⊤

-- the own type of a declaration gives a name its meaning, whatever more is made
abbrev pub IsMeantBy : Syntax → List Made → Bool → ℕ → ℕ → Type 0
IsMeantBy syntax results is_type leaf by =
    (u : Unit) (uses : List (ℕ × ℕ)) (more : List Made) →
    declared_meaning (source_in syntax uses) (later u results more) leaf
    ≡ option_map
    (named (source_in syntax uses) (later u results more) is_type
    (entity_of (source_in syntax uses) (later u results more) leaf))
    (own_type (source_in syntax uses) (later u results more) by)
