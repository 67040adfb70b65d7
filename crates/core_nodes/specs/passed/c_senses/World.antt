pub use Rattle.c_senses.specs.World.{World, Meaning, Object, Function, TypeName, Tag, Value, extent, has_size}
pub use Rattle.c_senses.specs.World.{same_type, members_of, way_to, or_else}
