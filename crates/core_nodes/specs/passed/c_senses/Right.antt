pub use Rattle.c_senses.specs.Right.{Numbering, Declared, IsDeclaredAt, IsEntityOf, IsBody, StandsBy, SameBody}
pub use Rattle.c_senses.specs.Right.{core_of_sense, block_for, body_at, of_internal, is_definition_at, is_tentative}
pub use Rattle.c_senses.specs.Right.{representative, storage_at, declared_as, declares_entity, entity_type}
pub use Rattle.c_senses.specs.Right.{SameKind, AllStandBy}
