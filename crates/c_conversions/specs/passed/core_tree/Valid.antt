pub use Rattle.core_tree.specs.Valid.{InRow, Under, entity_at, InRows, IsStaticEntity, IsFixed, here, below}
pub use Rattle.core_tree.specs.Valid.{child_in, IsNumber, MakesNumber, FixedNumber, FixedPlace, FixedPointer, plain}
pub use Rattle.core_tree.specs.Valid.{made, text, function, object, literal, member, target, null, address, decay}
pub use Rattle.core_tree.specs.Valid.{upcast, converted, moved}
