pub use Rattle.linked_laws.specs.location_laws.name_shapes.Bytes.{is_unit_byte, IsMadeOf}
