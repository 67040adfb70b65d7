-- What this crate passes on, from those below it to those above it.
pub use Rattle.valid_unit_laws.specs.object_size_laws.object_sizes.Sized.{Complete, IsSizedType, Open, Sized, TypeSized}
