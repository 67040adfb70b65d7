-- What this crate passes on, from those below it to those above it.
pub use Rattle.valid_unit_laws.proofs.object_size_laws.object_sizes.Sizes.{found_above, has_type, objects_sized}
