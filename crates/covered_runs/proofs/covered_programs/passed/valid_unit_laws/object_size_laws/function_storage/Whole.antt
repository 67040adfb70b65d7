pub use Rattle.valid_unit_laws.proofs.object_size_laws.function_storage.Whole.{functions_stored}
