pub use Rattle.valid_unit_laws.specs.object_size_laws.function_storage.Stored.{StoresFunctions}
