pub use Rattle.c_senses.specs.Nulls.{is_null, is_void_pointer, is_null_pointer, is_zero_found}
