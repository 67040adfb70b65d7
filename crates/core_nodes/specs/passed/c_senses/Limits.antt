pub use Rattle.c_senses.specs.Limits.{within_limits, is_small, ends_flexible, is_array_type, is_function_type}
pub use Rattle.c_senses.specs.Limits.{lacks_a_length, last_lacks_length, all_within_limits}
