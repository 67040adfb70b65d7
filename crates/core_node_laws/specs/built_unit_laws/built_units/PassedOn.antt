-- What this crate passes on, from those below it to those above it.
pub use Rattle.unit_finish.specs.unit_parts.Uses.{earlier, is_before, is_use, least_use, used_by}
