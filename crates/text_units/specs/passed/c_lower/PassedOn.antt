pub use Rattle.c_lower.specs.PassedOn.{HasTags}
