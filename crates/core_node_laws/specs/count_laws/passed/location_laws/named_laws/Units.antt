pub use Rattle.linked_laws.specs.location_laws.named_laws.Units.{IsLocalOf, HasFunction, IsNamedUnit, IsNarrow}
pub use Rattle.linked_laws.specs.location_laws.named_laws.Units.{SamePlace}
