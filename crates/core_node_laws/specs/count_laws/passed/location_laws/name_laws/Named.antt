pub use Rattle.linked_laws.specs.location_laws.name_laws.Named.{AreMembers, IsText}
