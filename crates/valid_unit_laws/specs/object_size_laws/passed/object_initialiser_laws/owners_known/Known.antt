pub use Rattle.valid_unit_laws.specs.object_initialiser_laws.owners_known.Known.{OwnersRight}
