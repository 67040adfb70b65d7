pub use Rattle.valid_unit_laws.proofs.object_initialiser_laws.owners_known.Known.{owners_known}
