pub use Rattle.valid_unit_laws.proofs.object_initialiser_laws.all_listed.PassedOn.{initialisers_owned}
