pub use Rattle.declaration_laws.proofs.definition_laws.linkage_laws.Roles.{role_handed, declared_specs, opens}
