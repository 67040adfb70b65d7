pub use Rattle.declaration_laws.proofs.definition_laws.linkage_laws.Roles.{open_by, opens, role_handed, declared_specs, list_is, ByDeclarator, declares}
