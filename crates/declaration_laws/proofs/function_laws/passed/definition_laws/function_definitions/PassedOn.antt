pub use Rattle.declaration_laws.proofs.definition_laws.function_definitions.PassedOn.{HasOrigin, origin, origins, nodes, Tree, tree_is}
