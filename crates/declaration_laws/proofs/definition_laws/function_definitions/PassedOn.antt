-- What this crate passes on, from those below it to those above it.
pub use Rattle.declaration_laws.proofs.definition_laws.linkage_laws.Seen.{nodes, parent_holds, parent_is}
pub use Rattle.declaration_laws.proofs.definition_laws.linkage_laws.Origins.{HasOrigin, origin, origins}
pub use Rattle.declaration_laws.proofs.definition_laws.linkage_laws.Linked.{Tree}
pub use Rattle.declaration_laws.proofs.definition_laws.linkage_laws.Reading.{tree_is}
