-- What this crate passes on, from those below it to those above it.
pub use Rattle.declaration_laws.proofs.declared_type_laws.plain_names.Later.{Grown, Later, derived_later, initialiser_for_same, known_later, own_later}
pub use Rattle.declaration_laws.proofs.declared_type_laws.plain_names.Fitting.{SomeFits, found_node, meaning_fits, no_value, plain_names_fit}
pub use Rattle.declaration_laws.proofs.declared_type_laws.declared_leaves.Climbing.{leaves_declared, outermost_is}
