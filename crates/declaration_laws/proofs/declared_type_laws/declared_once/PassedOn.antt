-- What this crate passes on, from those below it to those above it.
pub use Rattle.declaration_laws.proofs.declared_type_laws.settled_types.Initial.{plain_list, rest_init}
pub use Rattle.declaration_laws.proofs.declared_type_laws.settled_types.Settling.{types_settled}
