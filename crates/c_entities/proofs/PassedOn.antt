-- What this crate passes on, from those below it to those above it.
pub use Rattle.c_declarators.proofs.Stepping.{declarator_found, declarator_none, declarator_passed, name_is}
pub use Rattle.c_declarators.proofs.Placing.{and_else, and_then, defined_is, next_is, nothing_none, nothing_some}
