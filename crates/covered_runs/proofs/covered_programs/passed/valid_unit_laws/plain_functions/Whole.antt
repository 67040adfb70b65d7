pub use Rattle.valid_unit_laws.proofs.plain_functions.Whole.{functions_plain}
