-- What this crate passes on, from those below it to those above it.
pub use Rattle.c_conversions.proofs.passed.core_nodes.Reading.{core_is}
