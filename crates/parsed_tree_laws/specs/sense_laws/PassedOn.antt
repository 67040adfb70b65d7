-- What this crate passes on, from those below it to those above it.
pub use Rattle.c_conversions.specs.passed.core_nodes.Standing.{IsReady, core_at, cores_at}
