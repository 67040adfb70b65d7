pub use Rattle.core_nodes.specs.Once.{HasOnce}
pub use Rattle.core_nodes.specs.Standing.{Builds, core_at, parts_in, Knows}
