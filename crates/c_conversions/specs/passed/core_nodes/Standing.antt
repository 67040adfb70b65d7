pub use Rattle.core_nodes.specs.Standing.{IsReady, Knows, core_at, cores_at}
