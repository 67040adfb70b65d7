pub use Rattle.core_node_laws.specs.standing_laws.Standing.{IsGrown}
