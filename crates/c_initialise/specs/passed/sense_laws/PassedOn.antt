pub use Rattle.parsed_tree_laws.specs.sense_laws.PassedOn.{core_at, cores_at, IsReady}
