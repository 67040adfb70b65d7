pub use Rattle.core_nodes.proofs.Reading.{core_is, sort_is, type_is, kind_is}
