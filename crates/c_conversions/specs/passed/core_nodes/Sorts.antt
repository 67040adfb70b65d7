pub use Rattle.core_nodes.specs.Sorts.{bits_of}
