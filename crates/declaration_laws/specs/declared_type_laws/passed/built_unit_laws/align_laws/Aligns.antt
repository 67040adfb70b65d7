pub use Rattle.core_node_laws.specs.built_unit_laws.align_laws.Aligns.{AskedElseFit}
