pub use Rattle.core_node_laws.proofs.built_unit_laws.lasting_literals.Lasting.{literals_last}
