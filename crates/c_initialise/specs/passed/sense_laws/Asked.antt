pub use Rattle.parsed_tree_laws.specs.sense_laws.Asked.{OutcomeStands, FirstFits, InitialAsks, AskedFit}
