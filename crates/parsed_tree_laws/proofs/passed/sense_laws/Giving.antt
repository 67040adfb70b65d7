pub use Rattle.parsed_tree_laws.proofs.sense_laws.Giving.{then_gives, and_left, and_right, if_given, some_given, if_holds}
