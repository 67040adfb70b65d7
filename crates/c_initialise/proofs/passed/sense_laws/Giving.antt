pub use Rattle.parsed_tree_laws.proofs.sense_laws.Giving.{then_gives, if_given, and_left, and_right}
