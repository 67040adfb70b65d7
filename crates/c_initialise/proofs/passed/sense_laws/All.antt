pub use Rattle.parsed_tree_laws.proofs.sense_laws.All.{senses_sound, asked_sound, first_fits, weaker_outcome}
