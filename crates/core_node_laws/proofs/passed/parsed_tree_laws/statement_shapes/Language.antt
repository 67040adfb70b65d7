pub use Rattle.parsed_tree_laws.proofs.statement_shapes.Language.{Word, IsIn, words_in, part_words, IsTaken, IsNode, Matches, Good, AllGood, all_read}
