pub use Rattle.c_grammar.specs.Terminals.{contains, own_meaning, own_words, spelled}
