pub use Rattle.c_grammar.specs.Reads.{leaf}
