pub use Rattle.c_grammar.specs.declared.trees.Tree.{Tree}
