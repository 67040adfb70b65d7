pub use Rattle.c_grammar.specs.declared.trees.SyntaxNode.{SyntaxNode}
