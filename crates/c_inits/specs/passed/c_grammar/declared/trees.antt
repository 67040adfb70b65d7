pub mod SyntaxNode
pub mod Tree
