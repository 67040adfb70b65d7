pub use Rattle.declaration_laws.proofs.definition_laws.function_definitions.Shapes.{IsIdent, IsSign, IsQuiet, star, qualifier, IsListed, AllQuiet, IsBare, bare, HasBare, ident, inner, IsFunction, own, deep, Heads}
