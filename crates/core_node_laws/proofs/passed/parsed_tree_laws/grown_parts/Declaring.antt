pub use Rattle.parsed_tree_laws.proofs.grown_parts.Declaring.{AllIn, IsDeclarationList, Asserts, Alone, Names, NamesAsm, declaration_list, rest_parts, rest_list}
