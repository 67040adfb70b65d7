pub use Rattle.declaration_laws.proofs.definition_laws.single_initialisers.Parts.{member, Holds, in_rest, in_other, holder, inner_holder, item_in, no_declarator_in}
