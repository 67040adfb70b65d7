pub use Rattle.declaration_laws.proofs.definition_laws.own_initialisers.Parts.{MaybeInit, Absent, Present, MaybeAsm, NoAsm, Asm, Further, Over, Next, IsRestList, Begins, rest_list, mark, IsNaming, Naming, IsOther, Assert, Alone, Body, external_list}
