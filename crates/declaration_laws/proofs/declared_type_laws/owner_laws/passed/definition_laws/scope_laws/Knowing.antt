pub use Rattle.declaration_laws.proofs.definition_laws.scope_laws.Knowing.{In, every_at, S, IsNameMade, IsTagMade, IsUseOf, IsKnown, no_tag, all_known, paired_in, one_maker, made_below}
