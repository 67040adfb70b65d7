-- What this crate passes on, from those below it to those above it.
pub use Rattle.declaration_laws.proofs.declared_type_laws.agreed_internals.Lists.{SplitAt, behind_front, found_at, in_kept, split_at}
pub use Rattle.declaration_laws.proofs.declared_type_laws.agreed_internals.Entities.{OfInternal, entry_at}
pub use Rattle.declaration_laws.proofs.declared_type_laws.agreed_internals.Agreeing.{internals_agree}
pub use Rattle.declaration_laws.proofs.declared_type_laws.object_types.Typing.{is_named, linkage_plain}
