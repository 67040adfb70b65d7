pub use Rattle.declaration_laws.specs.declared_type_laws.declared_leaves.Leaves.{IsNamed, Own, Inner, IsDeclaredBy}
