pub use Rattle.pta_base.specs.declared.kind.Kind.TheVariants.{Constant, ConstantRange, DivideByZero, Operand}
pub use Rattle.pta_base.specs.declared.kind.Kind.TheVariants.{NumberToPointer, StructureCast, IntegerSizeCast}
pub use Rattle.pta_base.specs.declared.kind.Kind.TheVariants.{CharacterCast, Floating, Builtin, Vla}
pub use Rattle.pta_base.specs.declared.kind.Kind.TheVariants.{InlineDefinition, VariadicDefinition, Initialiser}
pub use Rattle.pta_base.specs.declared.kind.Kind.TheVariants.{ArrayOfValue, FlexibleMember}
