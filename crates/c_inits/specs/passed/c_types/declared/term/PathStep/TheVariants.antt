pub use Rattle.c_types.specs.declared.term.PathStep.TheVariants.{Index, Member}
