pub use Rattle.c_types.specs.declared.term.PathStep.{PathStep}
pub mod TheVariants
