pub use Rattle.c_types.specs.declared.term.Form.{Form}
pub mod TheVariants
