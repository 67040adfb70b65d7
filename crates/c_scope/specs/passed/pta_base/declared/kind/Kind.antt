pub use Rattle.pta_base.specs.declared.kind.Kind.{Kind}
pub mod TheVariants
