pub use Rattle.declaration_laws.specs.definition_laws.linkage_laws.Linked.{StandsLinked}
