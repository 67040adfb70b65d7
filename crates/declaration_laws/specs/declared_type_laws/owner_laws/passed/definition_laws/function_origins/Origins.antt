pub use Rattle.declaration_laws.specs.definition_laws.function_origins.Origins.{In, IsFunctionBy, Listed, Typed}
