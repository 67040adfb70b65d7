pub use Rattle.declaration_laws.specs.function_laws.body_laws.Bodies.{BodiesInitialise, BodiesApart}
