pub use Rattle.declaration_laws.specs.function_laws.function_bodies.Bodies.{FunctionFits}
