pub use Rattle.c_senses.specs.Sense.{Sense, IsCore, IsDeclarator, IsRun, IsInitial, sense_in, Nothing, core_of}
pub use Rattle.c_senses.specs.Sense.{value_in, type_of_sense, last_of, Parameter, Derivation, IsType, IsDerivation}
pub use Rattle.c_senses.specs.Sense.{IsParameter, IsMembers, IsValue, fits, IsSpecified, Specified, Elements}
pub use Rattle.c_senses.specs.Sense.{Returning, Pointing}
