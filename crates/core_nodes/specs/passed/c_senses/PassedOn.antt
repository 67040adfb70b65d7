pub use Rattle.c_senses.specs.PassedOn.{Core}
