pub use Rattle.c_consts.specs.Operators.{NoForm, OutOfRange, ZeroDivisor}
