pub use Rattle.c_consts.specs.Wrapped.{converted, IsHeld, low_of, wrapped}
