pub use Rattle.c_consts.specs.Answer.{Found, Value, Fails, answer}
