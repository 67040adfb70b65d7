pub use Rattle.c_senses.specs.Given.{Given, Fits, Refuses, ◌>>=◌, given_if, given_some}
