-- Items of a list that is held behind a pointer.
use Rattle.std.specs.Prelude.{List}

pub record Listed (A : Type 0) : Type 0 where
  pub items : List A
