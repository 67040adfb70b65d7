-- Items of a list that is held in one way or another.
use Rattle.std.specs.Prelude.{ℕ, List}

pub record Items : Type 0 where
  pub items : List ℕ
