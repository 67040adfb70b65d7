-- Nodes of an expression that stand for what their only part stands for (C11 6.5.3 to 6.5.17): those of a level of
-- operators without one.
use Rattle.std.specs.Prelude.{ℕ, ◌≡◌, ◌≤◌, false, [], ◌∷◌}
use Rattle.c_grammar.specs.Productions.{p_expression, p_unary}
use Rattle.c_senses.specs.Tree.{Source, production_at, children_at, is_leaf}

pub record PassesOn (s : Source) (at part : ℕ) : Type 0 where
  pub above : p_expression ≤ production_at s at
  pub below : production_at s at ≤ p_unary
  pub alone : children_at s at ≡ part ∷ []
  pub inner : is_leaf s part ≡ false
