-- Specifiers that may declare a tag.
use Rattle.std.specs.Prelude.{ℕ, Bool, ◌||◌}
use Rattle.c_grammar.specs.Productions.{p_struct, p_enum}
use Rattle.c_senses.specs.Tree.{Source, is_a}

-- a node is the specifier of a structure, a union or an enumeration
abbrev pub is_specifier : Source → ℕ → Bool
is_specifier s i = is_a s p_struct i || is_a s p_enum i
