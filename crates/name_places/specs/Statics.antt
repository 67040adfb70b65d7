-- The declarator before an initialiser.
use Rattle.std.specs.Prelude.{ℕ, Bool, ◌&&◌, nat_lt}
use Rattle.c_grammar.specs.Productions.{p_declarator}
use Rattle.c_senses.specs.Tree.{Source, is_a}

abbrev pub is_declarator_before : Source → ℕ → ℕ → Bool
is_declarator_before s init c = is_a s p_declarator c && nat_lt c init
