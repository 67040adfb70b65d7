-- What external declarations, blocks and statements of a parsed tree stand in (C11 6.8, 6.9).
use Rattle.std.specs.Prelude.{ℕ, ◌≡◌, true, false, ◌||◌}
use Rattle.c_lexer.specs.declared.Tokens.{Tokens}
use Rattle.c_grammar.specs.declared.trees.Tree.{Tree}
use Rattle.c_grammar.specs.Productions.{p_unit, p_external, p_rest, p_declaration, p_block, p_statement}
use Rattle.c_grammar.specs.Terminals.{contains}
use Rattle.parsed_tree_laws.specs.placed_laws.PassedOn.{IsUnit}
use Rattle.parsed_tree_laws.specs.placed_laws.PassedOn.{source_of, numbered}
use Rattle.parsed_tree_laws.specs.placed_laws.PassedOn.{Source, is_a, children_at}

-- an external declaration is a part of the root alone, which is a part of nothing; the rest of a declaration is one
-- of an external declaration or of a declaration; a block is one of an external declaration or of a statement; and
-- a declaration and a statement are parts of a block or of a statement
pub record Nested (s : Source) : Type 0 where
  pub units : (i c : ℕ) → contains (children_at s i) c ≡ true → is_a s p_unit c ≡ false
  pub externals : (i c : ℕ)
      → contains (children_at s i) c ≡ true
      → is_a s p_external c ≡ true
      → is_a s p_unit i ≡ true
  pub rests : (i c : ℕ)
      → contains (children_at s i) c ≡ true
      → is_a s p_rest c ≡ true
      → (is_a s p_external i || is_a s p_declaration i) ≡ true
  pub declarations : (i c : ℕ)
      → contains (children_at s i) c ≡ true
      → is_a s p_declaration c ≡ true
      → (is_a s p_block i || is_a s p_statement i) ≡ true
  pub blocks : (i c : ℕ)
      → contains (children_at s i) c ≡ true
      → is_a s p_block c ≡ true
      → (is_a s p_external i || is_a s p_statement i) ≡ true
  pub statements : (i c : ℕ)
      → contains (children_at s i) c ≡ true
      → is_a s p_statement c ≡ true
      → (is_a s p_block i || is_a s p_statement i) ≡ true

-- so it is in each unit that is read, whatever the numbers of tags are
abbrev pub UnitsNest : Type 0
UnitsNest =
    (tokens : Tokens) (unit : ℕ) (tree : Tree) (tag_number : ℕ → ℕ)
    → IsUnit tokens unit tree
    → Nested (numbered tag_number (source_of tokens tree))
