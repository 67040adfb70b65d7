-- Of what parts the statements of a parsed tree consist (C11 6.8).
use Rattle.std.specs.Prelude.{ℕ, ◌≡◌, ◌<◌, ◌≤◌, Bool, true, ◌||◌, List, [], ◌∷◌, Option, Some, None, slice_get}
use Rattle.std.specs.Prelude.{if◌then◌else◌}
use Rattle.c_lexer.specs.declared.Tokens.{Tokens}
use Rattle.c_grammar.specs.declared.trees.Tree.{Tree}
use Rattle.c_grammar.specs.Terminals.{contains}
use Rattle.c_grammar.specs.Productions.{p_block, p_statement, p_expression}
use Rattle.c_grammar.specs.Words.{word_case, word_default, word_switch, word_while, word_do, word_for, word_goto}
use Rattle.c_grammar.specs.Words.{word_continue, word_break, word_return, sign_semicolon}
use Rattle.c_parser.specs.c_units.Units.{IsUnit}
use Rattle.c_senses.specs.Names.{source_of, numbered}
use Rattle.c_senses.specs.Tree.{Source, is_a, is_leaf, is_name, has_sign, has_word, word_at, children_at}
use Rattle.parsed_tree_laws.specs.counted_parts.Counted.{count}

-- a statement or a block
abbrev pub is_part : Source → ℕ → Bool
is_part s c = is_a s p_statement c || is_a s p_block c

-- so many parts of a statement are statements or blocks, at most, by the word that begins it
abbrev pub of_word : Option ℕ → ℕ
of_word None = 2
of_word (Some word) =
    if contains (word_goto ∷ word_continue ∷ word_break ∷ word_return ∷ []) word then 0
    else if contains (word_case ∷ word_default ∷ word_switch ∷ word_while ∷ word_do ∷ word_for ∷ []) word then 1
    else 2

-- and by its first part
abbrev pub allowed : Source → ℕ → ℕ
allowed s first =
    if is_leaf s first
    then
    (if has_sign s sign_semicolon first then 0 else if is_name s first then 1
    else of_word (word_at s first))
    else if is_a s p_expression first then 0
    else 1

pub record ShapedStatements (s : Source) : Type 0 where
  pub parts : (i first : ℕ) (rest : List ℕ)
      → is_a s p_statement i ≡ true
      → children_at s i ≡ first ∷ rest
      → count s (is_part s) i ≤ allowed s first
  pub blocks : (i first : ℕ) (rest : List ℕ)
      → is_a s p_statement i ≡ true
      → children_at s i ≡ first ∷ rest
      → is_leaf s first ≡ true
      → count s (is_a s p_block) i ≡ 0
  pub switches : (i first : ℕ) (rest : List ℕ)
      → is_a s p_statement i ≡ true
      → children_at s i ≡ first ∷ rest
      → has_word s word_switch first ≡ true
      → (j k c d : ℕ)
      → slice_get (children_at s i) j ≡ Some c
      → slice_get (children_at s i) k ≡ Some d
      → is_a s p_expression c ≡ true
      → is_a s p_statement d ≡ true
      → j < k

-- so they are in each unit that is read, whatever the numbers of tags are
abbrev pub StatementsShaped : Type 0
StatementsShaped =
    (tokens : Tokens) (unit : ℕ) (tree : Tree) (tag_number : ℕ → ℕ)
    → IsUnit tokens unit tree
    → ShapedStatements (numbered tag_number (source_of tokens tree))
