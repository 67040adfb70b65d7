-- How many parts of some sorts external declarations and statements of a parsed tree have (C11 6.8, 6.9).
use Rattle.std.specs.Prelude.{ℕ, ◌≡◌, ◌≤◌, Bool, true, ◌||◌, List, ◌∷◌, length}
use Rattle.c_lexer.specs.declared.Tokens.{Tokens}
use Rattle.c_grammar.specs.declared.trees.Tree.{Tree}
use Rattle.c_grammar.specs.Productions.{p_external, p_rest, p_field, p_declarator, p_abstract, p_either, p_block}
use Rattle.c_grammar.specs.Productions.{p_statement}
use Rattle.c_grammar.specs.Words.{word_case, word_default, word_switch, word_while, word_do, word_for}
use Rattle.c_parser.specs.c_units.Units.{IsUnit}
use Rattle.c_senses.specs.Names.{source_of, numbered}
use Rattle.c_senses.specs.Tree.{Source, is_a, is_name, has_word, children_at, all_where}

-- how many children of a node pass a test
abbrev pub count : Source → (ℕ → Bool) → ℕ → ℕ
count s test i = length (all_where test (children_at s i))

-- what ends an external declaration
abbrev pub is_ending : Source → ℕ → Bool
is_ending s c = is_a s p_block c || is_a s p_rest c

-- what stands in no external declaration but in its parts
abbrev pub is_inner : Source → ℕ → Bool
is_inner s c = is_a s p_field c || (is_a s p_abstract c || is_a s p_either c)

-- the leaf that begins a statement over one other
abbrev pub begins_one : Source → ℕ → Bool
begins_one s c =
    is_name s c
    || (has_word s word_case c
    || (has_word s word_default c
    || (has_word s word_switch c
    || (has_word s word_while c || (has_word s word_do c || has_word s word_for c)))))

pub record CountedParts (s : Source) : Type 0 where
  pub declarators : (i : ℕ) → is_a s p_external i ≡ true → count s (is_a s p_declarator) i ≤ 1
  pub inner : (i : ℕ) → is_a s p_external i ≡ true → count s (is_inner s) i ≡ 0
  pub endings : (i : ℕ) → is_a s p_external i ≡ true → count s (is_ending s) i ≤ 1
  pub statements : (i : ℕ) → is_a s p_statement i ≡ true → count s (is_a s p_statement) i ≤ 2
  pub begun : (i first : ℕ) (rest : List ℕ)
      → is_a s p_statement i ≡ true
      → children_at s i ≡ first ∷ rest
      → begins_one s first ≡ true
      → count s (is_a s p_statement) i ≤ 1

-- so it is in each unit that is read, whatever the numbers of tags are
abbrev pub PartsAreCounted : Type 0
PartsAreCounted =
    (tokens : Tokens) (unit : ℕ) (tree : Tree) (tag_number : ℕ → ℕ)
    → IsUnit tokens unit tree
    → CountedParts (numbered tag_number (source_of tokens tree))
