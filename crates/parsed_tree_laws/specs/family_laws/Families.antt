-- Whose child a node of a parsed tree is, in which order, and what lists of members and specifiers of structures
-- are made of (C11 6.7.2.1).
use Rattle.std.specs.Prelude.{ℕ, suc, ◌≡◌, ◌≤◌, ⊤, Bool, true, ◌||◌, List, [], ◌∷◌, Some, None, is_some, slice_get}
use Rattle.c_lexer.specs.declared.Tokens.{Tokens}
use Rattle.c_lexer.specs.Cut.{IsTokens}
use Rattle.c_grammar.specs.declared.trees.Tree.{Tree}
use Rattle.c_grammar.specs.Productions.{p_assert, p_specs, p_struct, p_members, p_member, p_field}
use Rattle.c_grammar.specs.Words.{word_union}
use Rattle.c_parser.specs.c_units.Units.{IsUnit}
use Rattle.c_senses.specs.Names.{source_of, numbered}
use Rattle.c_senses.specs.Tree.{Source, is_a, is_leaf, is_number, children_at, word_at, child_of}
use Rattle.c_senses.specs.Tags.{is_union, tag_leaf}

-- a node is a child of another one
abbrev pub IsChild : Source → ℕ → ℕ → Type 0
IsChild s i c = (k : ℕ) × (slice_get (children_at s i) k ≡ Some c)

-- numbers that ascend
abbrev pub Ascend : ℕ → List ℕ → Type 0
Ascend low [] = ⊤
Ascend low (k ∷ ks) = (low ≤ k) × Ascend (suc k) ks

-- what may stand in a list of members: a token, and declarations of members; and in one of these: a token, an
-- assertion, specifiers and fields
abbrev pub is_list_part : Source → ℕ → Bool
is_list_part s c = is_leaf s c || is_a s p_member c

abbrev pub is_member_part : Source → ℕ → Bool
is_member_part s c = is_leaf s c || (is_a s p_assert c || (is_a s p_specs c || is_a s p_field c))

-- each node is a child of one at most, children ascend, lists have their parts alone, and a specifier of a
-- structure or union is one of a union as its first word says, and has a tag or a list
pub record Families (s : Source) : Type 0 where
  pub single : (i j c : ℕ) → IsChild s i c → IsChild s j c → i ≡ j
  pub ascend : (i : ℕ) → Ascend 0 (children_at s i)
  pub lists : (i c : ℕ) → is_a s p_members i ≡ true → IsChild s i c → is_list_part s c ≡ true
  pub members : (i c : ℕ) → is_a s p_member i ≡ true → IsChild s i c → is_member_part s c ≡ true
  pub words : (i : ℕ) → is_a s p_struct i ≡ true → is_union s i ≡ is_number (word_at s i) word_union
  pub untagged : (i : ℕ) → is_a s p_struct i ≡ true → tag_leaf s i ≡ None → is_some (child_of s p_members i) ≡ true

-- so it is in each unit that is read, whatever the numbers of tags are
abbrev pub UnitsAreFamilies : Type 0
UnitsAreFamilies =
    (tokens : Tokens) (unit : ℕ) (tree : Tree) (tag_number : ℕ → ℕ)
    → IsTokens tokens.text.now tokens.list.items
    → IsUnit tokens unit tree
    → Families (numbered tag_number (source_of tokens tree))
