-- Which numbers the nodes under a node of a parsed tree have, and where what follows a primary stands (C11 6.5.2).
use Rattle.std.specs.Prelude.{ℕ, suc, ◌+◌, ◌≤◌, ◌<◌, ◌≡◌, ◌||◌, true, List, [], ◌∷◌, Some, length, take, slice_get}
use Rattle.std.specs.Prelude.{if◌then◌else◌}
use Rattle.c_lexer.specs.declared.Tokens.{Tokens}
use Rattle.c_grammar.specs.declared.trees.Tree.{Tree}
use Rattle.c_grammar.specs.Productions.{p_rest, p_asm_name, p_declarator, p_init, p_items, p_cast, p_unary, p_post}
use Rattle.c_grammar.specs.Productions.{p_primary}
use Rattle.c_parser.specs.c_units.Units.{IsUnit}
use Rattle.c_senses.specs.Names.{source_of, numbered}
use Rattle.c_senses.specs.Tree.{Source, children_at, is_a, is_leaf}

-- a node and all that is under it have the numbers from one on up to its own: its parts one after another, and then
-- itself
mutual
  pub data Spans (s : Source) : ℕ → ℕ → Type 0 where
    over : {low i : ℕ} → Runs s low (children_at s i) i → Spans s low i

  -- nodes one after another, from a number on up to one that is none of theirs
  pub data Runs (s : Source) : ℕ → List ℕ → ℕ → Type 0 where
    no_more : {low : ℕ} → Runs s low [] low
    one_more : {low c high : ℕ} {rest : List ℕ}
        → Spans s low c
        → Runs s (suc c) rest high
        → Runs s low (c ∷ rest) high

-- a leaf weighs one, and any other node two
abbrev pub weights : Source → List ℕ → ℕ
weights s [] = 0
weights s (c ∷ rest) = (if is_leaf s c then 1 else 2) + weights s rest

pub record Spanned (s : Source) : Type 0 where
  -- all nodes stand under the last one
  pub root : ℕ
  pub last : suc root ≡ length s.nodes
  pub whole : Spans s 0 root
  pub each : (i : ℕ) → i < length s.nodes → (low : ℕ) × Spans s low i
  -- a leaf has no parts
  pub leaves : (i : ℕ) → is_leaf s i ≡ true → children_at s i ≡ []
  -- what follows a primary stands behind a node that is no leaf, or behind two nodes; in a unary expression or a
  -- cast; and begins with a leaf
  pub behind : (i k c : ℕ)
      → slice_get (children_at s i) k ≡ Some c
      → is_a s p_post c ≡ true
      → 2 ≤ weights s (take k (children_at s i))
  pub parents : (i k c : ℕ)
      → slice_get (children_at s i) k ≡ Some c
      → is_a s p_post c ≡ true
      → (is_a s p_unary i || is_a s p_cast i) ≡ true
  pub begins : (i first : ℕ) (rest : List ℕ)
      → is_a s p_post i ≡ true
      → children_at s i ≡ first ∷ rest
      → is_leaf s first ≡ true
  pub primaries : (i first : ℕ) (rest : List ℕ)
      → is_a s p_primary i ≡ true
      → children_at s i ≡ first ∷ rest
      → is_leaf s first ≡ true
  -- in the rest of a declaration stand leaves, names of the assembler, declarators and initialisers alone; and a
  -- node has one list of items at most as a part
  pub rests : (i k c : ℕ)
      → is_a s p_rest i ≡ true
      → slice_get (children_at s i) k ≡ Some c
      → (is_leaf s c || (is_a s p_asm_name c || (is_a s p_declarator c || is_a s p_init c))) ≡ true
  pub lists : (i j k c d : ℕ)
      → slice_get (children_at s i) j ≡ Some c
      → slice_get (children_at s i) k ≡ Some d
      → is_a s p_items c ≡ true
      → is_a s p_items d ≡ true
      → j ≡ k

-- so it is in each unit that is read, whatever the numbers of tags are
abbrev pub UnitsAreSpanned : Type 0
UnitsAreSpanned =
    (tokens : Tokens) (unit : ℕ) (tree : Tree) (tag_number : ℕ → ℕ)
    → IsUnit tokens unit tree
    → Spanned (numbered tag_number (source_of tokens tree))
