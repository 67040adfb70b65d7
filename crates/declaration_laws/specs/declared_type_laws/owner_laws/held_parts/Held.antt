-- What stands in what a statement or a block stands for.
use Rattle.std.specs.Prelude.{ℕ, ◌≡◌, true, ◌||◌, List, [], ◌∷◌, length, ◌⊎◌}
use Rattle.c_lexer.specs.declared.Tokens.{Tokens}
use Rattle.c_lexer.specs.Cut.{IsTokens}
use Rattle.c_grammar.specs.declared.trees.Tree.{Tree}
use Rattle.c_grammar.specs.Productions.{p_declaration, p_block, p_statement}
use Rattle.c_grammar.specs.Words.{word_for}
use Rattle.c_parser.specs.c_units.Units.{IsUnit}
use Rattle.c_consts.specs.Core.{Core, Cores, Of, NoCores, MoreCores}
use Rattle.c_senses.specs.Names.{source_of, numbered}
use Rattle.c_senses.specs.Tree.{Source, is_a, has_word, children_at}
use Rattle.c_senses.specs.Rows.{AreSenses}
use Rattle.c_senses.specs.Sense.{Sense, IsCore, IsRun, sense_in}
use Rattle.core_node_laws.specs.passed.parsed_tree_laws.family_laws.Families.{IsChild}

-- a tree is another one, or stands in a part of it
abbrev mutual
  pub StandsIn : Core → Core → Type 0
  StandsIn x (Of kind place type under) = (x ≡ Of kind place type under) ⊎ InSome x under

  pub InSome : Core → Cores → Type 0
  InSome x NoCores = ⊥
  InSome x (MoreCores c rest) = StandsIn x c ⊎ InSome x rest

abbrev pub InRun : Core → List Core → Type 0
InRun x [] = ⊥
InRun x (c ∷ rest) = StandsIn x c ⊎ InRun x rest

-- a tree stands in what a statement, a block or a declaration stands for
abbrev pub IsHeld : Core → Sense → Type 0
IsHeld x (IsCore c) = StandsIn x c
IsHeld x (IsRun cores) = InRun x cores
IsHeld x sense = ⊥

-- 6.8.5: a declaration that is a part of a statement begins what a `for` has in its parentheses
pub record ForDeclarations (s : Source) : Type 0 where
  pub first : (i c : ℕ) → is_a s p_statement i ≡ true → IsChild s i c → is_a s p_declaration c ≡ true
      → (word parenthesis : ℕ) × (rest : List ℕ) × (children_at s i ≡ word ∷ parenthesis ∷ c ∷ rest)
      × (has_word s word_for word ≡ true)

-- what stands in what a part of a block or of a statement stands for stands in what that one stands for
pub record PartsHeld (s : Source) (senses : List Sense) : Type 0 where
  pub each : (i c : ℕ) (x : Core)
      → (is_a s p_statement i || is_a s p_block i) ≡ true
      → IsChild s i c
      → (is_a s p_declaration c || (is_a s p_statement c || is_a s p_block c)) ≡ true
      → IsHeld x (sense_in senses c) → IsHeld x (sense_in senses i)

-- 6.8: so it is in each unit that is read, whatever the numbers of tags are
abbrev pub UnitsHoldParts : Type 0
UnitsHoldParts =
    (tokens : Tokens) (unit : ℕ) (tree : Tree) (tag_number : ℕ → ℕ) (senses : List Sense)
    → IsTokens tokens.text.now tokens.list.items
    → IsUnit tokens unit tree
    → AreSenses (numbered tag_number (source_of tokens tree)) senses
    → length senses ≡ length (numbered tag_number (source_of tokens tree)).nodes
    → PartsHeld (numbered tag_number (source_of tokens tree)) senses
