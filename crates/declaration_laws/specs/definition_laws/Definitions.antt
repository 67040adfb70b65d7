-- What stands in blocks stands in the definition of a function (C11 6.8.2, 6.9.1).
use Rattle.std.specs.Prelude.{ℕ, ◌≡◌, true, false, List, ◌&&◌, ◌||◌, Bool, Some, is_some}
use Rattle.c_lexer.specs.declared.Tokens.{Tokens}
use Rattle.c_lexer.specs.Cut.{IsTokens}
use Rattle.c_grammar.specs.declared.trees.Tree.{Tree}
use Rattle.c_grammar.specs.Productions.{p_external, p_declaration, p_block, p_statement}
use Rattle.c_parser.specs.c_units.Units.{IsUnit}
use Rattle.c_senses.specs.Names.{source_of, numbered}
use Rattle.c_senses.specs.Tree.{Source, is_a, child_of, nearest_above}
use Rattle.c_senses.specs.Sense.{Sense, sense_in}
use Rattle.c_senses.specs.Entities.{declaration_of}
use Rattle.c_senses.specs.Right.{stands_in_declaration}
use Rattle.core_node_laws.specs.count_laws.passed.parsed_tree_laws.member_names.PassedOn.{IsChild}

-- an external declaration with a block: the definition of a function
abbrev pub is_definition : Source → ℕ → Bool
is_definition s p = is_a s p_external p && is_some (child_of s p_block p)

-- it is one, or a child of what is one or stands under one
pub data InDefinition (s : Source) : ℕ → Type 0 where
  itself : {p : ℕ} → is_definition s p ≡ true → InDefinition s p
  below : {p c : ℕ} → IsChild s p c → InDefinition s p → InDefinition s c

abbrev pub is_block_part : Source → ℕ → Bool
is_block_part s i = is_a s p_declaration i || (is_a s p_block i || is_a s p_statement i)

-- blocks, statements and declarations within blocks
abbrev pub BlockPartsAreDefined : Type 0
BlockPartsAreDefined =
    (tokens : Tokens) (unit : ℕ) (tree : Tree) (tag_number : ℕ → ℕ) (i : ℕ)
    → IsUnit tokens unit tree
    → is_block_part (numbered tag_number (source_of tokens tree)) i ≡ true
    → InDefinition (numbered tag_number (source_of tokens tree)) i

-- the nearest definition above a node
pub record HasDefinition (s : Source) (i : ℕ) : Type 0 where
  pub definition : ℕ
  pub nearest : nearest_above s (is_definition s) i ≡ Some definition
  pub is : is_definition s definition ≡ true

-- what is a child of what is or stands in a definition has one
abbrev pub DefinitionsAreFound : Type 0
DefinitionsAreFound =
    (tokens : Tokens) (unit : ℕ) (tree : Tree) (tag_number : ℕ → ℕ) (p c : ℕ)
    → IsTokens tokens.text.now tokens.list.items
    → IsUnit tokens unit tree
    → IsChild (numbered tag_number (source_of tokens tree)) p c
    → InDefinition (numbered tag_number (source_of tokens tree)) p
    → HasDefinition (numbered tag_number (source_of tokens tree)) c

-- so has the leaf of what a declaration declares that isn't external, or the parameter of a definition
abbrev pub LocalsAreDefined : Type 0
LocalsAreDefined =
    (tokens : Tokens) (unit : ℕ) (tree : Tree) (tag_number : ℕ → ℕ) (senses : List Sense) (leaf p : ℕ)
    → IsTokens tokens.text.now tokens.list.items
    → IsUnit tokens unit tree
    → declaration_of (numbered tag_number (source_of tokens tree)) (sense_in senses) leaf ≡ Some p
    → is_a (numbered tag_number (source_of tokens tree)) p_external p ≡ false
    → stands_in_declaration (numbered tag_number (source_of tokens tree)) senses leaf ≡ true
    → HasDefinition (numbered tag_number (source_of tokens tree)) leaf
