-- Which variadic function a name is the last parameter of (C11 7.16.1.4).
use Rattle.std.specs.Prelude.{ℕ, ◌≡◌, ◌<◌, true, false, take, length, List, Some}
use Rattle.c_lexer.specs.declared.Tokens.{Tokens}
use Rattle.c_lexer.specs.Cut.{IsTokens}
use Rattle.c_types.specs.declared.term.Form.TheVariants.{Variadic}
use Rattle.c_grammar.specs.declared.trees.Tree.{Tree}
use Rattle.c_parser.specs.c_units.Units.{IsUnit}
use Rattle.c_senses.specs.Tree.{Source}
use Rattle.c_senses.specs.Names.{source_of, numbered}
use Rattle.c_senses.specs.Entities.{entity_of, function_around, is_linked, is_internal}
use Rattle.c_senses.specs.Right.{representative}
use Rattle.c_senses.specs.Sense.{Sense, sense_in}
use Rattle.c_senses.specs.Rows.{AreSenses, world_at}
use Rattle.declaration_laws.specs.declared_type_laws.owner_laws.passed.definition_laws.Definitions.{is_definition}
use Rattle.declaration_laws.specs.declared_type_laws.owner_laws.passed.definition_laws.function_definitions.Defined.{Defines}

-- a function that is found at a node for the name of its last parameter is the one in whose definition that name
-- stands, which has no linkage; it is variadic, and its declarator stands before the node. Where its name is internal,
-- it is known by this definition.
pub record IsFurther (s : Source) (senses : List Sense) (at leaf function : ℕ) : Type 0 where
  pub unlinked : is_linked s (sense_in senses) leaf ≡ false
  pub definition : ℕ
  pub is : is_definition s definition ≡ true
  pub defines : Defines s senses definition
  pub around : function_around s (sense_in senses) leaf ≡ Some defines.name
  pub entity : entity_of s (sense_in senses) defines.name ≡ function
  pub known : entity_of s (sense_in (take at senses)) defines.name ≡ function
  pub before : defines.declarator < at
  pub form : defines.form ≡ Variadic
  pub represents : is_internal s (sense_in senses) defines.name ≡ true
      → representative s senses (entity_of s (sense_in senses) defines.name) ≡ defines.name

-- so it is in each unit that is read, whose rows all fit
abbrev pub FurtherFound : Type 0
FurtherFound =
    (tokens : Tokens) (unit : ℕ) (tree : Tree) (tag_number : ℕ → ℕ) (senses : List Sense)
    → IsTokens tokens.text.now tokens.list.items
    → IsUnit tokens unit tree
    → AreSenses (numbered tag_number (source_of tokens tree)) senses
    → length senses ≡ length (numbered tag_number (source_of tokens tree)).nodes
    → (at leaf function : ℕ)
    → (world_at (numbered tag_number (source_of tokens tree)) (take at senses) at).further leaf ≡ Some function
    → IsFurther (numbered tag_number (source_of tokens tree)) senses at leaf function
