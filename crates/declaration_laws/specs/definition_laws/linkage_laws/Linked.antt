-- Where names with linkage are declared (C11 6.2.2), and that what a built unit declares within functions has none.
use Rattle.std.specs.Prelude.{ℕ, ◌≡◌, ◌||◌, true, false, List, length}
use Rattle.c_lexer.specs.declared.Tokens.{Tokens}
use Rattle.c_grammar.specs.declared.trees.Tree.{Tree}
use Rattle.c_grammar.specs.Words.{word_extern}
use Rattle.declaration_laws.specs.definition_laws.PassedOn.{IsUnit}
use Rattle.c_lexer.specs.Cut.{IsTokens}
use Rattle.core_tree.specs.declared.node.Unit.{Unit}
use Rattle.core_tree.specs.Typed.{trees_of}
use Rattle.core_tree.specs.Range.{EachEntity}
use Rattle.core_tree.specs.Linkages.{EntityLinkage}
use Rattle.core_node_laws.specs.built_unit_laws.built_units.Built.{IsBuilt}
use Rattle.c_senses.specs.Tree.{Source}
use Rattle.c_senses.specs.Names.{source_of, numbered}
use Rattle.c_senses.specs.Sense.{Sense, sense_in}
use Rattle.c_senses.specs.Rows.{AreSenses}
use Rattle.c_senses.specs.Entities.{is_linked, is_parameter, is_at_file, has_storage, declares_function}

-- a name with linkage is no parameter's, and it declares a function, or stands at file scope, or has the word
-- `extern`
pub record StandsLinked (s : Source) (sense : ℕ → Sense) (leaf : ℕ) : Type 0 where
  pub parameter : is_parameter s sense leaf ≡ false
  pub declared :
      (declares_function s sense leaf || (is_at_file s sense leaf || has_storage s sense word_extern leaf))
      ≡ true

-- so is each name in a unit that is read, whose rows all fit
abbrev pub LinkedNamesStand : Type 0
LinkedNamesStand =
    (tokens : Tokens) (unit : ℕ) (tree : Tree) (tag_number : ℕ → ℕ) (senses : List Sense) (leaf : ℕ)
    → IsTokens tokens.text.now tokens.list.items
    → IsUnit tokens unit tree
    → AreSenses (numbered tag_number (source_of tokens tree)) senses
    → length senses ≡ length (numbered tag_number (source_of tokens tree)).nodes
    → is_linked (numbered tag_number (source_of tokens tree)) (sense_in senses) leaf ≡ true
    → StandsLinked (numbered tag_number (source_of tokens tree)) (sense_in senses) leaf

-- so an automatic object and a parameter of a unit that is made of it have no linkage
abbrev pub EntitiesUnlinked : Type 0
EntitiesUnlinked =
    (tokens : Tokens) (unit : ℕ) (tree : Tree) (tag_number : ℕ → ℕ) (name : List ℕ) (u : Unit)
    → IsTokens tokens.text.now tokens.list.items
    → IsUnit tokens unit tree
    → IsBuilt (numbered tag_number (source_of tokens tree)) name u
    → EachEntity (trees_of u) (λ e entity. EntityLinkage entity)
