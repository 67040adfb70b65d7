-- What a built unit declares within functions has those as owners.
use Rattle.std.specs.Prelude.{ℕ, ◌≡◌, true, List}
use Rattle.c_lexer.specs.declared.Tokens.{Tokens}
use Rattle.c_lexer.specs.Cut.{IsTokens}
use Rattle.c_grammar.specs.declared.trees.Tree.{Tree}
use Rattle.c_parser.specs.c_units.Units.{IsUnit}
use Rattle.core_tree.specs.declared.node.Unit.{Unit}
use Rattle.core_tree.specs.Typed.{trees_of}
use Rattle.core_tree.specs.Valid.{Owned}
use Rattle.c_senses.specs.Tree.{Source}
use Rattle.c_senses.specs.Names.{source_of, numbered}
use Rattle.c_senses.specs.Sense.{Sense, sense_in}
use Rattle.c_senses.specs.Entities.{is_internal, entity_of}
use Rattle.c_senses.specs.Right.{representative}
use Rattle.declaration_laws.specs.definition_laws.linkage_laws.PassedOn.{is_definition}
use Rattle.declaration_laws.specs.definition_laws.function_definitions.Defined.{Defines}
use Rattle.declaration_laws.specs.definition_laws.linkage_laws.PassedOn.{IsBuilt}

-- an internal name that is defined as a function is known by that definition
abbrev pub InternalsDefined : Source → List Sense → Type 0
InternalsDefined s senses =
    (d : ℕ)
    → is_definition s d ≡ true
    → (h : Defines s senses d)
    → is_internal s (sense_in senses) h.name ≡ true
    → representative s senses (entity_of s (sense_in senses) h.name) ≡ h.name

-- an automatic object and a parameter have an owner, and each owner is a function
abbrev pub OwnersStand : Type 0
OwnersStand =
    (tokens : Tokens) (unit : ℕ) (tree : Tree) (tag_number : ℕ → ℕ) (name : List ℕ) (u : Unit)
    → IsTokens tokens.text.now tokens.list.items
    → IsUnit tokens unit tree
    → (b : IsBuilt (numbered tag_number (source_of tokens tree)) name u)
    → InternalsDefined (numbered tag_number (source_of tokens tree)) b.senses
    → Owned (trees_of u)
