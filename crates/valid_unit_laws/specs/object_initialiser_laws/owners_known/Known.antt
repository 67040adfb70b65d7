-- Locals and the lists of blocks in a unit that is built of a text.
use Rattle.std.specs.Prelude.{ℕ, List}
use Rattle.c_lexer.specs.declared.Tokens.{Tokens}
use Rattle.c_lexer.specs.Cut.{IsTokens}
use Rattle.c_grammar.specs.declared.trees.Tree.{Tree}
use Rattle.c_parser.specs.c_units.Units.{IsUnit}
use Rattle.core_tree.specs.declared.node.Unit.{Unit}
use Rattle.core_tree.specs.Typed.{CoreTrees, trees_of}
use Rattle.core_tree.specs.Valid.{InRows, Owned, Bodied, FixedStatics, InOwner, ListsRight}
use Rattle.c_senses.specs.Names.{source_of, numbered}
use Rattle.core_node_laws.specs.built_unit_laws.built_units.Built.{IsBuilt}
use Rattle.declaration_laws.specs.declared_type_laws.owner_laws.Owners.{DefinitionsNamed, Forward}

-- what other laws give: nodes in their rows, owners, bodies, what initialises static objects, and where automatic
-- objects are initialised
pub record HasOwners (u : CoreTrees) : Type 0 where
  pub rows : InRows u
  pub owned : Owned u
  pub bodied : Bodied u
  pub fixed : FixedStatics u
  pub forward : Forward u

pub record OwnersRight (u : CoreTrees) : Type 0 where
  pub in_owner : InOwner u
  pub lists : ListsRight u

-- where the block of a function stands in the definition of its name
abbrev pub OwnersKnown : Type 0
OwnersKnown =
    (tokens : Tokens) (unit : ℕ) (tree : Tree) (tag_number : ℕ → ℕ) (name : List ℕ) (u : Unit)
    → IsTokens tokens.text.now tokens.list.items
    → IsUnit tokens unit tree
    → (built : IsBuilt (numbered tag_number (source_of tokens tree)) name u)
    → DefinitionsNamed (numbered tag_number (source_of tokens tree)) built.senses
    → HasOwners (trees_of u)
    → OwnersRight (trees_of u)
