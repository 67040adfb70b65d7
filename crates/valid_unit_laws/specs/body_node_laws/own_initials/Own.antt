-- Where automatic objects are initialised (C11 6.7.9, 6.8).
use Rattle.std.specs.Prelude.{ℕ, ◌≡◌, List, Some, length}
use Rattle.c_lexer.specs.declared.Tokens.{Tokens}
use Rattle.c_lexer.specs.Cut.{IsTokens}
use Rattle.c_grammar.specs.declared.trees.Tree.{Tree}
use Rattle.c_parser.specs.c_units.Units.{IsUnit}
use Rattle.core_tree.specs.declared.node.NodeKind.TheVariants.{Initialise}
use Rattle.core_tree.specs.declared.node.Storage.TheVariants.{Automatic, FunctionBody}
use Rattle.c_consts.specs.Core.{Core, kind_of}
use Rattle.c_inits.specs.Shapes.{Path}
use Rattle.c_senses.specs.Tree.{Source}
use Rattle.c_senses.specs.Names.{source_of, numbered}
use Rattle.c_senses.specs.Sense.{Sense}
use Rattle.c_senses.specs.Rows.{AreSenses}
use Rattle.c_senses.specs.Right.{Declared, declared_name, Within}

-- the body of an automatic object stands in that of a function
pub record StandsInFunction (s : Source) (senses : List Sense) (x : Core) : Type 0 where
  pub function : ℕ
  pub what : Declared
  pub block : Core
  pub declares : declared_name s senses function ≡ Some what
  pub storage : what.storage ≡ FunctionBody
  pub body : what.body ≡ Some block
  pub within : Within s senses x block

pub record InitialisesOwn (s : Source) (senses : List Sense) : Type 0 where
  -- what initialises an automatic object, in the body of what is declared at any name, is that object's own body
  pub own : (d leaf : ℕ) (what object : Declared) (c x : Core) (paths : List Path)
      → declared_name s senses d ≡ Some what
      → what.body ≡ Some c
      → Within s senses x c
      → kind_of x ≡ Initialise leaf paths
      → declared_name s senses leaf ≡ Some object → object.storage ≡ Automatic → object.body ≡ Some x
  -- which initialises it, and stands in the body of a function
  pub initialises : (leaf : ℕ) (object : Declared) (x : Core)
      → declared_name s senses leaf ≡ Some object
      → object.storage ≡ Automatic
      → object.body ≡ Some x
      → (paths : List Path) × (kind_of x ≡ Initialise leaf paths)
  pub stands : (leaf : ℕ) (object : Declared) (x : Core)
      → declared_name s senses leaf ≡ Some object
      → object.storage ≡ Automatic
      → object.body ≡ Some x
      → StandsInFunction s senses x

abbrev pub UnitsInitialiseOwn : Type 0
UnitsInitialiseOwn =
    (tokens : Tokens) (unit : ℕ) (tree : Tree) (tag_number : ℕ → ℕ) (senses : List Sense)
    → IsTokens tokens.text.now tokens.list.items
    → IsUnit tokens unit tree
    → AreSenses (numbered tag_number (source_of tokens tree)) senses
    → length senses ≡ length (numbered tag_number (source_of tokens tree)).nodes
    → InitialisesOwn (numbered tag_number (source_of tokens tree)) senses
