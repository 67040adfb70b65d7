-- Trees in which an object is named under a node that lists it alone.
use Rattle.std.specs.Prelude.{ℕ, ◌≡◌, ⊤, true, false, List, length, ◌⊎◌}
use Rattle.c_lexer.specs.declared.Tokens.{Tokens}
use Rattle.c_lexer.specs.Cut.{IsTokens}
use Rattle.c_grammar.specs.declared.trees.Tree.{Tree}
use Rattle.c_grammar.specs.Productions.{p_external, p_block}
use Rattle.c_grammar.specs.Terminals.{contains}
use Rattle.c_parser.specs.c_units.Units.{IsUnit}
use Rattle.core_tree.specs.declared.node.NodeKind.{NodeKind}
use Rattle.core_tree.specs.declared.node.NodeKind.TheVariants.{Named, Block, For, Initialise}
use Rattle.c_consts.specs.Core.{Core, Cores, Of, NoCores, MoreCores, kind_of}
use Rattle.c_senses.specs.Names.{source_of, numbered}
use Rattle.c_senses.specs.Tree.{Source, is_a, is_name}
use Rattle.c_senses.specs.Entities.{is_linked}
use Rattle.c_senses.specs.Sense.{Sense, IsCore, sense_in}
use Rattle.c_senses.specs.Rows.{AreSenses}
use Rattle.declaration_laws.specs.declared_type_laws.owner_laws.passed.definition_laws.scope_laws.Beneath.{Beneath}
use Rattle.declaration_laws.specs.declared_type_laws.owner_laws.passed.definition_laws.scope_laws.Scoped.{IsPart}
use Rattle.valid_unit_laws.specs.object_initialiser_laws.block_uses.Uses.{OpensOwn, DeclaredIn}

-- a node that lists the object
abbrev pub ListsIt : ℕ → NodeKind → Type 0
ListsIt d (Block ds) = contains ds d ≡ true
ListsIt d (For ds c a) = contains ds d ≡ true
ListsIt d kind = ⊥

-- a node that neither names nor initialises it
abbrev pub IsBare : ℕ → NodeKind → Type 0
IsBare d (Named x) = x ≡ d → ⊥
IsBare d (Initialise x paths) = x ≡ d → ⊥
IsBare d kind = ⊤

-- each node that names or initialises it stands under one that lists it
abbrev mutual
  pub Covered : ℕ → Core → Type 0
  Covered d (Of kind place type under) = ListsIt d kind ⊎ (IsBare d kind × AllCovered d under)

  pub AllCovered : ℕ → Cores → Type 0
  AllCovered d NoCores = ⊤
  AllCovered d (MoreCores c rest) = Covered d c × AllCovered d rest

-- what is asked of a block in the block of an external declaration, and of a name without linkage that it declares
pub record IsBlockOf (s : Source) (senses : List Sense) (p block b leaf : ℕ) : Type 0 where
  pub external : is_a s p_external p ≡ true
  pub part : IsPart s p block
  pub is_block : is_a s p_block block ≡ true
  pub within : Beneath (IsPart s) block b
  pub opens : OpensOwn s b
  pub declared : DeclaredIn s b leaf
  pub name : is_name s leaf ≡ true
  pub linkage : is_linked s (sense_in senses) leaf ≡ false
  pub core : Core
  pub sensed : sense_in senses b ≡ IsCore core
  pub lists : ListsIt leaf (kind_of core)

abbrev pub BlocksCover : Type 0
BlocksCover =
    (tokens : Tokens) (unit : ℕ) (tree : Tree) (tag_number : ℕ → ℕ) (senses : List Sense)
    → IsTokens tokens.text.now tokens.list.items
    → IsUnit tokens unit tree
    → AreSenses (numbered tag_number (source_of tokens tree)) senses
    → length senses ≡ length (numbered tag_number (source_of tokens tree)).nodes
    → (p block b leaf : ℕ)
    → IsBlockOf (numbered tag_number (source_of tokens tree)) senses p block b leaf
    → (core : Core)
    → sense_in senses block ≡ IsCore core
    → Covered leaf core
