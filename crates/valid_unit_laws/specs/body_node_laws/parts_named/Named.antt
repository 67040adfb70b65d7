-- What is declared by the parts of a unit, whose nodes are made anew.
use Rattle.std.specs.Prelude.{ℕ, ◌≡◌, ◌⊎◌, ⊤, false, ◌++◌, List, [], ◌∷◌, Option, Some, map, All, IsTrue}
use Rattle.c_lexer.specs.declared.Tokens.{Tokens}
use Rattle.c_lexer.specs.Cut.{IsTokens}
use Rattle.c_grammar.specs.declared.trees.Tree.{Tree}
use Rattle.c_parser.specs.c_units.Units.{IsUnit}
use Rattle.core_tree.specs.declared.node.Unit.{Unit}
use Rattle.core_tree.specs.declared.node.NodeKind.TheVariants.{Named, FunctionName, Literal, Initialise}
use Rattle.c_consts.specs.Core.{Core, kind_of}
use Rattle.c_inits.specs.Shapes.{Path}
use Rattle.core_nodes.specs.Standing.{IsReady}
use Rattle.c_senses.specs.Tree.{Source}
use Rattle.c_senses.specs.Names.{source_of, numbered}
use Rattle.c_senses.specs.Sense.{Sense, sense_in}
use Rattle.c_senses.specs.Entities.{is_linked}
use Rattle.c_senses.specs.Right as right
use Rattle.core_node_laws.specs.built_unit_laws.built_laws.Placed.{IsInBody}
use Rattle.unit_finish.specs.declared.unit_parts.declared.Declared.{Declared}
use Rattle.unit_finish.specs.unit_parts.Renamed.{literals_in}
use Rattle.unit_finish.specs.unit_parts.Entities.{numbering_of, is_owner_known, EachApart}
use Rattle.unit_finish.specs.own_bodies.Own.{HaveOwnBodies}
use Rattle.unit_finish.specs.declared.planted_nodes.planting.Planted.{Planted}
use Rattle.unit_finish.specs.planted_nodes.Planted.{IsPlanted}
use Rattle.unit_finish.specs.declared.keeping.Kept.{Kept}
use Rattle.unit_finish.specs.Complete.{IsKept, IsNamedWhole}
use Rattle.unit_finish.specs.Walked.{IsWalked, literal_entry}

-- the senses of a whole tree with a unit that has their nodes, and what its names declare; of the nodes those under
-- the bodies of that, and these made anew with what is declared at names and at the compound literals among them
pub record AreParts (s : Source) : Type 0 where
  pub senses : List Sense
  pub walked : Unit
  pub keys : List (Option (List ℕ))
  pub listed : List Declared
  pub names : List Declared
  pub kept : Kept
  pub planted : Planted
  pub ready : IsReady walked
  pub made : IsWalked s senses walked keys names
  pub owned : HaveOwnBodies walked.nodes.items listed names
  pub stay : IsKept walked.nodes.items names kept
  pub are_planted : IsPlanted kept.nodes.items
      (kept.names.items ++ map (literal_entry s senses) (literals_in kept.nodes.items)) planted

-- each owner is declared
abbrev pub PartsOwned : Type 0
PartsOwned =
    (tokens : Tokens) (unit : ℕ) (tree : Tree) (tag_number : ℕ → ℕ)
    → IsTokens tokens.text.now tokens.list.items
    → IsUnit tokens unit tree
    → (p : AreParts (numbered tag_number (source_of tokens tree)))
    → All (λ x. IsTrue (is_owner_known (numbering_of p.planted.list.items) x.owner)) p.planted.list.items

-- no two have one leaf
abbrev pub PartsApart : Type 0
PartsApart =
    (tokens : Tokens) (unit : ℕ) (tree : Tree) (tag_number : ℕ → ℕ)
    → IsTokens tokens.text.now tokens.list.items
    → IsUnit tokens unit tree
    → (p : AreParts (numbered tag_number (source_of tokens tree)))
    → EachApart p.planted.list.items

-- ---- what the trees of bodies name

module _ (s : Source) (senses : List Sense) where
  abbrev pub IsDeclared : ℕ → Type 0
  IsDeclared d = (what : right.Declared) × (right.declared_name s senses d ≡ Some what)

  -- a compound literal of that leaf stands in a body
  pub record IsLiteralThere (d : ℕ) : Type 0 where
    pub tree : Core
    pub in_body : IsInBody s senses tree
    pub kind : kind_of tree ≡ Literal d

  abbrev pub AreDeclared : List ℕ → Type 0
  AreDeclared [] = ⊤
  AreDeclared (d ∷ ds) = IsDeclared d × AreDeclared ds

  -- in all trees in bodies a name without linkage is one that declares something, and what initialises an entity
  -- without linkage is of such a name, or of a compound literal
  pub record AreKnown : Type 0 where
    pub unlinked : (c : Core) (d : ℕ)
        → IsInBody s senses c
        → (kind_of c ≡ Named d) ⊎ (kind_of c ≡ FunctionName d)
        → is_linked s (sense_in senses) d ≡ false
        → IsDeclared d
    pub initials : (c : Core) (d : ℕ) (paths : List Path)
        → IsInBody s senses c
        → kind_of c ≡ Initialise d paths
        → is_linked s (sense_in senses) d ≡ false
        → IsDeclared d ⊎ IsLiteralThere d

-- then each entity that a node names is declared
abbrev pub PartsKnown : Type 0
PartsKnown =
    (tokens : Tokens) (unit : ℕ) (tree : Tree) (tag_number : ℕ → ℕ)
    → IsTokens tokens.text.now tokens.list.items
    → IsUnit tokens unit tree
    → (p : AreParts (numbered tag_number (source_of tokens tree)))
    → AreKnown (numbered tag_number (source_of tokens tree)) p.senses
    → IsNamedWhole p.planted.nodes.items p.planted.list.items
