-- Units that are made of the senses of a whole tree, and where their statements stand.
use Rattle.std.specs.Prelude.{ℕ, ◌≡◌, ◌<◌, ⊤, List, Some, IfSome, length, ◌⊎◌}
use Rattle.core_tree.specs.declared.node.Entity.{Entity}
use Rattle.core_tree.specs.declared.node.Unit.{Unit}
use Rattle.core_tree.specs.declared.node.Storage.TheVariants.{FunctionBody}
use Rattle.core_tree.specs.declared.node.NodeKind.{NodeKind}
use Rattle.core_tree.specs.declared.node.NodeKind.TheVariants.{CallNode}
use Rattle.core_tree.specs.Typed.{CoreTrees, trees_of}
use Rattle.core_tree.specs.Rows.{Initialises}
use Rattle.core_tree.specs.Range.{EachNode, EachEntity, IsChild, entity_at}
use Rattle.core_tree.specs.Valid.{InRows, MayStand}
use Rattle.c_consts.specs.Core.{InOrder}
use Rattle.parsed_tree_laws.specs.family_laws.Families.{Families}
use Rattle.parsed_tree_laws.specs.nesting_laws.Nested.{Nested}
use Rattle.core_nodes.specs.passed.c_senses.Tree.{Source}
use Rattle.core_nodes.specs.passed.c_senses.Rows.{AreSenses}
use Rattle.core_nodes.specs.passed.c_senses.Sense.{Sense, IsRun, sense_in}
use Rattle.core_nodes.specs.passed.c_senses.Right.{Numbering, Declared, IsDeclaredAt, IsEntityOf, IsBody}
use Rattle.parsed_tree_laws.specs.passed.sense_laws.Senses.{ChildrenFirst, StatementGrammar, AreInitialisers}

-- what the trees of texts are
pub record IsGrown (s : Source) : Type 0 where
  pub first : ChildrenFirst s
  pub families : Families s
  pub statements : StatementGrammar s
  pub nested : Nested s

-- a unit of what is declared, by its senses, up to the numbers of entities: each node is a body or stands under one
pub record IsMade (s : Source) (senses : List Sense) (numbering : Numbering) (u : Unit) : Type 0 where
  pub are_senses : AreSenses s senses
  pub whole : length senses ≡ length s.nodes
  pub each_declared : (d : ℕ) (what : Declared) → IsDeclaredAt s senses d what
      → (e : ℕ) × (entity : Entity) × (numbering d ≡ Some e) × (entity_at (trees_of u) e ≡ Some entity)
      × IsEntityOf numbering u s.unit what entity
  pub no_other_entity : (e : ℕ)
      → e < length u.entities.items
      → (d : ℕ) × (what : Declared) × IsDeclaredAt s senses d what × (numbering d ≡ Some e)
  pub ready : InOrder u.types u.nodes.items
  pub no_other_node : (i : ℕ) → i < length u.nodes.items → IsBody u i ⊎ ((p : ℕ) × IsChild (trees_of u) p i)

-- what declarations run is initialisers
abbrev pub RunsOf : Sense → Type 0
RunsOf (IsRun cores) = AreInitialisers cores
RunsOf x = ⊤

pub record RunsInitialise (senses : List Sense) : Type 0 where
  pub each : (i : ℕ) → RunsOf (sense_in senses i)

-- the bodies of functions, and those of objects, which initialise them
abbrev pub IsBodyOf : CoreTrees → ℕ → Entity → Type 0
IsBodyOf u e entity = IfSome entity.body (λ b. (entity.storage ≡ FunctionBody) ⊎ Initialises u b e)

abbrev pub BodiesKnown : CoreTrees → Type 0
BodiesKnown u = EachEntity u (λ e entity. IsBodyOf u e entity)

-- where a node may stand that is no call
abbrev pub StatementStands : CoreTrees → ℕ → NodeKind → Type 0
StatementStands u n CallNode = ⊤
StatementStands u n kind = MayStand u n kind

-- 6.8: statements stand where they may
abbrev pub StatementsStand : Type 0
StatementsStand =
    (s : Source) (senses : List Sense) (numbering : Numbering) (u : Unit)
    → IsGrown s
    → IsMade s senses numbering u
    → RunsInitialise senses
    → InRows (trees_of u)
    → BodiesKnown (trees_of u)
    → EachNode (trees_of u) (λ n node. StatementStands (trees_of u) n node.kind)
